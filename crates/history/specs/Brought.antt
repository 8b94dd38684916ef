-- Acts as what happened to a world: each letter that a machine took had been put out before, and was addressed to it.
use Rattle.std.specs.Prelude.{◌≡◌, ◌⊎◌, ⊤, ℕ, zero, suc, nat_eq, Bool, true, false, List, [], ◌∷◌, ◌++◌, Option, Some, None, slice_get}
use Rattle.std.specs.Cmp.Lexicographic.{pointwise}
use Rattle.std.specs.List.{list_any}
use Rattle.store.specs.declared.letter.Letter.{Letter}
use Rattle.desk.specs.declared.reply.Out.{Out}
use Rattle.world.specs.declared.event.Entry as world
use Rattle.world.specs.declared.event.Event as events
use Rattle.world.specs.declared.event.Event.TheVariants as event
use Rattle.world.specs.declared.fault.Fault.{Fault}
use Rattle.world.specs.Machines.{is_order}
use Rattle.world.specs.Runs.{entry_of}
use Rattle.history.specs.declared.entry.Entry.{Entry}
use Rattle.history.specs.declared.entry.Input as inputs
use Rattle.history.specs.declared.entry.Input.TheVariants as input
use Rattle.history.specs.Merge.{Act}

-- a letter is addressed to a cell: 0 is the coordinator's, to which the sites send replies, and then come those of the sites, in the catalogue's order
abbrev pub IsFor : List (List ℕ) → ℕ → Letter → Type 0
IsFor sites zero letter = (is_order letter.body ≡ false) × (list_any (λ site. pointwise nat_eq site letter.site) sites ≡ true)
IsFor sites (suc k) letter = (is_order letter.body ≡ true) × (slice_get sites k ≡ Some letter.site)

-- what a cell took was the letter of this number, counted from 0, among those that were sent; another input needs none
abbrev pub IsBroughtAt : List (List ℕ) → List Letter → ℕ → ℕ → inputs.Input → Type 0
IsBroughtAt sites sent n cell (input.Take letter) = IsFor sites cell letter × (slice_get sent n ≡ Some letter)
IsBroughtAt sites sent n cell other = ⊤

-- what happens to a world where the coordinator is called for this; n: the number of the letter that it takes
abbrev pub desk_event : ℕ → inputs.Input → Bool → Option events.Event
desk_event n (input.Call call) kept = Some (event.Call call)
desk_event n (input.Take letter) kept = Some (event.Deliver n kept)
desk_event n (input.GiveUp ticket) kept = None
desk_event n input.Inquire kept = None
desk_event n input.Restart kept = Some (event.DeskRestarts true)

-- so where a site of this name is
abbrev pub site_event : List ℕ → ℕ → inputs.Input → Bool → Option events.Event
site_event name n (input.Call call) kept = None
site_event name n (input.Take letter) kept = Some (event.Deliver n kept)
site_event name n (input.GiveUp ticket) kept = Some (event.SiteGivesUp name ticket)
site_event name n input.Inquire kept = Some (event.SiteInquires name)
site_event name n input.Restart kept = Some (event.SiteRestarts name true)

abbrev pub named_event : Option (List ℕ) → ℕ → inputs.Input → Bool → Option events.Event
named_event None n asked kept = None
named_event (Some name) n asked kept = site_event name n asked kept

-- so where the machine of a cell is
abbrev pub event_of : List (List ℕ) → ℕ → ℕ → inputs.Input → Bool → Option events.Event
event_of sites n zero asked kept = desk_event n asked kept
event_of sites n (suc k) asked kept = named_event (slice_get sites k) n asked kept

-- what an entry put out
abbrev pub out_of : Entry → Out
out_of entry = record { letters = entry.letters; replies = entry.replies; kept = entry.kept }

abbrev pub happened_as : Entry → Option events.Event → List world.Entry
happened_as entry None = []
happened_as entry (Some what) = entry_of what (out_of entry) ∷ []

-- what happened to the world in an act: nothing where it was refused
abbrev pub happened_by : Option Fault → List (List ℕ) → ℕ → ℕ → Entry → List world.Entry
happened_by None sites n cell entry = happened_as entry (event_of sites n cell entry.input entry.kept)
happened_by (Some told) sites n cell entry = []

-- acts, after which these things have happened; sent: the letters that were put out before them. Each letter that a machine takes is among those
abbrev pub HaveHappened : List (List ℕ) → List Letter → List (Act Entry) → List world.Entry → Type 0
HaveHappened sites sent [] happened = happened ≡ []
HaveHappened sites sent (act ∷ acts) happened =
    (n : ℕ) × (IsBroughtAt sites sent n act.cell act.entry.input
    × ((rest : List world.Entry) × ((happened ≡ happened_by act.entry.fault sites n act.cell act.entry ++ rest)
    × HaveHappened sites (sent ++ act.entry.letters) acts rest)))

-- the act of this number took a letter that no act before it had put out, or that is addressed to another machine
abbrev pub IsNotBrought : List (List ℕ) → List Letter → List (Act Entry) → ℕ → Type 0
IsNotBrought sites sent [] k = ⊥
IsNotBrought sites sent (act ∷ acts) k = ((act.entry.number ≡ k) × ((n : ℕ) → IsBroughtAt sites sent n act.cell act.entry.input → ⊥)) ⊎ IsNotBrought sites (sent ++ act.entry.letters) acts k

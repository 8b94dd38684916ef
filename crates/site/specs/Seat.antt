-- A site of the code, as the protocol has it, and why it refuses something.
use Rattle.std.specs.Prelude.{◌≡◌, ◌⊎◌, ◌≤◌, ◌+◌, ◌^◌, ⊤, ℕ, nat_eq, Bool, false, List, []}
use Rattle.std.specs.Cmp.Lexicographic.{pointwise}
use Rattle.terms.specs.declared.leaf.Leaf.{Leaf}
use Rattle.store.specs.declared.fault.StoreFault.TheVariants as store_faults
use Rattle.store.specs.declared.letter.Letter.{Letter}
use Rattle.store.specs.SiteContent.{SiteContent}
use Rattle.protocol.specs.Catalogues.{Catalogues, listed, site_at}
use Rattle.protocol.specs.Local.{local}
use Rattle.protocol.specs.Site.{SiteState, Dead}
use Rattle.site.specs.declared.fault.SiteFault as faults
use Rattle.site.specs.declared.fault.SiteFault.TheVariants as fault
use Rattle.site.specs.declared.locks.Locks.{Locks}
use Rattle.site.specs.declared.site.Site.{Site}
use Rattle.site.specs.Locks.{leaves_in}
use Rattle.site.specs.Recovery.{IsStrange}
use Rattle.site.specs.Refusals.{AsksElsewhere, AsksStore, IsPastLimits}
use Rattle.site.specs.State.{Fits, VolatileState, state_of, volatile_of}

-- a site: its name, its leaves, what its store keeps, and what it has in memory
pub record Seat : Type 0 where
  pub name : List ℕ
  pub leaves : List Leaf
  pub kept : SiteContent
  pub table : VolatileState

-- whether it is the site of a name
abbrev pub is_called : List ℕ → Seat → Bool
is_called name seat = pointwise nat_eq name seat.name

-- what is in memory fits what the store keeps
abbrev pub IsSeated : Seat → Type 0
IsSeated seat = Fits seat.kept seat.table

-- a site of the code; content: what its store keeps
abbrev pub seat_from : {S : Type 0} → (S → SiteContent) → Site S → Seat
seat_from content site = record { name = site.volatile.name; leaves = leaves_in site.volatile.locks.items; kept = content site.store; table = volatile_of site.volatile }

-- S: the statements over a list of catalogues
module _ (S : Catalogues local) where
  -- a site that isn't there
  abbrev pub nobody : SiteState (listed local S)
  nobody = record { kept = λ place. S.nothing; status = λ ticket. Dead; known = []; life = 0; number = 0 }

  -- the state of a site, whose leaves are places there
  abbrev pub state_at : Seat → SiteState (listed local S)
  state_at seat = site_at local S seat.name (state_of seat.kept seat.table)

-- why a site doesn't take a letter: want of memory aside, its step calls the store, or leads past a limit, or the leaf is at another site
abbrev pub SiteTells : Seat → Letter → faults.SiteFault → Type 0
SiteTells seat letter fault.Memory = ⊤
SiteTells seat letter (fault.Store why) = AsksStore seat.table letter.body
SiteTells seat letter fault.Full = IsSeated seat → IsPastLimits seat.kept seat.table letter
SiteTells seat letter fault.Stranger = (locks : List Locks) × (leaves_in locks ≡ seat.leaves) × AsksElsewhere locks letter.body

-- Why a site doesn't restart: memory ran out, its store refused or wasn't to be called (kept is false), its last life has begun, or the rows that
-- its store keeps can be no site's. Sound: that stores are clean now and were sound; Refused: that the medium has refused meanwhile
abbrev pub SiteRestartTells : (Sound Refused : Type 0) → Bool → Seat → faults.SiteFault → Type 0
SiteRestartTells Sound Refused kept seat fault.Memory = ⊤
SiteRestartTells Sound Refused kept seat (fault.Store store_faults.Refused) = (kept ≡ false) ⊎ Refused
SiteRestartTells Sound Refused kept seat (fault.Store store_faults.Memory) = ⊤
SiteRestartTells Sound Refused kept seat (fault.Store store_faults.Damaged) = Sound → IsStrange seat.leaves seat.kept
SiteRestartTells Sound Refused kept seat fault.Full = Sound → 2 ^ 63 ≤ seat.kept.life + 1
SiteRestartTells Sound Refused kept seat fault.Stranger = ⊥

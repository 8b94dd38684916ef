-- The history of a site: each entry is the protocol's step of what the site was called for, or a refusal that changes nothing.
use Rattle.std.specs.Prelude.{◌≡◌, ℕ, List, [], ◌∷◌, ◌++◌, Bool, true, false, Option, Some, None}
use Rattle.store.specs.declared.letter.Letter.{Letter}
use Rattle.store.specs.declared.prepared.SiteKept.{SiteKept}
use Rattle.store.specs.SiteContent.{Lists, SiteContent}
use Rattle.protocol.specs.Letters.{kept_in}
use Rattle.site.specs.declared.fault.SiteFault.TheVariants as site_faults
use Rattle.site.specs.declared.site.Site.{Site}
use Rattle.site.specs.Recovery.{Begins}
use Rattle.site.specs.Seat.{IsSeated, Seat, SiteTells, is_called, seat_from}
use Rattle.desk.specs.declared.refusal.Refusal.TheVariants as refusals
use Rattle.world.specs.declared.fault.Fault as faults
use Rattle.world.specs.declared.fault.Fault.TheVariants as fault
use Rattle.world.specs.declared.sites.SiteAction as actions
use Rattle.world.specs.declared.sites.SiteAction.TheVariants as action
use Rattle.world.specs.Seated.{SeatDoes}
use Rattle.history.specs.declared.entry.Entry.{Entry}
use Rattle.history.specs.declared.entry.Input as inputs
use Rattle.history.specs.declared.entry.Input.TheVariants as input
use Rattle.history.specs.Replays.{Replays}

-- what the site of this name is called for, as something done there; clients ask a site for nothing
abbrev pub action_of : List ℕ → inputs.Input → Option actions.SiteAction
action_of name (input.Call call) = None
action_of name (input.Take letter) = Some (action.Take letter)
action_of name (input.GiveUp ticket) = Some (action.GiveUp name ticket)
action_of name input.Inquire = Some (action.Inquire name)
action_of name input.Restart = Some (action.Restart name)

-- whether a fault is no store's
abbrev pub is_kept : faults.Fault → Bool
is_kept (fault.Site (site_faults.Store why)) = false
is_kept (fault.Desk (refusals.Store why)) = false
is_kept other = true

-- a call is accepted: the site makes the protocol's step, and puts out these letters
pub record SiteAccepts (before : Seat) (entry : Entry) (after : Seat) : Type 0 where
  pub action : actions.SiteAction
  pub asked : action_of before.name entry.input ≡ Some action
  pub does : SeatDoes action before after entry.letters
  pub kept : entry.kept ≡ kept_in entry.letters
  pub replies : entry.replies ≡ []

-- why a site refuses a call: a letter for the reason that the site gives
abbrev pub IsReason : Seat → inputs.Input → faults.Fault → Type 0
IsReason seat asked (fault.Site told) = (letter : Letter) → asked ≡ input.Take letter → is_called letter.site seat ≡ true → SiteTells seat letter told
IsReason seat asked (fault.Desk told) = ⊥
IsReason seat asked fault.Unsent = ⊥

-- a call is refused: nothing has changed, and nothing is put out
pub record SiteRefuses (before : Seat) (entry : Entry) (told : faults.Fault) (after : Seat) : Type 0 where
  pub same : after ≡ before
  pub letters : entry.letters ≡ []
  pub replies : entry.replies ≡ []
  pub kept : entry.kept ≡ is_kept told
  pub reason : IsReason before entry.input told

abbrev pub SiteAnswers : Option faults.Fault → Seat → Entry → Seat → Type 0
SiteAnswers None before entry after = SiteAccepts before entry after
SiteAnswers (Some told) before entry after = SiteRefuses before entry told after

-- a call of a site
abbrev pub SiteMoves : Seat → Entry → Seat → Type 0
SiteMoves before entry after = SiteAnswers entry.fault before entry after

-- a site's history: at its opening the store kept this and nothing else was in memory, and the entries lead from there to what the site is now
pub record SiteRecorded (opening : SiteKept) (entries : List Entry) (last : Seat) : Type 0 where
  pub first : Seat
  pub lists : Lists first.kept opening
  pub begins : Begins first.kept first.table
  pub replays : Replays SiteMoves first entries last
  pub fits : IsSeated last

-- what a cell has of a site: contracts see the opening, the entries, and the site
pub record SiteHistory (S : Type 0) : Type 0 where
  pub opening : SiteKept
  pub entries : List Entry
  pub site : Site S

-- it is so where the store is clean, which then is sound
pub record SiteHolds {S : Type 0} (is_clean is_sound : S → Type 0) (content : S → SiteContent) (opening : SiteKept) (entries : List Entry) (site : Site S) : Type 0 where
  pub sound : is_clean site.store → is_sound site.store
  pub recorded : is_clean site.store → SiteRecorded opening entries (seat_from content site)

-- a call has added its entry, and no other
pub record AddsSite {S : Type 0} (is_clean : S → Type 0) (content : S → SiteContent) (old : SiteHistory S) (asked : inputs.Input) (entry : Entry) (new : SiteHistory S) : Type 0 where
  pub input : entry.input ≡ asked
  pub entries : new.entries ≡ old.entries ++ entry ∷ []
  pub opening : new.opening ≡ old.opening
  pub moves : is_clean new.site.store → SiteMoves (seat_from content old.site) entry (seat_from content new.site)

-- a call has added none: the store may have been asked, but keeps what it kept, and the site is as it was
pub record StaysSite {S : Type 0} (is_clean : S → Type 0) (content : S → SiteContent) (old new : SiteHistory S) : Type 0 where
  pub entries : new.entries ≡ old.entries
  pub opening : new.opening ≡ old.opening
  pub same : is_clean new.site.store → seat_from content new.site ≡ seat_from content old.site

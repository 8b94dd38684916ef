-- The sites of the code, as seats.
use Rattle.std.specs.Prelude.{◌≡◌, ℕ, List, [], map, None}
use Rattle.store.specs.declared.letter.Letter.{Letter}
use Rattle.store.specs.declared.name.Ticket.{Ticket}
use Rattle.store.specs.SiteContent.{SiteContent}
use Rattle.protocol.specs.Letters.{letter_of, name_of}
use Rattle.protocol.specs.Site.{inquiries, on_give_up}
use Rattle.site.specs.declared.site.Site.{Site}
use Rattle.site.specs.Recovery.{Restarts}
use Rattle.site.specs.State.{Steps, Takes, state_of}
use Rattle.world.specs.declared.sites.SiteAction as doing
use Rattle.world.specs.declared.sites.SiteAction.TheVariants.{GiveUp, Inquire, Restart, Take}
pub use Rattle.site.specs.Seat.{seat_from}
use Rattle.world.specs.Sites.{IsSeated, Moves, Seat}

-- a visit is given up
abbrev pub GivesUp : Ticket → Seat → Seat → Type 0
GivesUp ticket before after = Steps before.kept before.table after.kept after.table (on_give_up (name_of ticket) ((state_of before.kept before.table).status (name_of ticket))) None

abbrev pub seats_in : {S : Type 0} → (S → SiteContent) → List (Site S) → List Seat
seats_in content sites = map (seat_from content) sites

-- the site at which something is done
abbrev pub place_of : doing.SiteAction → List ℕ
place_of (Take letter) = letter.site
place_of (GiveUp site ticket) = site
place_of (Inquire site) = site
place_of (Restart site) = site

-- what a site makes of it: a letter is taken, a visit given up, inquiries are put out, a life begins
abbrev pub Does : doing.SiteAction → Seat → Seat → List Letter → Type 0
Does (Take letter) before after letters = Takes before.kept before.table after.kept after.table letter letters
Does (GiveUp site ticket) before after letters = GivesUp ticket before after × (letters ≡ [])
Does (Inquire site) before after letters = (after ≡ before) × (map letter_of letters ≡ inquiries before.name (state_of before.kept before.table))
Does (Restart site) before after letters = Restarts before.kept before.table after.kept after.table × (letters ≡ [])

-- something is done at a site
pub record SeatDoes (what : doing.SiteAction) (before after : Seat) (letters : List Letter) : Type 0 where
  pub name : after.name ≡ before.name
  pub leaves : after.leaves ≡ before.leaves
  pub fits : IsSeated after
  pub does : Does what before after letters

-- something is done at one of the sites
pub record SomeSeatDoes (what : doing.SiteAction) (seat : Seat) (before after : List Seat) (letters : List Letter) : Type 0 where
  pub new : Seat
  pub moves : Moves (place_of what) seat new before after
  pub does : Does what seat new letters

-- Sites are visited: each that is new hears Open.
use Rattle.std.specs.Prelude.{◌≡◌, ℕ, nat_eq, Bool, true, ◌&&◌, ◌||◌, not, List, [], ◌∷◌, map, Option, Some, None, if◌then◌else◌}
use Rattle.std.specs.Cmp.Lexicographic.{pointwise}
use Rattle.std.specs.List.{AllByRecursion, filter_map, list_any}
use Rattle.std.specs.Option.{option_map}
use Rattle.store.specs.declared.letter.Letter.{Letter}
use Rattle.store.specs.declared.name.Txn.{Txn}
use Rattle.store.specs.declared.order.Order.{Order}
use Rattle.store.specs.declared.order.Order.TheVariants as order
use Rattle.desk.specs.declared.participant.Participant.{Participant}
use Rattle.desk.specs.Orders.{ordered}
use Rattle.desk.specs.Participants.{is_at}

-- whether a site is one of these, and isn't visited yet
abbrev pub is_new : List (List ℕ) → Participant → Bool
is_new sites participant = not participant.visited && list_any (λ site. pointwise nat_eq site participant.site) sites

-- the order to a new site
abbrev pub open_at : List (List ℕ) → Participant → Option Order
open_at sites participant = if is_new sites participant then Some order.Open else None

-- the Opens, in the order of the sites
abbrev pub opens : Txn → List (List ℕ) → List Participant → List Letter
opens txn sites participants = filter_map (λ participant. option_map (ordered txn participant.site) (open_at sites participant)) participants

-- the Open to one, if it is new
abbrev pub opens_if : Txn → Bool → Participant → List Letter
opens_if txn new participant = if new then ordered txn participant.site order.Open ∷ [] else []

-- it is visited from now on, if it is new
abbrev pub visited_if : Bool → Participant → Participant
visited_if new participant = record participant { visited = participant.visited || new }

-- the new ones are visited from now on
abbrev pub visited : List (List ℕ) → Participant → Participant
visited sites participant = record participant { visited = participant.visited || is_new sites participant }

abbrev pub visits : List (List ℕ) → List Participant → List Participant
visits sites participants = map (visited sites) participants

-- each of these sites has a participant
abbrev pub HaveParticipants : List Participant → List (List ℕ) → Type 0
HaveParticipants participants sites = AllByRecursion (λ site. list_any (is_at site) participants ≡ true) sites

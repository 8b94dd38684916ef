-- The sites of a database, each under its name, as the protocol's world has them.
pub use Rattle.site.specs.Seat.{IsSeated, Seat, is_called, nobody, seat_from, state_at}
use Rattle.std.specs.Prelude.{◌≡◌, ℕ, nat_eq, Bool, List, [], ◌∷◌, Option, Some, None, if◌then◌else◌}
use Rattle.std.specs.Cmp.Lexicographic.{pointwise}
use Rattle.std.specs.List.{list_any}
use Rattle.protocol.specs.Catalogues.{Catalogues, listed}
use Rattle.protocol.specs.Local.{local}
use Rattle.protocol.specs.Site.{SiteState}

-- whether one of these sites has the name
abbrev pub has_site : List (List ℕ) → List ℕ → Bool
has_site sites name = list_any (λ site. pointwise nat_eq site name) sites

-- the first site of a name, if there is one
abbrev pub seat_of : List ℕ → List Seat → Option Seat
seat_of name [] = None
seat_of name (seat ∷ seats) = if is_called name seat then Some seat else seat_of name seats

-- the first site of a name is another one
abbrev pub reseated : List ℕ → Seat → List Seat → List Seat
reseated name new [] = []
reseated name new (seat ∷ seats) = if is_called name seat then new ∷ seats else seat ∷ reseated name new seats

-- one site has made a step, and the others are as they were
pub record Moves (name : List ℕ) (seat new : Seat) (before after : List Seat) : Type 0 where
  pub there : seat_of name before ≡ Some seat
  pub is : after ≡ reseated name new before
  pub named : new.name ≡ name
  pub leaves : new.leaves ≡ seat.leaves
  pub seated : IsSeated new

-- S: the statements over a list of catalogues
module _ (S : Catalogues local) where
  -- the states of the sites
  abbrev pub states_of : List Seat → List ℕ → SiteState (listed local S)
  states_of [] name = nobody S
  states_of (seat ∷ seats) name = if is_called name seat then state_at S seat else states_of seats name

-- The locks on all leaves of a site: where those of a leaf are found, and those of a ticket.
use Rattle.std.specs.Prelude.{◌≡◌, ℕ, zero, suc, Bool, true, ◌||◌, List, [], ◌∷◌, Option, Some, None, slice_get, if◌then◌else◌}
use Rattle.std.specs.BTreeMap.{is_at}
use Rattle.std.specs.Global.{Vec}
use Rattle.std.specs.Map.{lookup}
use Rattle.terms.specs.declared.leaf.Leaf.{Leaf}
use Rattle.terms.specs.Leaf.{leaf_cmp}
use Rattle.store.specs.declared.name.Ticket.{Ticket}
use Rattle.store.specs.Name.{ticket_cmp}
use Rattle.protocol.specs.Parts.{In}
use Rattle.site.specs.declared.locks.Locks.{Locks}
use Rattle.site.specs.Locks.{place_in, reads, writes}

-- the locks, in the order of the leaves; held: for each ticket the places where it has locks, or had or may come to have some
pub record AllLocks : Type 0 where
  pub items : List Locks
  pub held : List (Ticket × Vec ℕ)

-- whether a ticket has a lock of either kind
abbrev pub has_lock : Ticket → Locks → Bool
has_lock ticket locks = reads ticket locks || writes ticket locks

-- the places of a ticket
abbrev pub items_in : Option (Vec ℕ) → List ℕ
items_in None = []
items_in (Some places) = places.items

abbrev pub places_of : Ticket → List (Ticket × Vec ℕ) → List ℕ
places_of ticket held = items_in (lookup (is_at (ticket_cmp ticket)) held)

-- each leaf is found at its place
abbrev pub IsIndexed : List (Leaf × ℕ) → List Locks → Type 0
IsIndexed places locks = (leaf : Leaf) → lookup (is_at (leaf_cmp leaf)) places ≡ place_in leaf locks

-- wherever a ticket has a lock is one of its places
abbrev pub IsHeld : List (Ticket × Vec ℕ) → List Locks → Type 0
IsHeld held locks = (ticket : Ticket) (place : ℕ) (at : Locks) → slice_get locks place ≡ Some at → has_lock ticket at ≡ true → In place (places_of ticket held)

-- no ticket loses a place
abbrev pub KeepsPlaces : List (Ticket × Vec ℕ) → List (Ticket × Vec ℕ) → Type 0
KeepsPlaces old new = (ticket : Ticket) (place : ℕ) → In place (places_of ticket old) → In place (places_of ticket new)

-- a list that is changed at one place, and at each of these in turn; one that it doesn't have changes nothing
abbrev pub change_at : {A : Type 0} → (A → A) → ℕ → List A → List A
change_at f place [] = []
change_at f zero (x ∷ xs) = f x ∷ xs
change_at f (suc place) (x ∷ xs) = x ∷ change_at f place xs

abbrev pub change_each : {A : Type 0} → (A → A) → List ℕ → List A → List A
change_each f [] xs = xs
change_each f (place ∷ places) xs = change_each f places (change_at f place xs)

-- the place that a leaf has, or else this one if it is the other leaf
abbrev pub or_place : Option ℕ → Bool → ℕ → Option ℕ
or_place (Some found) same place = Some found
or_place None same place = if same then Some place else None

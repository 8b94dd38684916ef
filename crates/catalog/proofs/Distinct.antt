-- Names of which no two are the same, as a loop goes over them.
use Rattle.std.proofs.Common.{◌≡◌, ◌≢◌, refl, ap, ℕ, zero, suc, ◌<◌, Bool, true, false, ◌||◌, List, [], ◌∷◌, ◌++◌, map, take, length, get_or, arith}
use Rattle.std.specs.List.{AllByRecursion}
use Rattle.std.proofs.lemmas.Slice.Eq.{bytes_eq-Decides}
use Rattle.std.specs.Str.{bytes_eq}
use Rattle.reader.specs.Printable.{AreDistinct}
use Rattle.catalog.specs.Sites.{has_name}

-- what holds of all holds of one
pub all_at : {A B : Type 0} (P : B → Type 0) (view : A → B) (items : List A) (i : ℕ) (d : A) → i < length items → AllByRecursion P (map view items) → P (view (get_or items i d))
all_at P view [] i d within all = absurd (omega arith)
all_at P view (item ∷ items) zero d within all = all.0
all_at P view (item ∷ items) (suc i) d within all = all_at P view items i d (omega arith) all.1

neither : (a b : Bool) → a ≡ false → b ≡ false → (a || b) ≡ false
neither true b h k = cc
neither false b h k = k

left_false : (a b : Bool) → (a || b) ≡ false → a ≡ false
left_false true b h = cc
left_false false b h = refl

right_false : (a b : Bool) → (a || b) ≡ false → b ≡ false
right_false true b h = cc
right_false false b h = h

unlike : (one other : List ℕ) → one ≢ other → bytes_eq one other ≡ false
unlike one other apart =
    elim (bytes_eq one other) as (λ b. bytes_eq one other ≡ b → b ≡ false) [
      | true ↦ λ is. absurd (apart ((bytes_eq-Decides one other).0 is))
      | false ↦ λ is. refl
    ] refl

apart_of : (one other : List ℕ) → bytes_eq one other ≡ false → one ≢ other
apart_of one other differ same = let is = (bytes_eq-Decides one other).1 same in absurd cc

-- a name is none of those before it
pub new_at : {A : Type 0} (view : A → List ℕ) (items : List A) (i : ℕ) (d : A) → i < length items → AreDistinct (map view items) → has_name (map view (take i items)) (view (get_or items i d)) ≡ false
new_at view [] i d within distinct = absurd (omega arith)
new_at view (item ∷ items) zero d within distinct = refl
new_at view (item ∷ items) (suc i) d within distinct =
    neither _ _ (unlike (view item) (view (get_or items i d)) (all_at (λ other. view item ≢ other) view items i d (omega arith) distinct.0))
    (new_at view items i d (omega arith) distinct.1)

all_apart : (first : List ℕ) (names : List (List ℕ)) (name : List ℕ) → AllByRecursion (λ other. first ≢ other) names → first ≢ name → AllByRecursion (λ other. first ≢ other) (names ++ name ∷ [])
all_apart first [] name all apart = (apart, tt)
all_apart first (other ∷ names) name all apart = (all.0, all_apart first names name all.1 apart)

-- one new name more
pub distinct_more : (names : List (List ℕ)) (name : List ℕ) → AreDistinct names → has_name names name ≡ false → AreDistinct (names ++ name ∷ [])
distinct_more [] name distinct new = (tt, tt)
distinct_more (first ∷ names) name distinct new = (
  all_apart first names name distinct.0 (apart_of first name (left_false (bytes_eq first name) (has_name names name) new)),
  distinct_more names name distinct.1 (right_false (bytes_eq first name) (has_name names name) new),
)

-- one more that a loop has taken
pub taken_more : {A B : Type 0} (view : A → B) (items : List A) (i : ℕ) (d x : A) (ys : List B) (y : B) → x ≡ get_or items i d → i < length items →
    ys ≡ map view (take i items) → y ≡ view x → ys ++ y ∷ [] ≡ map view (take (suc i) items)
taken_more {A} {B} view items i d x ys y is within so_far here =
    rw (so_far, here, is) (step items i within)
  where
    step : (all : List A) (j : ℕ) → j < length all → map view (take j all) ++ view (get_or all j d) ∷ [] ≡ map view (take (suc j) all)
    step [] j inside = absurd (omega arith)
    step (first ∷ all) zero inside = refl
    step (first ∷ all) (suc j) inside = ap (λ rest. view first ∷ rest) (step all j (omega arith))

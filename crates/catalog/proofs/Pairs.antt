-- Lists that go together item by item, as a loop over the first builds the second.
use Rattle.std.proofs.Common.{◌≡◌, refl, subst, ℕ, zero, suc, ◌<◌, List, [], ◌∷◌, ◌++◌, map, take, length, get_or, arith}
use Rattle.catalog.specs.Describes.{Each}

-- one item more on both sides
pub each_more : {A B C : Type 0} (R : B → C → Type 0) (view : A → B) (items : List A) (i : ℕ) (d : A) (ys : List C) (y : C) → i < length items →
    Each R (map view (take i items)) ys → R (view (get_or items i d)) y → Each R (map view (take (suc i) items)) (ys ++ y ∷ [])
each_more R view [] i d ys y within so_far here = absurd (omega arith)
each_more R view (item ∷ items) zero d [] y within so_far here = (here, tt)
each_more R view (item ∷ items) zero d (z ∷ ys) y within so_far here = absurd so_far
each_more R view (item ∷ items) (suc i) d [] y within so_far here = absurd so_far
each_more R view (item ∷ items) (suc i) d (z ∷ ys) y within so_far here =
    (so_far.0, each_more R view items i d ys y (omega arith) so_far.1 here)

-- an item with which nothing goes
pub each_stop : {A B C : Type 0} (R : B → C → Type 0) (view : A → B) (items : List A) (i : ℕ) (d : A) → i < length items →
    ((y : C) → R (view (get_or items i d)) y → ⊥) → (ys : List C) → Each R (map view items) ys → ⊥
each_stop R view [] i d within none ys each = absurd (omega arith)
each_stop R view (item ∷ items) zero d within none [] each = each
each_stop R view (item ∷ items) zero d within none (y ∷ ys) each = none y each.0
each_stop R view (item ∷ items) (suc i) d within none [] each = each
each_stop R view (item ∷ items) (suc i) d within none (y ∷ ys) each = each_stop R view items i d (omega arith) none ys each.1

-- what goes with the same items is the same, where one thing at most goes with each
pub each_one : {B C : Type 0} (R : B → C → Type 0) → ((x : B) (y z : C) → R x y → R x z → y ≡ z) → (xs : List B) (ys zs : List C) → Each R xs ys → Each R xs zs → ys ≡ zs
each_one R one [] [] [] a b = refl
each_one R one [] [] (z ∷ zs) a b = absurd b
each_one R one [] (y ∷ ys) zs a b = absurd a
each_one R one (x ∷ xs) [] zs a b = absurd a
each_one R one (x ∷ xs) (y ∷ ys) [] a b = absurd b
each_one R one (x ∷ xs) (y ∷ ys) (z ∷ zs) a b = rw (one x y z a.0 b.0, each_one R one xs ys zs a.1 b.1) refl

-- the same at an item that a loop has taken
pub each_next : {A B C : Type 0} (R : B → C → Type 0) (view : A → B) (items : List A) (i : ℕ) (d x : A) (ys : List C) (y : C) → x ≡ get_or items i d → i < length items →
    Each R (map view (take i items)) ys → R (view x) y → Each R (map view (take (suc i) items)) (ys ++ y ∷ [])
each_next {A} {B} {C} R view items i d x ys y is within so_far here =
    let P : A → Type 0 = λ z. R (view z) y in each_more R view items i d ys y within so_far (subst P is here)

pub each_none : {A B C : Type 0} (R : B → C → Type 0) (view : A → B) (items : List A) (i : ℕ) (d x : A) → x ≡ get_or items i d → i < length items →
    ((y : C) → R (view x) y → ⊥) → (ys : List C) → Each R (map view items) ys → ⊥
each_none {A} {B} {C} R view items i d x is within none =
    let P : A → Type 0 = λ z. (y : C) → R (view z) y → ⊥ in each_stop R view items i d within (subst P is none)

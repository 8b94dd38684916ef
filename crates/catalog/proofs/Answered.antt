-- The answers of items, as a loop over the items collects them.
use Rattle.std.proofs.Common.{◌≡◌, ℕ, zero, suc, ◌<◌, List, [], ◌∷◌, ◌++◌, Option, Some, None, option_and_then, option_map, map, take, length, get_or, refl, subst, arith}
use Rattle.reader.specs.Names.{all_of}

-- a first answer before the others, one more at their end
grown : {C : Type 0} (first : Option C) (rest more : Option (List C)) (ys : List C) (y : C) → ((zs : List C) → rest ≡ Some zs → more ≡ Some (zs ++ y ∷ [])) →
    option_and_then (λ z. option_map (λ zs. z ∷ zs) rest) first ≡ Some ys → option_and_then (λ z. option_map (λ zs. z ∷ zs) more) first ≡ Some (ys ++ y ∷ [])
grown None rest more ys y grows so_far = cc
grown (Some z) None more ys y grows so_far = cc
grown (Some z) (Some zs) more ys y grows so_far = let whole : z ∷ zs ≡ ys = cc in rw (grows zs refl, ← whole) refl

-- no answer among the others, no answer
stopped : {C : Type 0} (first : Option C) (rest : Option (List C)) → rest ≡ None → option_and_then (λ z. option_map (λ zs. z ∷ zs) rest) first ≡ None
stopped None rest none = refl
stopped (Some z) rest none = rw none refl

one_more : {A B C : Type 0} (answer : B → Option C) (view : A → B) (items : List A) (i : ℕ) (d : A) (ys : List C) (y : C) → i < length items →
    all_of answer (map view (take i items)) ≡ Some ys → answer (view (get_or items i d)) ≡ Some y → all_of answer (map view (take (suc i) items)) ≡ Some (ys ++ y ∷ [])
one_more answer view [] i d ys y within so_far here = absurd (omega arith)
one_more answer view (item ∷ items) zero d ys y within so_far here = let none : [] ≡ ys = cc in rw (here, ← none) refl
one_more answer view (item ∷ items) (suc i) d ys y within so_far here =
    grown (answer (view item)) (all_of answer (map view (take i items))) (all_of answer (map view (take (suc i) items))) ys y
    (λ zs is. one_more answer view items i d zs y (omega arith) is here) so_far

one_without : {A B C : Type 0} (answer : B → Option C) (view : A → B) (items : List A) (i : ℕ) (d : A) → i < length items → answer (view (get_or items i d)) ≡ None → all_of answer (map view items) ≡ None
one_without answer view [] i d within none = absurd (omega arith)
one_without answer view (item ∷ items) zero d within none = rw none refl
one_without answer view (item ∷ items) (suc i) d within none =
    stopped (answer (view item)) (all_of answer (map view items)) (one_without answer view items i d (omega arith) none)

-- an item that a loop has taken, with its answer
pub answered_next : {A B C : Type 0} (answer : B → Option C) (view : A → B) (items : List A) (i : ℕ) (d x : A) (ys : List C) (y : C) → x ≡ get_or items i d → i < length items →
    all_of answer (map view (take i items)) ≡ Some ys → answer (view x) ≡ Some y → all_of answer (map view (take (suc i) items)) ≡ Some (ys ++ y ∷ [])
answered_next {A} answer view items i d x ys y is within so_far here =
    let P : A → Type 0 = λ z. answer (view z) ≡ Some y in one_more answer view items i d ys y within so_far (subst P is here)

-- an item that a loop has taken, without an answer
pub answered_not : {A B C : Type 0} (answer : B → Option C) (view : A → B) (items : List A) (i : ℕ) (d x : A) → x ≡ get_or items i d → i < length items →
    answer (view x) ≡ None → all_of answer (map view items) ≡ None
answered_not {A} answer view items i d x is within here =
    let P : A → Type 0 = λ z. answer (view z) ≡ None in one_without answer view items i d within (subst P is here)

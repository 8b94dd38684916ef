-- Answers for each item of a list.
use Rattle.std.proofs.Common.{◌≡◌, ℕ, zero, suc, ◌+◌, ◌<◌, ◌≢◌, List, [], ◌∷◌, ◌++◌, Option, Some, None, option_and_then, option_map, map, take, length, get_or, refl, ap, arith}
use Rattle.std.specs.List.{range_with_len}
use Rattle.terms.specs.declared.value.Kind.{Kind}
use Rattle.terms.specs.declared.value.Value.{Value}
use Rattle.reader.specs.Names.{all_of, row_of, value_of}
use Rattle.reader.specs.Tree.{Constant}

-- a first answer before the others, one more at their end
grown : {C : Type 0} (first : Option C) (rest more : Option (List C)) (ys : List C) (y : C) → ((zs : List C) → rest ≡ Some zs → more ≡ Some (zs ++ y ∷ [])) → option_and_then (λ z. option_map (λ zs. z ∷ zs) rest) first ≡ Some ys → option_and_then (λ z. option_map (λ zs. z ∷ zs) more) first ≡ Some (ys ++ y ∷ [])
grown None rest more ys y grows so_far = cc
grown (Some z) None more ys y grows so_far = cc
grown (Some z) (Some zs) more ys y grows so_far =
    let whole : z ∷ zs ≡ ys = cc in
    rw (grows zs refl, ← whole) refl

-- no answer among the others, no answer
stopped : {C : Type 0} (first : Option C) (rest : Option (List C)) → rest ≡ None → option_and_then (λ z. option_map (λ zs. z ∷ zs) rest) first ≡ None
stopped None rest none = refl
stopped (Some z) rest none = rw none refl

-- one item more, which has an answer
pub all_of_more : {A B C : Type 0} (answer : B → Option C) (view : A → B) (items : List A) (i : ℕ) (d : A) (ys : List C) (y : C) → i < length items → all_of answer (map view (take i items)) ≡ Some ys → answer (view (get_or items i d)) ≡ Some y → all_of answer (map view (take (suc i) items)) ≡ Some (ys ++ y ∷ [])
all_of_more answer view [] i d ys y within so_far here = absurd (omega arith)
all_of_more answer view (item ∷ items) zero d ys y within so_far here =
    let none : [] ≡ ys = cc in
    rw (here, ← none) refl
all_of_more answer view (item ∷ items) (suc i) d ys y within so_far here =
    grown (answer (view item)) (all_of answer (map view (take i items))) (all_of answer (map view (take (suc i) items))) ys y (λ zs is. all_of_more answer view items i d zs y (omega arith) is here) so_far

-- an item with no answer
pub all_of_stop : {A B C : Type 0} (answer : B → Option C) (view : A → B) (items : List A) (i : ℕ) (d : A) → i < length items → answer (view (get_or items i d)) ≡ None → all_of answer (map view items) ≡ None
all_of_stop answer view [] i d within none = absurd (omega arith)
all_of_stop answer view (item ∷ items) zero d within none = rw none refl
all_of_stop answer view (item ∷ items) (suc i) d within none =
    stopped (answer (view item)) (all_of answer (map view items)) (all_of_stop answer view items i d (omega arith) none)

-- one column and its constant more
pub row_of_more : {A B : Type 0} (kind : A → Kind) (view : B → Constant) (columns : List A) (constants : List B) (i : ℕ) (c : A) (d : B) (row : List Value) (value : Value) → i < length columns → i < length constants → row_of (map kind (take i columns)) (map view (take i constants)) ≡ Some row → value_of (kind (get_or columns i c)) (view (get_or constants i d)) ≡ Some value → row_of (map kind (take (suc i) columns)) (map view (take (suc i) constants)) ≡ Some (row ++ value ∷ [])
row_of_more kind view [] constants i c d row value within within' so_far here = absurd (omega arith)
row_of_more kind view (column ∷ columns) [] i c d row value within within' so_far here = absurd (omega arith)
row_of_more kind view (column ∷ columns) (constant ∷ constants) zero c d row value within within' so_far here =
    let none : [] ≡ row = cc in
    rw (here, ← none) refl
row_of_more kind view (column ∷ columns) (constant ∷ constants) (suc i) c d row value within within' so_far here =
    grown (value_of (kind column) (view constant)) (row_of (map kind (take i columns)) (map view (take i constants))) (row_of (map kind (take (suc i) columns)) (map view (take (suc i) constants))) row value
    (λ values is. row_of_more kind view columns constants i c d values value (omega arith) (omega arith) is here) so_far

-- a constant with no value in its column
pub row_of_stop : {A B : Type 0} (kind : A → Kind) (view : B → Constant) (columns : List A) (constants : List B) (i : ℕ) (c : A) (d : B) → i < length columns → i < length constants → value_of (kind (get_or columns i c)) (view (get_or constants i d)) ≡ None → row_of (map kind columns) (map view constants) ≡ None
row_of_stop kind view [] constants i c d within within' none = absurd (omega arith)
row_of_stop kind view (column ∷ columns) [] i c d within within' none = absurd (omega arith)
row_of_stop kind view (column ∷ columns) (constant ∷ constants) zero c d within within' none = rw none refl
row_of_stop kind view (column ∷ columns) (constant ∷ constants) (suc i) c d within within' none =
    stopped (value_of (kind column) (view constant)) (row_of (map kind columns) (map view constants)) (row_of_stop kind view columns constants i c d (omega arith) (omega arith) none)

-- another number of constants than columns
pub row_of_count : (kinds : List Kind) (constants : List Constant) → length constants ≢ length kinds → row_of kinds constants ≡ None
row_of_count [] [] other = absurd (other refl)
row_of_count [] (constant ∷ constants) other = refl
row_of_count (kind ∷ kinds) [] other = refl
row_of_count (kind ∷ kinds) (constant ∷ constants) other =
    stopped (value_of kind constant) (row_of kinds constants) (row_of_count kinds constants (λ same. other (omega arith)))

-- one number more
pub range_more : (a n j : ℕ) → a + n ≡ j → range_with_len a n ++ j ∷ [] ≡ range_with_len a (suc n)
range_more a zero j is = let same : j ≡ a = omega arith in rw same refl
range_more a (suc n) j is = ap (λ rest. a ∷ rest) (range_more (a + 1) n j (omega arith))

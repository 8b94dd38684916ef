-- Where a row goes by its key.
use Rattle.std.proofs.Common.{◌≡◌, ℕ, zero, suc, ◌<◌, ◌≤◌, ℤ, ◌<ℤ◌, List, [], ◌∷◌, true, false, Result, Ok, Err, IfOk, IfErr, int_lt, length, get_or, insert, inl, inr, refl, ap, arith}
use Rattle.std.proofs.lemmas.Bool.{cases_lt}
use Rattle.std.proofs.lemmas.Int.{ints}
use Rattle.std.proofs.lemmas.List.Elements.{All-from_all_within}
use Rattle.std.proofs.lemmas.List.Folds.{list_any_at, list_any_none}
use Rattle.std.specs.List.{AllByRecursion, AllWithin}
use Rattle.std.specs.List.Sorted.{IsNonDecreasingBy, IsSearchInRange, IsBinarySearchResult}
use Rattle.std.specs.Ordering.{int_cmp, int_eq, is_eq, ordering_index}
use Rattle.std.specs.declared.cmp.Ordering.{Ordering}
use Rattle.std.specs.declared.cmp.Ordering.TheVariants.{Less, Equal, Greater}
use Rattle.terms.specs.declared.value.Value.{Value}
use Rattle.terms.specs.Row.{key_of}
use Rattle.meaning.specs.Relation.{Ascends, has_key, insert_row, GoesAt}
use Rattle.meaning.proofs.Keys.{lt_true, lt_false, below_from_less, above_from_greater}

-- how a row's key compares with a key
abbrev pub ranked : ℤ → List Value → Ordering
ranked key row = int_cmp (key_of row) key

-- what holds of each row holds of the row at a place
pub each_at : (P : List Value → Type 0) (rows : List (List Value)) (k : ℕ) (d : List Value) → AllByRecursion P rows → k < length rows → P (get_or rows k d)
each_at P [] k d all within = absurd (omega arith)
each_at P (row ∷ rows) zero d all within = all.0
each_at P (row ∷ rows) (suc k) d all within = each_at P rows k d all.1 (omega arith)

ascends_at : (rows : List (List Value)) (i j : ℕ) (d : List Value) → Ascends rows → i < j → j < length rows → key_of (get_or rows i d) <ℤ key_of (get_or rows j d)
ascends_at [] i j d order before within = absurd (omega arith)
ascends_at (row ∷ rows) i zero d order before within = absurd (omega arith)
ascends_at (row ∷ rows) zero (suc j) d order before within = each_at (λ later. key_of row <ℤ key_of later) rows j d order.0 (omega arith)
ascends_at (row ∷ rows) (suc i) (suc j) d order before within = ascends_at rows i j d order.1 (omega arith) (omega arith)

rank_rises : (a b key : ℤ) → a <ℤ b → ordering_index (int_cmp a key) ≤ ordering_index (int_cmp b key)
rank_rises a b key below = grind (arith, ints)

-- a binary search by the key is right
searchable : (rows : List (List Value)) (key : ℤ) → Ascends rows → IsNonDecreasingBy (λ row. ordering_index (ranked key row)) rows
searchable rows key order i j d upto within =
    elim (cases_lt i j) [
      | inl before ↦ rank_rises _ _ key (ascends_at rows i j d order before within)
      | inr after ↦ let same : i ≡ j = omega arith in rw same (omega arith)
    ]

-- where a row with the key is found
pub found_key : (rows : List (List Value)) (key : ℤ) (i : ℕ) → i < length rows → ((d : List Value) → ranked key (get_or rows i d) ≡ Equal) → has_key key rows ≡ true
found_key rows key i within alike =
    list_any_at (λ row. int_eq (key_of row) key) rows i [] within (ap is_eq (alike []))

absent_key : (rows : List (List Value)) (key : ℤ) (i : ℕ) → AllWithin (λ row. ranked key row ≡ Less) rows 0 i → AllWithin (λ row. ranked key row ≡ Greater) rows i (length rows) → has_key key rows ≡ false
absent_key rows key i below above =
    list_any_none (λ row. int_eq (key_of row) key) rows (All-from_all_within (λ row. int_eq (key_of row) key ≡ false) rows (λ k d low within.
    elim (cases_lt k i) [
      | inl before ↦ ap is_eq (below k d low before)
      | inr after ↦ ap is_eq (above k d after within)
    ]))

-- a row goes before the first row with a greater key
goes_at : (rows : List (List Value)) (key : ℤ) (i : ℕ) (row : List Value) → i ≤ length rows → key_of row ≡ key → AllWithin (λ other. ranked key other ≡ Less) rows 0 i → AllWithin (λ other. ranked key other ≡ Greater) rows i (length rows) → insert rows i row ≡ insert_row row rows
goes_at [] key zero row within is below above = refl
goes_at [] key (suc i) row within is below above = absurd (omega arith)
goes_at (other ∷ rows) key zero row within is below above =
    let after = above_from_greater (key_of other) key (above 0 other (omega arith) (omega arith)) in
    let test : int_lt (key_of row) (key_of other) ≡ true = rw is (lt_true key (key_of other) after) in
    rw test refl
goes_at (other ∷ rows) key (suc i) row within is below above =
    let before = below_from_less (key_of other) key (below 0 other (omega arith) (omega arith)) in
    let test : int_lt (key_of row) (key_of other) ≡ false = rw is (lt_false key (key_of other) before) in
    let rest = goes_at rows key i row (omega arith) is (λ k d low high. below (suc k) d (omega arith) (omega arith)) (λ k d low high. above (suc k) d (omega arith) (omega arith)) in
    rw test (ap (λ later. other ∷ later) rest)

-- what a binary search among ascending rows answers
pub searched_there : (rows : List (List Value)) (key : ℤ) (result : Result ℕ ℕ) → IsSearchInRange result (length rows) → IsBinarySearchResult (ranked key) rows result → IfOk result (λ i. has_key key rows ≡ true)
searched_there rows key (Ok i) within alike = found_key rows key i within alike
searched_there rows key (Err i) within parted = tt

pub searched_absent : (rows : List (List Value)) (key : ℤ) (result : Result ℕ ℕ) → Ascends rows → IsSearchInRange result (length rows) → IsBinarySearchResult (ranked key) rows result → IfErr result (λ i. has_key key rows ≡ false)
searched_absent rows key (Ok i) order within alike = tt
searched_absent rows key (Err i) order within parted =
    let parts = parted (searchable rows key order) in absent_key rows key i parts.0 parts.1

pub searched_place : (rows : List (List Value)) (row : List Value) (result : Result ℕ ℕ) → Ascends rows → IsSearchInRange result (length rows) → IsBinarySearchResult (ranked (key_of row)) rows result → IfErr result (λ i. GoesAt rows row i)
searched_place rows row (Ok i) order within alike = tt
searched_place rows row (Err i) order within parted =
    let parts = parted (searchable rows (key_of row) order) in
    record { within = within; inserted = goes_at rows (key_of row) i row within refl parts.0 parts.1 }

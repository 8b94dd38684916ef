-- Of ascending columns with the key first, a cut to some columns leaves the key and those, in ascending order.
use Rattle.std.proofs.Common.{◌≡◌, ◌≤◌, ◌<◌, ◌+◌, ℕ, zero, suc, Bool, true, false, cond, ◌==◌, ◌||◌, List, [], ◌∷◌, filter, Some, refl, ap, sym, subst, ◌∙◌, arith}
use Rattle.std.proofs.lemmas.Bool.{eqb-true}
use Rattle.std.proofs.lemmas.Bool.Decides.{nat_tests}
use Rattle.std.specs.declared.cmp.Ordering.{Ordering}
use Rattle.std.specs.declared.cmp.Ordering.TheVariants.{Less}
use Rattle.std.specs.List.{AllByRecursion, list_all, range_with_len, slice_get}
use Rattle.std.specs.List.Sorted.{IsStrictlySortedBy}
use Rattle.std.specs.Cmp.{ranks}
use Rattle.std.specs.Ordering.{nat_cmp, MatchOrdering}
use Rattle.catalog.specs.Counts.{has}
use Rattle.plan.specs.Rows.{is_seen}
use Rattle.plan.specs.Uniform.{AreOnce}
use Rattle.plan.proofs.CarriedConds.{both}

-- those of the columns below a bound that a cut to some leaves
abbrev pub cut_columns : List ℕ → ℕ → List ℕ
cut_columns columns bound = filter (is_seen columns) (range_with_len 0 bound)

below_is : (a b : ℕ) → nat_cmp a b ≡ Less → a < b
below_is a b is =
    let P : Ordering → Type 0 = λ o. MatchOrdering o (a < b) (a ≡ b) (b < a) in subst P is (ranks a b)

all_above : (first : ℕ) (columns : List ℕ) → AllByRecursion (λ col. nat_cmp first col ≡ Less) columns → AllByRecursion (λ col. first < col) columns
all_above first [] less = tt
all_above first (col ∷ columns) less = (below_is first col less.0, all_above first columns less.1)

-- ascending columns stand once each
not_there : (first : ℕ) (columns : List ℕ) → AllByRecursion (λ col. first < col) columns → has columns first ≡ false
not_there first [] above = refl
not_there first (col ∷ columns) above =
    let apart : (col == first) ≡ false = let over = above.0 in grind (arith, nat_tests) in
    rw apart (not_there first columns above.1)

-- bounds, from the next column on
next_below : (a n : ℕ) (columns : List ℕ) → AllByRecursion (λ col. col < a + suc n) columns → AllByRecursion (λ col. col < (a + 1) + n) columns
next_below a n [] below = tt
next_below a n (col ∷ columns) below = (let here = below.0 in omega arith, next_below a n columns below.1)

next_above : (a first : ℕ) (columns : List ℕ) → a ≤ first → AllByRecursion (λ col. first < col) columns → AllByRecursion (λ col. (a + 1) ≤ col) columns
next_above a first [] from above = tt
next_above a first (col ∷ columns) from above = (let here = above.0 in omega arith, next_above a first columns from above.1)

all_over : (a first : ℕ) (columns : List ℕ) → a < first → AllByRecursion (λ col. first < col) columns → AllByRecursion (λ col. a < col) columns
all_over a first [] under above = tt
all_over a first (col ∷ columns) under above = (let here = above.0 in omega arith, all_over a first columns under above.1)

apart_from : (a b : ℕ) → a ≤ b → (a == b) ≡ false → a < b
apart_from a b low is = grind (arith, nat_tests)

-- Ascending columns from a number on, which have each column that passes a test: those that pass are those of all numbers.
cut_from : (test : ℕ → Bool) (a n : ℕ) (columns : List ℕ) → AllByRecursion (λ col. a ≤ col) columns → AllByRecursion (λ col. col < a + n) columns → IsStrictlySortedBy nat_cmp columns → ((col : ℕ) → a ≤ col → test col ≡ true → has columns col ≡ true) →
    filter test columns ≡ filter test (range_with_len a n)
unfolding IsStrictlySortedBy
cut_from test a zero [] from below sorted there = refl
cut_from test a zero (first ∷ columns) from below sorted there = absurd (let low = from.0 in let high = below.0 in omega arith)
cut_from test a (suc n) [] from below sorted there = at (test a) refl (cut_from test (a + 1) n [] tt tt tt (λ col low passes. there col (omega (arith, low)) passes))
  where
    at : (t : Bool) → test a ≡ t → [] ≡ filter test (range_with_len (a + 1) n) → [] ≡ cond t (a ∷ filter test (range_with_len (a + 1) n)) (filter test (range_with_len (a + 1) n))
    at true is more = absurd (let h : false ≡ true = there a (omega arith) is in cc)
    at false is more = more
cut_from test a (suc n) (first ∷ columns) from below sorted there =
    at (a == first) refl
    (λ same.
    cut_from test (a + 1) n columns (next_above a first columns from.0 above) (next_below a n columns below.1) sorted.1
    (λ col low passes. let other : (first == col) ≡ false = grind (arith, nat_tests) in rw other at (there col (omega (arith, low)) passes)))
    (λ under.
    cut_from test (a + 1) n (first ∷ columns) (omega (arith, under), next_above a first columns from.0 above) (next_below a n (first ∷ columns) below) sorted
    (λ col low passes. there col (omega (arith, low)) passes))
  where
    above : AllByRecursion (λ col. first < col) columns
    above = all_above first columns sorted.0

    skipped : a < first → (t : Bool) → test a ≡ t → filter test (first ∷ columns) ≡ filter test (range_with_len (a + 1) n) → filter test (first ∷ columns) ≡ cond t (a ∷ filter test (range_with_len (a + 1) n)) (filter test (range_with_len (a + 1) n))
    skipped under true is more = absurd (let none : has (first ∷ columns) a ≡ false = not_there a (first ∷ columns) (under, all_over a first columns under above) in let h : false ≡ true = sym none ∙ there a (omega arith) is in cc)
    skipped under false is more = more

    at : (t : Bool) → (a == first) ≡ t → (a ≡ first → filter test columns ≡ filter test (range_with_len (a + 1) n)) → (a < first → filter test (first ∷ columns) ≡ filter test (range_with_len (a + 1) n)) →
        filter test (first ∷ columns) ≡ filter test (range_with_len a (suc n))
    at true is here further =
        let same : a ≡ first = eqb-true a first is in
        let P : ℕ → Type 0 = λ col. filter test (col ∷ columns) ≡ filter test (range_with_len a (suc n)) in
        subst P same (ap (λ (rest : List ℕ). cond (test a) (a ∷ rest) rest) (here same))
    at false is here further =
        let under : a < first = apart_from a first from.0 is in
        skipped under (test a) refl (further under)

-- the columns of a cut are there
key_there : (columns : List ℕ) → slice_get columns 0 ≡ Some 0 → has columns 0 ≡ true
key_there [] key = absurd (cc)
key_there (first ∷ columns) key = let is : first ≡ 0 = cc in let same : (first == 0) ≡ true = grind (arith, nat_tests) in rw same refl

has_step : (all : List ℕ) (first col : ℕ) (t rest : Bool) → (first == col) ≡ t → has all first ≡ true → (rest ≡ true → has all col ≡ true) → (t || rest) ≡ true → has all col ≡ true
has_step all first col true rest is here more found = let same : first ≡ col = grind (arith, nat_tests) in ap (has all) (sym same) ∙ here
has_step all first col false rest is here more found = more found

pub all_has : (columns all : List ℕ) → list_all (has all) columns ≡ true → (col : ℕ) → has columns col ≡ true → has all col ≡ true
all_has [] all h col there = absurd (cc)
all_has (first ∷ columns) all h col there =
    let each = both (has all first) (list_all (has all) columns) h in
    has_step all first col (first == col) (has columns col) refl each.0 (all_has columns all each.1 col) there

seen_there : (wanted columns : List ℕ) (col : ℕ) → slice_get columns 0 ≡ Some 0 → list_all (has columns) wanted ≡ true → is_seen wanted col ≡ true → has columns col ≡ true
seen_there wanted columns col key all seen = at (col == 0) refl seen
  where
    at : (t : Bool) → (col == 0) ≡ t → (t || has wanted col) ≡ true → has columns col ≡ true
    at true is h = let same : col ≡ 0 = eqb-true col 0 is in ap (has columns) same ∙ key_there columns key
    at false is h = all_has wanted columns all col h

none_below : (columns : List ℕ) → AllByRecursion (λ col. 0 ≤ col) columns
none_below [] = tt
none_below (col ∷ columns) = (omega arith, none_below columns)

from_none : (bound : ℕ) (columns : List ℕ) → AllByRecursion (λ col. col < bound) columns → AllByRecursion (λ col. col < 0 + bound) columns
from_none bound [] below = tt
from_none bound (col ∷ columns) below = (let here = below.0 in omega arith, from_none bound columns below.1)

-- ascending columns with the key, cut to some that they have
pub cut_to : (wanted columns : List ℕ) (bound : ℕ) → slice_get columns 0 ≡ Some 0 → IsStrictlySortedBy nat_cmp columns → AllByRecursion (λ col. col < bound) columns → list_all (has columns) wanted ≡ true → filter (is_seen wanted) columns ≡ cut_columns wanted bound
cut_to wanted columns bound key sorted below all =
    cut_from (is_seen wanted) 0 bound columns (none_below columns) (from_none bound columns below) sorted (λ col low seen. seen_there wanted columns col key all seen)

pub sorted_once : (columns : List ℕ) → IsStrictlySortedBy nat_cmp columns → AreOnce columns
unfolding IsStrictlySortedBy
sorted_once [] sorted = tt
sorted_once (col ∷ columns) sorted = (not_there col columns (all_above col columns sorted.0), sorted_once columns sorted.1)

-- Columns in groups: those of a group are in the same leaves, and all groups together have the columns.
use Rattle.std.proofs.Common.{◌≡◌, ℕ, Bool, true, false, cond, not, ◌&&◌, ◌||◌, ◌==◌, List, [], ◌∷◌, filter, refl, ap, sym, ◌∙◌}
use Rattle.std.specs.Bool.{beq}
use Rattle.std.specs.List.{AllByRecursion, list_all}
use Rattle.catalog.specs.declared.fragment_leaf.FragmentLeaf.{FragmentLeaf}
use Rattle.catalog.specs.Counts.{has}
use Rattle.catalog.specs.Path.{wanted}
use Rattle.plan.specs.declared.need.Need.{Need}
use Rattle.plan.specs.Located.{has_alike, reaches, together}
use Rattle.plan.proofs.CarriedConds.{and_true, both}

-- a wanted leaf that has one of two such columns has the other
same_had : (a b want : Bool) → (beq a b || not want) ≡ true → want ≡ true → a ≡ b
same_had true true want alike is = refl
same_had false false want alike is = refl
same_had true false true alike is = absurd (cc)
same_had true false false alike is = absurd (cc)
same_had false true true alike is = absurd (cc)
same_had false true false alike is = absurd (cc)

had_too : (need : Need) (first : ℕ) (leaf : FragmentLeaf) (others : List ℕ) → wanted need.columns leaf.steps ≡ true → has leaf.columns first ≡ true → AllByRecursion (λ col. has_alike need first col leaf ≡ true) others → list_all (has leaf.columns) others ≡ true
had_too need first leaf [] want here alike = refl
had_too need first leaf (col ∷ others) want here alike =
    and_true (has leaf.columns col) (list_all (has leaf.columns) others)
    (sym (same_had (has leaf.columns first) (has leaf.columns col) (wanted need.columns leaf.steps) alike.0 want) ∙ here) (had_too need first leaf others want here alike.1)

-- a leaf reaches a group where it reaches its first column
reaches_step : (want here all : Bool) → (want ≡ true → here ≡ true → all ≡ true) → (want && (here && all)) ≡ (want && (here && true))
reaches_step true true all more = more refl refl
reaches_step true false all more = refl
reaches_step false here all more = refl

pub reaches_group : (need : Need) (first : ℕ) (leaf : FragmentLeaf) (others : List ℕ) → AllByRecursion (λ col. has_alike need first col leaf ≡ true) others → reaches need (first ∷ others) leaf ≡ reaches need (first ∷ []) leaf
reaches_group need first leaf others alike =
    reaches_step (wanted need.columns leaf.steps) (has leaf.columns first) (list_all (has leaf.columns) others) (λ want here. had_too need first leaf others want here alike)

-- and any other of its columns
like_step : (want a b : Bool) → (want ≡ true → a ≡ b) → (want && (a && true)) ≡ (want && (b && true))
like_step true a b same = ap (λ (t : Bool). t && true) (same refl)
like_step false a b same = refl

pub reaches_like : (need : Need) (a b : ℕ) (leaf : FragmentLeaf) → has_alike need a b leaf ≡ true → reaches need (a ∷ []) leaf ≡ reaches need (b ∷ []) leaf
reaches_like need a b leaf alike =
    like_step (wanted need.columns leaf.steps) (has leaf.columns a) (has leaf.columns b) (same_had (has leaf.columns a) (has leaf.columns b) (wanted need.columns leaf.steps) alike)

-- what holds of each leaf for all columns
pub of_first_leaf : (need : Need) (first : ℕ) (leaf : FragmentLeaf) (leaves : List FragmentLeaf) (others : List ℕ) → AllByRecursion (λ col. together need (leaf ∷ leaves) first col ≡ true) others → AllByRecursion (λ col. has_alike need first col leaf ≡ true) others
of_first_leaf need first leaf leaves [] all = tt
of_first_leaf need first leaf leaves (col ∷ others) all = ((both (has_alike need first col leaf) (together need leaves first col) all.0).0, of_first_leaf need first leaf leaves others all.1)

pub of_other_leaves : (need : Need) (first : ℕ) (leaf : FragmentLeaf) (leaves : List FragmentLeaf) (others : List ℕ) → AllByRecursion (λ col. together need (leaf ∷ leaves) first col ≡ true) others → AllByRecursion (λ col. together need leaves first col ≡ true) others
of_other_leaves need first leaf leaves [] all = tt
of_other_leaves need first leaf leaves (col ∷ others) all = ((both (has_alike need first col leaf) (together need leaves first col) all.0).1, of_other_leaves need first leaf leaves others all.1)

-- what passes a test passes it
pub all_passed : (test : ℕ → Bool) (columns : List ℕ) → AllByRecursion (λ col. test col ≡ true) (filter test columns)
all_passed test [] = tt
all_passed test (col ∷ columns) = at (test col) refl (all_passed test columns)
  where
    at : (t : Bool) → test col ≡ t → AllByRecursion (λ one. test one ≡ true) (filter test columns) → AllByRecursion (λ one. test one ≡ true) (cond t (col ∷ filter test columns) (filter test columns))
    at true is more = (is, more)
    at false is more = more

-- what holds of all columns holds of those that pass, and of the others
all_step : (here one other all : Bool) → all ≡ (one && other) → (here && all) ≡ ((here && one) && other)
all_step true one other all is = is
all_step false one other all is = refl

all_behind : (here one other all : Bool) → all ≡ (one && other) → (here && all) ≡ (one && (here && other))
all_behind true one other all is = is
all_behind false true other all is = refl
all_behind false false other all is = refl

pub parted_all : (f test : ℕ → Bool) (columns : List ℕ) → list_all f columns ≡ (list_all f (filter test columns) && list_all f (filter (λ col. not (test col)) columns))
parted_all f test [] = refl
parted_all f test (col ∷ columns) = at (test col) (parted_all f test columns)
  where
    at : (t : Bool) → list_all f columns ≡ (list_all f (filter test columns) && list_all f (filter (λ col. not (test col)) columns)) →
        (f col && list_all f columns) ≡ (list_all f (cond t (col ∷ filter test columns) (filter test columns)) && list_all f (cond (not t) (col ∷ filter (λ col. not (test col)) columns) (filter (λ col. not (test col)) columns)))
    at true more = all_step (f col) (list_all f (filter test columns)) (list_all f (filter (λ col. not (test col)) columns)) (list_all f columns) more
    at false more = all_behind (f col) (list_all f (filter test columns)) (list_all f (filter (λ col. not (test col)) columns)) (list_all f columns) more

-- a column is among those that pass, or among the others
has_step : (here one other all : Bool) → all ≡ (one || other) → (here || all) ≡ ((here || one) || other)
has_step true one other all is = refl
has_step false one other all is = is

has_behind : (here one other all : Bool) → all ≡ (one || other) → (here || all) ≡ (one || (here || other))
has_behind true true other all is = refl
has_behind true false other all is = refl
has_behind false one other all is = is

pub parted_has : (test : ℕ → Bool) (columns : List ℕ) (place : ℕ) → has columns place ≡ (has (filter test columns) place || has (filter (λ col. not (test col)) columns) place)
parted_has test [] place = refl
parted_has test (col ∷ columns) place = at (test col) (parted_has test columns place)
  where
    at : (t : Bool) → has columns place ≡ (has (filter test columns) place || has (filter (λ col. not (test col)) columns) place) →
        ((col == place) || has columns place) ≡ (has (cond t (col ∷ filter test columns) (filter test columns)) place || has (cond (not t) (col ∷ filter (λ col. not (test col)) columns) (filter (λ col. not (test col)) columns)) place)
    at true more = has_step (col == place) (has (filter test columns) place) (has (filter (λ col. not (test col)) columns) place) (has columns place) more
    at false more = has_behind (col == place) (has (filter test columns) place) (has (filter (λ col. not (test col)) columns) place) (has columns place) more

pub has_either : (first : ℕ) (test : ℕ → Bool) (columns : List ℕ) (place : ℕ) → has (first ∷ columns) place ≡ (has (first ∷ filter test columns) place || has (filter (λ col. not (test col)) columns) place)
has_either first test columns place =
    has_step (first == place) (has (filter test columns) place) (has (filter (λ col. not (test col)) columns) place) (has columns place) (parted_has test columns place)

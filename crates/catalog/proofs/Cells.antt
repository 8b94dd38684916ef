-- Cells decide whether a row split is exact: every row that fits is met as a cell is, and cells are rows that fit.
use Rattle.std.proofs.Common.{◌≡◌, ◌≢◌, ◌+◌, ◌==◌, ℕ, suc, Bool, true, false, cond, not, ◌&&◌, List, [], ◌∷◌, ◌++◌, map, flat_map, Some, None, Contains, refl, sym, ap, ap₂, ◌∙◌, subst, arith}
use Rattle.std.specs.List.{AllByRecursion, find, slice_get}
use Rattle.std.proofs.lemmas.Bool.{eqb-true, eq-eqb}
use Rattle.std.proofs.lemmas.List.Elements.{All-from_recursion, recursion_from_All, All-contains, All-contains_itself}
use Rattle.terms.specs.declared.cond.Cond.{Cond}
use Rattle.terms.specs.declared.value.Kind.{Kind}
use Rattle.terms.specs.declared.value.Value.{Value}
use Rattle.terms.specs.Value.{Fits, kind_of}
use Rattle.terms.specs.Cond.{IsCondOf, cond_holds, conds_hold}
use Rattle.terms.specs.Row.{FitsKinds}
use Rattle.terms.specs.TestValues.{test_values, constants, TestRowsSuffice, TestValuesFit}
use Rattle.catalog.specs.Valid.{AreExact}
use Rattle.catalog.specs.Cells.{product, conds_of_split, AreTestColumns, AreSplitColumns, met_by, is_fault, first_fault, IsFault, AllFit, CellsDecide}
use Rattle.catalog.proofs.Counts.{and_true}

all_append : {X : Type 0} (P : X → Type 0) (xs ys : List X) → AllByRecursion P xs → AllByRecursion P ys → AllByRecursion P (xs ++ ys)
all_append P [] ys front back = back
all_append P (x ∷ xs) ys front back = (front.0, all_append P xs ys front.1 back)

all_front : {X : Type 0} (P : X → Type 0) (xs ys : List X) → AllByRecursion P (xs ++ ys) → AllByRecursion P xs
all_front P [] ys all = tt
all_front P (x ∷ xs) ys all = (all.0, all_front P xs ys all.1)

all_back : {X : Type 0} (P : X → Type 0) (xs ys : List X) → AllByRecursion P (xs ++ ys) → AllByRecursion P ys
all_back P [] ys all = all
all_back P (x ∷ xs) ys all = all_back P xs ys all.1

-- what holds of each item of joined lists holds of each list's items
all_parts : {X Y : Type 0} (P : Y → Type 0) (f : X → List Y) (xs : List X) → AllByRecursion P (flat_map f xs) → AllByRecursion (λ x. AllByRecursion P (f x)) xs
all_parts P f [] all = tt
all_parts P f (x ∷ xs) all = (all_front P (f x) (flat_map f xs) all, all_parts P f xs (all_back P (f x) (flat_map f xs) all))

all_joined : {X Y : Type 0} (P : Y → Type 0) (f : X → List Y) (xs : List X) → AllByRecursion (λ x. AllByRecursion P (f x)) xs → AllByRecursion P (flat_map f xs)
all_joined P f [] all = tt
all_joined P f (x ∷ xs) all = all_append P (f x) (flat_map f xs) all.0 (all_joined P f xs all.1)

all_map : {X Y : Type 0} (P : Y → Type 0) (f : X → Y) (xs : List X) → AllByRecursion P (map f xs) → AllByRecursion (λ x. P (f x)) xs
all_map P f [] all = tt
all_map P f (x ∷ xs) all = (all.0, all_map P f xs all.1)

map_all : {X Y : Type 0} (P : Y → Type 0) (Q : X → Type 0) (f : X → Y) (xs : List X) → ((x : X) → Q x → P (f x)) → AllByRecursion Q xs → AllByRecursion P (map f xs)
map_all P Q f [] each all = tt
map_all P Q f (x ∷ xs) each all = (each x all.0, map_all P Q f xs each all.1)

weaker : {X : Type 0} (P Q : X → Type 0) (xs : List X) → ((x : X) → P x → Q x) → AllByRecursion P xs → AllByRecursion Q xs
weaker P Q [] each all = tt
weaker P Q (x ∷ xs) each all = (each x all.0, weaker P Q xs each all.1)

-- all conditions of a row split
pub all_fit : (kinds : List Kind) (way : List Cond) (branches : List (List Cond)) → AllFit kinds way branches → AllByRecursion (IsCondOf kinds) (conds_of_split way branches)
all_fit kinds way branches fit = all_append (IsCondOf kinds) way (flat_map (λ conds. conds) branches) fit.on_way (all_joined (IsCondOf kinds) (λ conds. conds) branches fit.of_branches)

-- each item is one of its list
abbrev AreAmong : List (List Value) → List Value → Type 0
AreAmong [] [] = Unit {0}
AreAmong [] (item ∷ items) = ⊥
AreAmong (values ∷ lists) [] = ⊥
AreAmong (values ∷ lists) (item ∷ items) = Contains values item × AreAmong lists items

-- what holds of each combination holds of one of such items
at_items : (P : List Value → Type 0) (lists : List (List Value)) (items : List Value) → AreAmong lists items → AllByRecursion P (product lists) → P items
at_items P [] [] among all = all.0
at_items P [] (item ∷ items) among all = absurd among
at_items P (values ∷ lists) [] among all = absurd among
at_items P (values ∷ lists) (item ∷ items) among all =
    let Behind : Value → Type 0 = λ value. AllByRecursion P (map (λ rest. value ∷ rest) (product lists)) in
    let each = all_parts P (λ value. map (λ rest. value ∷ rest) (product lists)) values all in
    let here = All-contains Behind values item (All-from_recursion Behind values each) among.0 in
    let P_rest : List Value → Type 0 = λ rest. P (item ∷ rest) in
    at_items P_rest lists items among.1 (all_map P (λ rest. item ∷ rest) (product lists) here)

-- a row of test values is a combination of those listed
among : (conds : List Cond) (col : ℕ) (kinds : List Kind) (lists : List (List Value)) (tests : List Value) → AreTestColumns conds col kinds lists → FitsKinds kinds tests →
    ((i at : ℕ) (kind : Kind) (value : Value) → at ≡ col + i → slice_get kinds i ≡ Some kind → slice_get tests i ≡ Some value → Contains (test_values kind (constants conds at)) value) → AreAmong lists tests
among conds col [] [] [] columns fits are = tt
among conds col [] [] (test ∷ tests) columns fits are = absurd fits
among conds col [] (values ∷ lists) tests columns fits are = absurd columns
among conds col (kind ∷ kinds) [] tests columns fits are = absurd columns
among conds col (kind ∷ kinds) (values ∷ lists) [] columns fits are = absurd fits
among conds col (kind ∷ kinds) (values ∷ lists) (test ∷ tests) columns fits are = (
  ((columns.0).members test).1 (are 0 col kind test (omega arith) refl refl),
  among conds (suc col) kinds lists tests columns.1 fits.2 (λ i at own value is in_kinds in_tests. are (suc i) at own value (omega arith) in_kinds in_tests),
)

-- cells fit
cells_fit : TestValuesFit → (all : List Kind) (conds : List Cond) (col : ℕ) (kinds : List Kind) (lists : List (List Value)) → AllByRecursion (IsCondOf all) conds → AreTestColumns conds col kinds lists →
    ((i at : ℕ) (kind : Kind) → at ≡ col + i → slice_get kinds i ≡ Some kind → slice_get all at ≡ Some kind) → AllByRecursion (FitsKinds kinds) (product lists)
cells_fit law all conds col [] [] fit columns there = (tt, tt)
cells_fit law all conds col [] (values ∷ lists) fit columns there = absurd columns
cells_fit law all conds col (kind ∷ kinds) [] fit columns there = absurd columns
cells_fit law all conds col (kind ∷ kinds) (values ∷ lists) fit columns there =
    let rest = cells_fit law all conds (suc col) kinds lists fit columns.1 (λ i at own is in_kinds. there (suc i) at own (omega arith) in_kinds) in
    let at_col = there 0 col kind (omega arith) refl in
    let Fitting : Value → Type 0 = λ value. (kind_of value ≡ kind) × Fits value in
    let values_fit : AllByRecursion Fitting values = weaker (Contains values) Fitting values
    (λ value own. law all conds col kind value fit at_col (((columns.0).members value).0 own))
    (recursion_from_All (Contains values) values (All-contains_itself values)) in
    all_joined (FitsKinds (kind ∷ kinds)) (λ value. map (λ row. value ∷ row) (product lists)) values
    (weaker Fitting (λ value. AllByRecursion (FitsKinds (kind ∷ kinds)) (map (λ row. value ∷ row) (product lists))) values
    (λ value own. map_all (FitsKinds (kind ∷ kinds)) (FitsKinds kinds) (λ row. value ∷ row) (product lists) (λ row row_fits. (own.0, own.1, row_fits)) rest)
    values_fit)

-- where none is found, none passes
find_none : {X : Type 0} (passes : X → Bool) (xs : List X) → find passes xs ≡ None → AllByRecursion (λ x. passes x ≡ false) xs
find_none passes [] none = tt
find_none {X} passes (x ∷ xs) none =
    elim (passes x) as (λ b. passes x ≡ b → cond b (Some x) (find passes xs) ≡ None → AllByRecursion (λ x. passes x ≡ false) (x ∷ xs)) [
      | true ↦ λ is found. cc
      | false ↦ λ is rest. (is, find_none passes xs rest)
    ] refl none

-- what is found passes, and what holds of all holds of it
find_some : {X : Type 0} (passes : X → Bool) (P : X → Type 0) (xs : List X) (found : X) → AllByRecursion P xs → find passes xs ≡ Some found → (passes found ≡ true) × P found
find_some passes P [] found all is = cc
find_some {X} passes P (x ∷ xs) found all is =
    elim (passes x) as (λ b. passes x ≡ b → cond b (Some x) (find passes xs) ≡ Some found → (passes found ≡ true) × P found) [
      | true ↦ λ here same.
          let one : x ≡ found = cc in
          let Both : X → Type 0 = λ y. (passes y ≡ true) × P y in
          subst Both one (here, all.0)
      | false ↦ λ other rest. find_some passes P xs found all.1 rest
    ] refl is

-- conditions that hold alike of two rows
abbrev Alike : List Value → List Value → Cond → Type 0
Alike one other cond = cond_holds cond one ≡ cond_holds cond other

hold_alike : (conds : List Cond) (one other : List Value) → AllByRecursion (Alike one other) conds → conds_hold conds one ≡ conds_hold conds other
hold_alike [] one other alike = refl
hold_alike (c ∷ conds) one other alike = ap₂ (λ a b. a && b) alike.0 (hold_alike conds one other alike.1)

met_alike : (branches : List (List Cond)) (one other : List Value) → AllByRecursion (λ conds. AllByRecursion (Alike one other) conds) branches → met_by branches one ≡ met_by branches other
met_alike [] one other alike = refl
met_alike (conds ∷ branches) one other alike =
    ap₂ (λ b n. cond b (suc n) n) (hold_alike conds one other alike.0) (met_alike branches one other alike.1)

is_one : (way : Bool) (met : ℕ) → way ≡ true → (way && not (met == 1)) ≡ false → met ≡ 1
is_one way met holds no_fault =
    elim (met == 1) as (λ b. (met == 1) ≡ b → (way && not b) ≡ false → met ≡ 1) [
      | true ↦ λ is rest. eqb-true met 1 is
      | false ↦ λ is rest. let both : way ≡ false = way_false way rest in cc
    ] refl no_fault
  where
    way_false : (b : Bool) → (b && true) ≡ false → b ≡ false
    way_false true h = cc
    way_false false h = refl

not_one : (met : ℕ) → not (met == 1) ≡ true → met ≢ 1
not_one met other is = let same : (met == 1) ≡ true = eq-eqb met 1 is in let turned : not (met == 1) ≡ false = ap not same in cc

exact_from_none : TestRowsSuffice → (kinds : List Kind) (way : List Cond) (branches : List (List Cond)) (lists : List (List Value)) → AllFit kinds way branches → AreSplitColumns kinds way branches lists →
    first_fault way branches lists ≡ None → AreExact kinds way branches
exact_from_none suffice kinds way branches lists fit columns none row fits holds =
    let conds = conds_of_split way branches in
    let found = suffice kinds conds row (all_fit kinds way branches fit) fits in
    let tests = found.0 in
    let stands = found.1 in
    let on_way = hold_alike way tests row (all_front (Alike tests row) way (flat_map (λ own. own) branches) stands.holds) in
    let met = met_alike branches tests row (all_parts (Alike tests row) (λ own. own) branches (all_back (Alike tests row) way (flat_map (λ own. own) branches) stands.holds)) in
    let items = among conds 0 kinds lists tests columns stands.fits (λ i at kind value is in_kinds in_tests. at_place i at kind value is (stands.are_tests i kind value in_kinds in_tests)) in
    let no_fault = at_items (λ cell. is_fault way branches cell ≡ false) lists tests items (find_none (is_fault way branches) (product lists) none) in
    sym met ∙ is_one (conds_hold way tests) (met_by branches tests) (on_way ∙ holds) no_fault
  where
    at_place : (i at : ℕ) (kind : Kind) (value : Value) → at ≡ 0 + i → Contains (test_values kind (constants (conds_of_split way branches) i)) value → Contains (test_values kind (constants (conds_of_split way branches) at)) value
    at_place i at kind value is there = subst (λ (col : ℕ). Contains (test_values kind (constants (conds_of_split way branches) col)) value) (same i at is) there
      where
        same : (i at : ℕ) → at ≡ 0 + i → i ≡ at
        same i at is = omega arith

fault_from_some : TestValuesFit → (kinds : List Kind) (way : List Cond) (branches : List (List Cond)) (lists : List (List Value)) → AllFit kinds way branches → AreSplitColumns kinds way branches lists →
    (cell : List Value) → first_fault way branches lists ≡ Some cell → IsFault kinds way branches cell
fault_from_some law kinds way branches lists fit columns cell found =
    let all = cells_fit law kinds (conds_of_split way branches) 0 kinds lists (all_fit kinds way branches fit) columns (λ i at kind is in_kinds. subst (λ (col : ℕ). slice_get kinds col ≡ Some kind) (same i at is) in_kinds) in
    let is = find_some (is_fault way branches) (FitsKinds kinds) (product lists) cell all found in
    let both = and_true (conds_hold way cell) (not (met_by branches cell == 1)) is.0 in
    record { fits = is.1; holds = both.0; not_one = not_one (met_by branches cell) both.1 }
  where
    same : (i at : ℕ) → at ≡ 0 + i → i ≡ at
    same i at is = omega arith

pub cells_decide : TestRowsSuffice → TestValuesFit → CellsDecide
cells_decide suffice law kinds way branches lists fit columns = (exact_from_none suffice kinds way branches lists fit columns, fault_from_some law kinds way branches lists fit columns)

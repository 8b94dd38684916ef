-- Looking for the first fault value by value.
use Rattle.std.proofs.Common.{◌≡◌, ◌≢◌, ◌<◌, ◌≤◌, ◌+◌, ℕ, zero, suc, if◌then◌else◌, ◌==◌, Bool, true, false, cond, not, ◌&&◌, ◌||◌, List, [], ◌∷◌, ◌++◌, ◌-◌, length, length-append, take, drop, get_or, map, flat_map, filter, Option, Some, None, refl, sym, ap, ap₂, ◌∙◌, append_assoc, append-nil, subst, arith}
use Rattle.std.proofs.Math.Seq.{drop-cons, take-append_seam}
use Rattle.std.proofs.lemmas.Bool.{eqb-true, eqb-false}
use Rattle.std.proofs.lemmas.List.{map-id, map-append}
use Rattle.std.proofs.lemmas.List.Folds.{find-append}
use Rattle.std.specs.Borrow.{Bor}
use Rattle.std.specs.List.{find, slice_get}
use Rattle.std.specs.Option.{option_or}
use Rattle.terms.specs.declared.cond.Cond.{Cond}
use Rattle.terms.specs.declared.value.Value.{Value}
use Rattle.terms.specs.Cond.{compares, holds_of, cond_holds, conds_hold}
use Rattle.terms.specs.TestValues.{column_holds}
use Rattle.terms.specs.declared.value.Kind.{Kind}
use Rattle.catalog.specs.declared.exact.Exactness.{Exactness}
use Rattle.catalog.specs.declared.exact.Exactness.TheVariants.{Exact, Gap, Overlap}
use Rattle.catalog.specs.Exactness.{IsAnswer}
use Rattle.catalog.specs.Cells.{product, cell_count, on_way, AreSplitColumns, AllFit, met_by, is_fault, first_fault, first_fault_behind, values_of, IsSought, IsFirstFault, CellsDecide}

-- one value more among those that each cell begins with
one_more : (before : List Value) (value : Value) (rests : List (List Value)) → map (λ rest. before ++ rest) (map (λ rest. value ∷ rest) rests) ≡ map (λ rest. (before ++ value ∷ []) ++ rest) rests
one_more before value [] = refl
one_more before value (rest ∷ rests) = ap₂ (λ x xs. x ∷ xs) (sym (append_assoc before (value ∷ []) rest)) (one_more before value rests)

-- the cells with the first value come before those with the others
one_by_one : (way : List Cond) (branches : List (List Cond)) (before : List Value) (value : Value) (values : List Value) (lists : List (List Value)) →
    first_fault_behind way branches before ((value ∷ values) ∷ lists) ≡ option_or (first_fault_behind way branches (before ++ value ∷ []) lists) (first_fault_behind way branches before (values ∷ lists))
one_by_one way branches before value values lists =
    let Behind : List Value → List Value = λ rest. before ++ rest in
    let here = map (λ rest. value ∷ rest) (product lists) in
    let others = flat_map (λ other. map (λ rest. other ∷ rest) (product lists)) values in
    let parts = map-append Behind here others ∙ ap (λ (cells : List (List Value)). cells ++ map Behind others) (one_more before value (product lists)) in
    ap (λ (cells : List (List Value)). find (is_fault way branches) cells) parts ∙ find-append (is_fault way branches) (map (λ rest. (before ++ value ∷ []) ++ rest) (product lists)) (map Behind others)

-- the values from some place on
from_here : (way : List Cond) (branches : List (List Cond)) (before : List Value) (values : List Value) (lists : List (List Value)) (i : ℕ) (value : Value) → i < length values → value ≡ get_or values i value →
    first_fault_behind way branches before (drop i values ∷ lists) ≡ option_or (first_fault_behind way branches (before ++ value ∷ []) lists) (first_fault_behind way branches before (drop (i + 1) values ∷ lists))
from_here way branches before values lists i value within is =
    let P : List Value → Type 0 = λ all. first_fault_behind way branches before (all ∷ lists) ≡ option_or (first_fault_behind way branches (before ++ value ∷ []) lists) (first_fault_behind way branches before (drop (i + 1) values ∷ lists)) in
    let here : drop i values ≡ value ∷ drop (i + 1) values = drop-cons values i value within ∙ ap₂ (λ (v : Value) (j : ℕ). v ∷ drop j values) (sym is) (next i) in
    subst P (sym here) (one_by_one way branches before value (drop (i + 1) values) lists)
  where
    next : (j : ℕ) → suc j ≡ j + 1
    next j = omega arith

-- with this value there is no fault: the others decide
pub passed : (way : List Cond) (branches : List (List Cond)) (before : List Value) (values : List Value) (lists : List (List Value)) (i : ℕ) (value : Value) (first : Option (List Value)) → i < length values → value ≡ get_or values i value →
    first_fault_behind way branches (before ++ value ∷ []) lists ≡ None → first_fault_behind way branches before (drop i values ∷ lists) ≡ first → first_fault_behind way branches before (drop (i + 1) values ∷ lists) ≡ first
passed way branches before values lists i value first within is none so_far =
    let here = from_here way branches before values lists i value within is ∙ ap (λ (found : Option (List Value)). option_or found (first_fault_behind way branches before (drop (i + 1) values ∷ lists))) none in
    sym here ∙ so_far

-- with this value there is one
pub hit : (way : List Cond) (branches : List (List Cond)) (before : List Value) (values : List Value) (lists : List (List Value)) (i : ℕ) (value : Value) (cell : List Value) (first : Option (List Value)) → i < length values → value ≡ get_or values i value →
    first_fault_behind way branches (before ++ value ∷ []) lists ≡ Some cell → first_fault_behind way branches before (drop i values ∷ lists) ≡ first → first ≡ Some cell
hit way branches before values lists i value cell first within is some so_far =
    let here = from_here way branches before values lists i value within is ∙ ap (λ (found : Option (List Value)). option_or found (first_fault_behind way branches before (drop (i + 1) values ∷ lists))) some in
    sym so_far ∙ here

-- where no column is left there is one cell
pub whole : (way : List Cond) (branches : List (List Cond)) (row : List (Bor Value)) → IsSought (first_fault_behind way branches (values_of row) []) (is_fault way branches (values_of row)) row row
whole way branches row =
    let P : List Value → Type 0 = λ cell. IsSought (cond (is_fault way branches cell) (Some cell) None) (is_fault way branches (values_of row)) row row in
    subst P (sym (append-nil (values_of row))) (elim (is_fault way branches (values_of row)) as (λ b. IsSought (cond b (Some (values_of row)) None) b row row) [ true ↦ refl | false ↦ (refl, refl) ])

-- at the outset a cell begins with nothing
pub outset : (way : List Cond) (branches : List (List Cond)) (lists : List (List Value)) → first_fault_behind way branches [] lists ≡ first_fault way branches lists
outset way branches lists = ap (λ (cells : List (List Value)). find (is_fault way branches) cells) (map-id (product lists))

-- the value behind those before it
at_length : (before rest : List Value) (value : Value) → slice_get ((before ++ value ∷ []) ++ rest) (length before) ≡ Some value
at_length [] rest value = refl
at_length (other ∷ before) rest value = at_length before rest value

-- a value that fails a condition on its column fails the row
fails : (way : List Cond) (before rest : List Value) (value : Value) → column_holds way (length before) value ≡ false → conds_hold way ((before ++ value ∷ []) ++ rest) ≡ false
fails [] before rest value failed = cc
fails (c ∷ way) before rest value failed =
    let cell = (before ++ value ∷ []) ++ rest in
    elim (c.col == length before) as (λ b. (c.col == length before) ≡ b → ((not b || compares c.cmp value c.value) && column_holds way (length before) value) ≡ false → (cond_holds c cell && conds_hold way cell) ≡ false) [
      | true ↦ λ is none.
          let at : slice_get cell c.col ≡ Some value = ap (λ (n : ℕ). slice_get cell n) (eqb-true c.col (length before) is) ∙ at_length before rest value in
          let same : cond_holds c cell ≡ compares c.cmp value c.value = ap (λ (found : Option Value). holds_of c found) at in
          rw same (both (compares c.cmp value c.value) (column_holds way (length before) value) (conds_hold way cell) none (fails way before rest value))
      | false ↦ λ is none. either (cond_holds c cell) (conds_hold way cell) (fails way before rest value none)
    ] refl failed
  where
    both : (here column row : Bool) → (here && column) ≡ false → (column ≡ false → row ≡ false) → (here && row) ≡ false
    both true column row none follows = follows none
    both false column row none follows = refl

    either : (here row : Bool) → row ≡ false → (here && row) ≡ false
    either true row none = none
    either false row none = refl

none_of : (way : List Cond) (branches : List (List Cond)) (start : List Value) (rests : List (List Value)) → ((rest : List Value) → conds_hold way (start ++ rest) ≡ false) → find (is_fault way branches) (map (λ rest. start ++ rest) rests) ≡ None
none_of way branches start [] failed = refl
none_of way branches start (rest ∷ rests) failed =
    let here : is_fault way branches (start ++ rest) ≡ false = ap (λ (b : Bool). b && not (met_by branches (start ++ rest) == 1)) (failed rest) in
    rw here (none_of way branches start rests failed)

-- so none of its cells is a fault
pub skipped : (way : List Cond) (branches : List (List Cond)) (before : List Value) (value : Value) (lists : List (List Value)) → column_holds way (length before) value ≡ false → first_fault_behind way branches (before ++ value ∷ []) lists ≡ None
skipped way branches before value lists failed = none_of way branches (before ++ value ∷ []) (product lists) (λ rest. fails way before rest value failed)

-- the values that fail are left out of a column
each_on_way : (way : List Cond) (branches : List (List Cond)) (before values : List Value) (lists kept : List (List Value)) (col : ℕ) → col ≡ length before →
    ((value : Value) → first_fault_behind way branches (before ++ value ∷ []) kept ≡ first_fault_behind way branches (before ++ value ∷ []) lists) →
    first_fault_behind way branches before (filter (column_holds way col) values ∷ kept) ≡ first_fault_behind way branches before (values ∷ lists)
each_on_way way branches before [] lists kept col last same = refl
each_on_way way branches before (value ∷ values) lists kept col last same =
    let rest = each_on_way way branches before values lists kept col last same in
    elim (column_holds way col value) as (λ b. column_holds way col value ≡ b → first_fault_behind way branches before (cond b (value ∷ filter (column_holds way col) values) (filter (column_holds way col) values) ∷ kept) ≡ first_fault_behind way branches before ((value ∷ values) ∷ lists)) [
      | true ↦ λ meets. one_by_one way branches before value (filter (column_holds way col) values) kept
          ∙ ap₂ (λ (first other : Option (List Value)). option_or first other) (same value) rest
          ∙ sym (one_by_one way branches before value values lists)
      | false ↦ λ fails_it.
          let failed : column_holds way (length before) value ≡ false = ap (λ (n : ℕ). column_holds way n value) (sym last) ∙ fails_it in
          rest ∙ sym (one_by_one way branches before value values lists ∙ ap (λ (first : Option (List Value)). option_or first (first_fault_behind way branches before (values ∷ lists))) (skipped way branches before value lists failed))
    ] refl

-- so the first fault is the same where they are left out of each column
same_on_way : (way : List Cond) (branches : List (List Cond)) (before : List Value) (lists : List (List Value)) (col : ℕ) → col ≡ length before →
    first_fault_behind way branches before (on_way way col lists) ≡ first_fault_behind way branches before lists
same_on_way way branches before [] col last = refl
same_on_way way branches before (values ∷ lists) col last =
    each_on_way way branches before values lists (on_way way (suc col) lists) col last
    (λ value. same_on_way way branches (before ++ value ∷ []) lists (suc col) (longer value))
  where
    longer : (value : Value) → suc col ≡ length (before ++ value ∷ [])
    longer value = omega (arith, last, length-append before (value ∷ []))

-- the values on the way of one column more
pub column_on_way : (way : List Cond) (lists : List (List Value)) (i : ℕ) (values : List Value) (kept more : List (List Value)) (others : List Value) → i < length lists → values ≡ get_or lists i values → kept ≡ on_way way 0 (take i lists) →
    others ≡ filter (column_holds way i) values → more ≡ kept ++ others ∷ [] → more ≡ on_way way 0 (take (i + 1) lists)
column_on_way way lists i values kept more others within is so_far filtered pushed =
    let own = filtered ∙ ap (λ (all : List Value). filter (column_holds way i) all) is in
    pushed ∙ ap₂ (λ (all : List (List Value)) (last : List Value). all ++ last ∷ []) so_far own ∙ sym (one_column 0 lists i i values (omega arith) within) ∙ ap (λ (n : ℕ). on_way way 0 (take n lists)) (next i)
  where
    one_column : (col : ℕ) (all : List (List Value)) (j at : ℕ) (d : List Value) → at ≡ col + j → j < length all → on_way way col (take (suc j) all) ≡ on_way way col (take j all) ++ filter (column_holds way at) (get_or all j d) ∷ []
    one_column col [] j at d place inside = absurd (omega arith)
    one_column col (first ∷ all) zero at d place inside = let same : at ≡ col = omega arith in rw same refl
    one_column col (first ∷ all) (suc j) at d place inside = ap (λ (rest : List (List Value)). filter (column_holds way col) first ∷ rest) (one_column (suc col) all j at d (omega arith) (omega arith))

    next : (n : ℕ) → suc n ≡ n + 1
    next n = omega arith

-- what was sought and is there
pub sought_found : (first : Option (List Value)) (found : Bool) (old new : List (Bor Value)) → found ≡ true → IsSought first found old new → first ≡ Some (values_of new)
sought_found first true old new is sought = sought
sought_found first false old new is sought = cc

-- what was sought and is not there
pub sought_none : (first : Option (List Value)) (found : Bool) (old new : List (Bor Value)) → found ≡ false → IsSought first found old new → (first ≡ None) × (new ≡ old)
sought_none first true old new is sought = cc
sought_none first false old new is sought = sought

-- the search among the cells with a value ends the search among those with any
pub found_with : (way : List Cond) (branches : List (List Cond)) (row here new : List (Bor Value)) (columns : List (List Value)) (values : List Value) (lists : List (List Value)) (i : ℕ) (value : Value) (found : Bool) →
    columns ≡ values ∷ lists → i < length values → value ≡ get_or values i value → found ≡ true → here ≡ row →
    first_fault_behind way branches (values_of row) (drop i values ∷ lists) ≡ first_fault_behind way branches (values_of row) (values ∷ lists) →
    IsSought (first_fault_behind way branches (values_of here ++ value ∷ []) lists) found here new → first_fault_behind way branches (values_of row) columns ≡ Some (values_of new)
found_with way branches row here new columns values lists i value found are within is there same so_far sought =
    let P : List (Bor Value) → Type 0 = λ own. IsSought (first_fault_behind way branches (values_of own ++ value ∷ []) lists) found own new in
    let some = sought_found (first_fault_behind way branches (values_of row ++ value ∷ []) lists) found row new there (subst P same sought) in
    rw are (hit way branches (values_of row) values lists i value (values_of new) (first_fault_behind way branches (values_of row) (values ∷ lists)) within is some so_far)

-- it goes on with the next value
pub none_with : (way : List Cond) (branches : List (List Cond)) (row here new : List (Bor Value)) (values : List Value) (lists : List (List Value)) (i : ℕ) (value : Value) (found : Bool) →
    i < length values → value ≡ get_or values i value → found ≡ false → here ≡ row →
    first_fault_behind way branches (values_of row) (drop i values ∷ lists) ≡ first_fault_behind way branches (values_of row) (values ∷ lists) →
    IsSought (first_fault_behind way branches (values_of here ++ value ∷ []) lists) found here new →
    (new ≡ row) × (first_fault_behind way branches (values_of row) (drop (i + 1) values ∷ lists) ≡ first_fault_behind way branches (values_of row) (values ∷ lists))
none_with way branches row here new values lists i value found within is not_there same so_far sought =
    let P : List (Bor Value) → Type 0 = λ own. IsSought (first_fault_behind way branches (values_of own ++ value ∷ []) lists) found own new in
    let none = sought_none (first_fault_behind way branches (values_of row ++ value ∷ []) lists) found row new not_there (subst P same sought) in
    (none.1, passed way branches (values_of row) values lists i value (first_fault_behind way branches (values_of row) (values ∷ lists)) within is none.0 so_far)

-- where no column is left
pub sought_here : (way : List Cond) (branches : List (List Cond)) (row cell : List (Bor Value)) (columns : List (List Value)) (found : Bool) → columns ≡ [] → cell ≡ row → found ≡ is_fault way branches (values_of cell) →
    IsSought (first_fault_behind way branches (values_of row) columns) found row row
sought_here way branches row cell columns found none same is =
    let here = is ∙ ap (λ (own : List (Bor Value)). is_fault way branches (values_of own)) same in
    rw (none, here) (whole way branches row)

-- with one more value in the row
pub sought_with : (way : List Cond) (branches : List (List Cond)) (row longer new : List (Bor Value)) (value : Bor Value) (lists : List (List Value)) (found : Bool) → longer ≡ row ++ value ∷ [] →
    IsSought (first_fault_behind way branches (values_of longer) lists) found longer new → IsSought (first_fault_behind way branches (values_of row ++ value.now ∷ []) lists) found longer new
sought_with way branches row longer new value lists found is sought =
    let same : values_of longer ≡ values_of row ++ value.now ∷ [] = ap values_of is ∙ map-append (λ (own : Bor Value). own.now) row (value ∷ []) in
    let P : List Value → Type 0 = λ before. IsSought (first_fault_behind way branches before lists) found longer new in
    subst P same sought

-- where it is there the row stays
pub there_with : (first : Option (List Value)) (found : Bool) (row longer new : List (Bor Value)) → found ≡ true → IsSought first found longer new → IsSought first found row new
there_with first true row longer new is sought = sought
there_with first false row longer new is sought = cc

-- where it is not the row goes back
pub back_without : (first : Option (List Value)) (found : Bool) (row longer new back : List (Bor Value)) → found ≡ false → (new ≡ longer → back ≡ row) → IsSought first found longer new → IsSought first found row back
back_without first true row longer new back is popped sought = cc
back_without first false row longer new back is popped sought = (sought.0, popped sought.1)

-- without its last value
pub popped : (row longer new back : List (Bor Value)) (value : Bor Value) (n : ℕ) → n ≡ length new → back ≡ take (n - 1) new → longer ≡ row ++ value ∷ [] → new ≡ longer → back ≡ row
popped row longer new back value n is taken pushed same =
    let whole_is = same ∙ pushed in
    let size : n ≡ length row + 1 = is ∙ ap length whole_is ∙ length-append row (value ∷ []) in
    let less : n - 1 ≡ length row = omega (arith, size) in
    taken ∙ ap₂ (λ (m : ℕ) (all : List (Bor Value)). take m all) less whole_is ∙ take-append_seam row (value ∷ [])

-- what is sought from the outset
pub first_found : (way : List Cond) (branches : List (List Cond)) (start new : List (Bor Value)) (slice lists : List (List Value)) (found : Bool) → start ≡ [] → slice ≡ on_way way 0 lists → found ≡ true →
    IsSought (first_fault_behind way branches (values_of start) slice) found start new → first_fault way branches lists ≡ Some (values_of new)
first_found way branches start new slice lists found none same is sought =
    let P : List (Bor Value) → List (List Value) → Type 0 = λ own columns. first_fault_behind way branches (values_of own) columns ≡ Some (values_of new) in
    let some = sought_found (first_fault_behind way branches (values_of start) slice) found start new is sought in
    sym (same_on_way way branches [] lists 0 refl ∙ outset way branches lists) ∙ subst (λ (own : List (Bor Value)). P own (on_way way 0 lists)) none (subst (λ (columns : List (List Value)). P start columns) same some)

pub first_none : (way : List Cond) (branches : List (List Cond)) (start new : List (Bor Value)) (slice lists : List (List Value)) (found : Bool) → start ≡ [] → slice ≡ on_way way 0 lists → found ≡ false →
    IsSought (first_fault_behind way branches (values_of start) slice) found start new → first_fault way branches lists ≡ None
first_none way branches start new slice lists found none same is sought =
    let P : List (Bor Value) → List (List Value) → Type 0 = λ own columns. first_fault_behind way branches (values_of own) columns ≡ None in
    let nothing = (sought_none (first_fault_behind way branches (values_of start) slice) found start new is sought).0 in
    sym (same_on_way way branches [] lists 0 refl ∙ outset way branches lists) ∙ subst (λ (own : List (Bor Value)). P own (on_way way 0 lists)) none (subst (λ (columns : List (List Value)). P start columns) same nothing)

-- a cell that is found answers by its kind
pub found_answer : (kinds : List Kind) (way : List Cond) (branches : List (List Cond)) (lists : List (List Value)) (cell : List Value) (answer : Exactness) → CellsDecide → AllFit kinds way branches → AreSplitColumns kinds way branches lists → cell_count lists ≤ 4096 → first_fault way branches lists ≡ Some cell →
    answer ≡ (if met_by branches cell == 0 then Gap cell else Overlap cell) → IsAnswer kinds way branches 4096 answer
found_answer kinds way branches lists cell answer decide fit columns few found is =
    let first : IsFirstFault kinds way branches 4096 (Some cell) = record { lists = lists; columns = columns; few = few; first = found } in
    let fault = (decide kinds way branches lists fit columns).1 cell found in
    rw is (elim (met_by branches cell == 0) as (λ b. (met_by branches cell == 0) ≡ b → IsAnswer kinds way branches 4096 (cond b (Gap cell) (Overlap cell))) [
      | true ↦ λ none. (first, fault, eqb-true (met_by branches cell) 0 none)
      | false ↦ λ some. (first, fault, two_or_more (met_by branches cell) (eqb-false (met_by branches cell) 0 some) fault.not_one)
    ] refl)
  where
    two_or_more : (met : ℕ) → met ≢ 0 → met ≢ 1 → 2 ≤ met
    two_or_more zero not_zero not_one = absurd (not_zero refl)
    two_or_more (suc zero) not_zero not_one = absurd (not_one refl)
    two_or_more (suc (suc met)) not_zero not_one = omega arith

-- where no cell is found the split is exact
pub none_answer : (kinds : List Kind) (way : List Cond) (branches : List (List Cond)) (lists : List (List Value)) → CellsDecide → AllFit kinds way branches → AreSplitColumns kinds way branches lists → cell_count lists ≤ 4096 → first_fault way branches lists ≡ None →
    IsAnswer kinds way branches 4096 Exact
none_answer kinds way branches lists decide fit columns few found =
    (record { lists = lists; columns = columns; few = few; first = found }, (decide kinds way branches lists fit columns).0 found)

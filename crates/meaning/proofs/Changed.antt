-- What an UPDATE keeps of rows.
use Rattle.std.proofs.Common.{◌≡◌, ℕ, zero, suc, ℤ, pos, negsuc, ◌+ℤ◌, ◌<ℤ◌, List, [], ◌∷◌, Option, Some, None, true, false, cond, map, refl, ap, sym, subst, ◌∙◌, arith, set, eqb, ltb-true, ◌^◌, FitsSigned}
use Rattle.std.specs.Int.{w64}
use Rattle.std.specs.List.{AllByRecursion, slice_get}
use Rattle.std.specs.Option.{option_map, option_and_then}
use Rattle.terms.specs.declared.value.Kind.{Kind}
use Rattle.terms.specs.declared.value.Kind.TheVariants as kinds
use Rattle.terms.specs.declared.value.Value.{Value}
use Rattle.terms.specs.declared.value.Value.TheVariants.{Int, Text}
use Rattle.terms.specs.Cond.{conds_hold}
use Rattle.terms.specs.Row.{key_of, FitsKinds}
use Rattle.terms.specs.Value.{Fits, kind_of}
use Rattle.meaning.specs.declared.statement.Assigned.{Assigned}
use Rattle.meaning.specs.declared.statement.Assigned.TheVariants as assigned
use Rattle.meaning.specs.declared.statement.Assignment.{Assignment}
use Rattle.meaning.specs.declared.statement.Update.{Update}
use Rattle.meaning.specs.Relation.{Ascends}
use Rattle.meaning.specs.Statement.{IsAssignable, IsAssignmentOf}
use Rattle.meaning.specs.Updated.{fits_i64, sum_of, right_side, put_value, assign, updated_row, updated}

-- what an UPDATE keeps

key_behind : (first : Value) (old new : List Value) → key_of (first ∷ new) ≡ key_of (first ∷ old)
key_behind (Int n) old new = refl
key_behind (Text bytes) old new = refl

put_behind_key : (row : List Value) (col : ℕ) (value : Value) → put_value row (suc col) value ≡ set row (suc col) value
put_behind_key row col value =
    let apart : eqb (suc col) 0 ≡ false = grind arith in
    ap (λ t. cond t row (set row (suc col) value)) apart

-- a value put in a row leaves its key
put_keeps_key : (row : List Value) (col : ℕ) (value : Value) → key_of (put_value row col value) ≡ key_of row
put_keeps_key row zero value = refl
put_keeps_key [] (suc col) value = ap key_of (put_behind_key [] col value)
put_keeps_key (first ∷ row) (suc col) value = ap key_of (put_behind_key (first ∷ row) col value) ∙ key_behind first row (set row col value)

assign_keeps_key : (before : List Value) (sets : List Assignment) (row new : List Value) → assign before sets row ≡ Some new → key_of new ≡ key_of row
assign_keeps_key before [] row new is = cc
assign_keeps_key before (first ∷ sets) row new is =
    elim (right_side before first.value) as (λ o. option_and_then (λ value. assign before sets (put_value row first.col value)) o ≡ Some new → key_of new ≡ key_of row) [
      | None ↦ λ none. cc
      | Some value ↦ λ some. assign_keeps_key before sets (put_value row first.col value) new some ∙ put_keeps_key row first.col value
    ] is

updated_row_keeps_key : (update : Update) (row new : List Value) → updated_row update row ≡ Some new → key_of new ≡ key_of row
updated_row_keeps_key update row new is =
    elim (conds_hold update.conds row) as (λ t. cond t (assign row update.sets row) (Some row) ≡ Some new → key_of new ≡ key_of row) [
      | true ↦ λ changed. assign_keeps_key row update.sets row new changed
      | false ↦ λ same. cc
    ] is

-- one row and the rows after it, where both have changed
pub updated_parts : (update : Update) (row : List Value) (rows new : List (List Value)) → updated update (row ∷ rows) ≡ Some new → (first : List Value) × (others : List (List Value)) × (updated_row update row ≡ Some first) × (updated update rows ≡ Some others) × (new ≡ first ∷ others)
updated_parts update row rows new is =
    elim (updated_row update row) as (λ o. option_and_then (λ one. option_map (λ others. one ∷ others) (updated update rows)) o ≡ Some new → (first : List Value) × (others : List (List Value)) × (o ≡ Some first) × (updated update rows ≡ Some others) × (new ≡ first ∷ others)) [
      | None ↦ λ none. cc
      | Some one ↦ elim (updated update rows) as (λ p. option_map (λ others. one ∷ others) p ≡ Some new → (first : List Value) × (others : List (List Value)) × (Some one ≡ Some first) × (p ≡ Some others) × (new ≡ first ∷ others)) [
        | None ↦ λ none. cc
        | Some rest ↦ λ both. (one, rest, refl, refl, cc)
      ]
    ] is

-- an UPDATE keeps the keys
pub updated_keeps_keys : (update : Update) (rows new : List (List Value)) → updated update rows ≡ Some new → map key_of new ≡ map key_of rows
updated_keeps_keys update [] new is = let none : new ≡ [] = cc in ap (map key_of) none
updated_keeps_keys update (row ∷ rows) new is =
    let parts = updated_parts update row rows new is in
    let one = updated_row_keeps_key update row parts.0 parts.2 in
    let rest = updated_keeps_keys update rows parts.1 parts.3 in
    ap (map key_of) parts.4 ∙ cc

below_same_keys : (key : ℤ) (rows new : List (List Value)) → map key_of new ≡ map key_of rows → AllByRecursion (λ later. key <ℤ key_of later) rows → AllByRecursion (λ later. key <ℤ key_of later) new
below_same_keys key [] [] same below = tt
below_same_keys key [] (first ∷ new) same below = cc
below_same_keys key (row ∷ rows) [] same below = cc
below_same_keys key (row ∷ rows) (first ∷ new) same below =
    let one : key_of row ≡ key_of first = cc in
    let P : ℤ → Type 0 = λ k. key <ℤ k in
    (subst P one below.0, below_same_keys key rows new (cc) below.1)

-- rows with the same keys in the same order ascend too
pub Ascends-same_keys : (rows new : List (List Value)) → map key_of new ≡ map key_of rows → Ascends rows → Ascends new
Ascends-same_keys [] [] same order = tt
Ascends-same_keys [] (first ∷ new) same order = cc
Ascends-same_keys (row ∷ rows) [] same order = cc
Ascends-same_keys (row ∷ rows) (first ∷ new) same order =
    let one : key_of row ≡ key_of first = cc in
    let P : ℤ → Type 0 = λ k. AllByRecursion (λ later. k <ℤ key_of later) new in
    (subst P one (below_same_keys (key_of row) rows new (cc) order.0), Ascends-same_keys rows new (cc) order.1)

-- changed rows ascend
pub Ascends-updated : (update : Update) (rows new : List (List Value)) → updated update rows ≡ Some new → Ascends rows → Ascends new
Ascends-updated update rows new is order = Ascends-same_keys rows new (updated_keeps_keys update rows new is) order

fits_from_test : (n : ℤ) → fits_i64 n ≡ true → FitsSigned w64 n
fits_from_test (pos n) test = record { sfits = ltb-true n (2 ^ 63) test }
fits_from_test (negsuc n) test = record { sfits = ltb-true n (2 ^ 63) test }

-- a sum is an integer of 64 bits
sum_fits : (o : Option Value) (number : ℤ) (value : Value) → sum_of o number ≡ Some value → (kind_of value ≡ kinds.Int) × Fits value
unfolding sum_of
sum_fits None number value is = cc
sum_fits (Some (Text bytes)) number value is = cc
sum_fits (Some (Int n)) number value is =
    elim (fits_i64 (n +ℤ number)) as (λ t. fits_i64 (n +ℤ number) ≡ t → cond t (Some (Int (n +ℤ number))) None ≡ Some value → (kind_of value ≡ kinds.Int) × Fits value) [
      | true ↦ λ test some.
          let P : Value → Type 0 = λ v. (kind_of v ≡ kinds.Int) × Fits v in
          let same : Int (n +ℤ number) ≡ value = cc in
          subst P same (refl, fits_from_test (n +ℤ number) test)
      | false ↦ λ test none. cc
    ] refl is

right_side_fits : (columns : List Kind) (kind : Kind) (before : List Value) (right : Assigned) (value : Value) → IsAssignable columns kind right → right_side before right ≡ Some value → (kind_of value ≡ kind) × Fits value
right_side_fits columns kind before (assigned.Constant constant) value is some =
    let P : Value → Type 0 = λ v. (kind_of v ≡ kind) × Fits v in
    let same : constant ≡ value = cc in
    subst P same is
right_side_fits columns kind before (assigned.Sum col number) value is some =
    let fits = sum_fits (slice_get before col) number value some in
    (fits.0 ∙ sym is.0, fits.1)

set_fits : (columns : List Kind) (kind : Kind) (row : List Value) (col : ℕ) (value : Value) → FitsKinds columns row → slice_get columns col ≡ Some kind → kind_of value ≡ kind → Fits value → FitsKinds columns (set row col value)
set_fits [] kind row col value fit there same fits = cc
set_fits (first ∷ columns) kind [] col value fit there same fits = absurd fit
set_fits (first ∷ columns) kind (old ∷ row) zero value fit there same fits =
    let is : kind_of value ≡ first = cc in (is, fits, fit.2)
set_fits (first ∷ columns) kind (old ∷ row) (suc col) value fit there same fits =
    (fit.0, fit.1, set_fits columns kind row col value fit.2 there same fits)

put_fits : (columns : List Kind) (kind : Kind) (row : List Value) (col : ℕ) (value : Value) → FitsKinds columns row → slice_get columns col ≡ Some kind → kind_of value ≡ kind → Fits value → FitsKinds columns (put_value row col value)
put_fits columns kind row zero value fit there same fits = fit
put_fits columns kind row (suc col) value fit there same fits =
    let P : List Value → Type 0 = FitsKinds columns in
    subst P (sym (put_behind_key row col value)) (set_fits columns kind row (suc col) value fit there same fits)

assign_fits : (columns : List Kind) (before : List Value) (sets : List Assignment) (row new : List Value) → AllByRecursion (IsAssignmentOf columns) sets → FitsKinds columns row → assign before sets row ≡ Some new → FitsKinds columns new
assign_fits columns before [] row new are fit is =
    let P : List Value → Type 0 = FitsKinds columns in
    let same : row ≡ new = cc in
    subst P same fit
assign_fits columns before (first ∷ sets) row new are fit is =
    elim (right_side before first.value) as (λ o. right_side before first.value ≡ o → option_and_then (λ value. assign before sets (put_value row first.col value)) o ≡ Some new → FitsKinds columns new) [
      | None ↦ λ right none. cc
      | Some value ↦ λ right some.
          let fits = right_side_fits columns are.0.kind before first.value value are.0.value right in
          assign_fits columns before sets (put_value row first.col value) new are.1 (put_fits columns are.0.kind row first.col value fit are.0.column fits.0 fits.1) some
    ] refl is

updated_row_fits : (columns : List Kind) (update : Update) (row new : List Value) → AllByRecursion (IsAssignmentOf columns) update.sets → FitsKinds columns row → updated_row update row ≡ Some new → FitsKinds columns new
updated_row_fits columns update row new are fit is =
    elim (conds_hold update.conds row) as (λ t. cond t (assign row update.sets row) (Some row) ≡ Some new → FitsKinds columns new) [
      | true ↦ λ changed. assign_fits columns row update.sets row new are fit changed
      | false ↦ λ same. let P : List Value → Type 0 = FitsKinds columns in let one : row ≡ new = cc in subst P one fit
    ] is

-- changed rows still fit their columns
pub updated_fits : (columns : List Kind) (update : Update) (rows new : List (List Value)) → AllByRecursion (IsAssignmentOf columns) update.sets → AllByRecursion (FitsKinds columns) rows → updated update rows ≡ Some new → AllByRecursion (FitsKinds columns) new
updated_fits columns update [] new are fit is =
    let P : List (List Value) → Type 0 = AllByRecursion (FitsKinds columns) in
    let none : [] ≡ new = cc in
    subst P none tt
updated_fits columns update (row ∷ rows) new are fit is =
    let parts = updated_parts update row rows new is in
    let P : List (List Value) → Type 0 = AllByRecursion (FitsKinds columns) in
    subst P (sym parts.4) (updated_row_fits columns update row parts.0 are fit.0 parts.2, updated_fits columns update rows parts.1 are fit.1 parts.3)

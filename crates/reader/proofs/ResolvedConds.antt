-- Constants, conditions, rows and assignments as they are written mean themselves.
use Rattle.std.proofs.Common.{◌≡◌, ◌≢◌, ℕ, suc, ℤ, pos, negsuc, neg_ℤ, ◌<◌, ◌≤◌, ◌≤ℤ◌, ◌^◌, ◌-◌, ◌&&◌, true, false, not, List, [], ◌∷◌, Option, Some, option_map, length, map, nat_eq, nat_le, refl, ap, sym, arith, FitsSigned}
use Rattle.std.specs.Int.{w64}
use Rattle.std.specs.List.{AllByRecursion, slice_get}
use Rattle.std.proofs.lemmas.Bool.{le-leb, ne_eqb, and_from, or_from, not_from_false}
use Rattle.std.proofs.lemmas.Int.{ints}
use Rattle.std.proofs.lemmas.List.{length-map}
use Rattle.terms.specs.declared.cond.Cond.{Cond}
use Rattle.terms.specs.declared.value.Kind.{Kind}
use Rattle.terms.specs.declared.value.Kind.TheVariants as kinds
use Rattle.terms.specs.declared.value.Value.{Value}
use Rattle.terms.specs.declared.value.Value.TheVariants as values
use Rattle.terms.specs.Cond.{IsCondOf, FitsConstant}
use Rattle.terms.specs.Row.{FitsKinds}
use Rattle.terms.specs.Value.{Fits, kind_of}
use Rattle.meaning.specs.declared.schema.Column as schema
use Rattle.meaning.specs.declared.statement.Assigned.{Assigned}
use Rattle.meaning.specs.declared.statement.Assigned.TheVariants as assigned
use Rattle.meaning.specs.declared.statement.Assignment.{Assignment}
use Rattle.meaning.specs.Statement.{IsAssignable, IsAssignmentOf, AreApart}
use Rattle.reader.specs.declared.scope.Found.{Found}
use Rattle.reader.specs.Names.{all_of, value_of, compared_of, number_of, place_in, places_of, cond_of, conds_of, row_of, is_integer, settable, addend, assigned_of, assignment_of, is_set, are_apart, sets_of}
use Rattle.reader.specs.Printable.{AreDistinct}
use Rattle.reader.specs.Scope.{Scope, types, types_in, column_named, found_in}
use Rattle.reader.specs.Tree as tree
use Rattle.reader.specs.Written.{name_in, constant_as, condition_as, conditions_as, assigned_as, assignment_as}
use Rattle.reader.proofs.ResolvedColumns.{next_step, passed, not_passed, there_at, named_at, AreFound}

-- each item as it is written gives itself again
pub all_again : {A B : Type 0} (answer : A → Option B) (write : B → A) (P : B → Type 0) → ((y : B) → P y → answer (write y) ≡ Some y) → (ys : List B) → AllByRecursion P ys → all_of answer (map write ys) ≡ Some ys
all_again answer write P each [] all = refl
all_again answer write P each (y ∷ ys) all =
    next_step _ (answer (write y)) y (Some (y ∷ ys)) (each y all.0) (ap (option_map (λ rest. y ∷ rest)) (all_again answer write P each ys all.1))

-- ---- constants

-- an integer of 64 bits is within the bound of its sign
fits_above : (n : ℕ) → FitsSigned w64 (pos n) → n ≤ 2 ^ 63 - 1
fits_above n fits = omega (arith, ints)

fits_below : (n : ℕ) → FitsSigned w64 (negsuc n) → suc n ≤ 2 ^ 63
fits_below n fits = omega (arith, ints)

integer_again : (n : ℤ) → FitsSigned w64 n → value_of kinds.Int (constant_as (values.Int n)) ≡ Some (values.Int n)
integer_again (pos n) fits = passed (nat_le n (2 ^ 63 - 1)) _ _ _ (le-leb n (2 ^ 63 - 1) (fits_above n fits)) refl
integer_again (negsuc n) fits = passed (nat_le (suc n) (2 ^ 63)) _ _ _ (le-leb (suc n) (2 ^ 63) (fits_below n fits)) refl

-- a value of a type
pub value_again : (kind : Kind) (value : Value) → (kind_of value ≡ kind) × Fits value → value_of kind (constant_as value) ≡ Some value
value_again kinds.Int (values.Int n) fits = integer_again n fits.1
value_again kinds.Int (values.Text bytes) fits = absurd cc
value_again kinds.Text (values.Int n) fits = absurd cc
value_again kinds.Text (values.Text bytes) fits = refl

-- what a condition compares with
compared_again : (value : Value) → FitsConstant value → compared_of (kind_of value) (constant_as value) ≡ Some value
compared_again (values.Int (pos n)) fits = integer_again (pos n) fits
compared_again (values.Int (negsuc n)) fits = integer_again (negsuc n) fits
compared_again (values.Text bytes) fits = passed (nat_le (length bytes) 100) _ _ _ (le-leb (length bytes) 100 fits.short) refl

-- a row
pub row_again : (kinds : List Kind) (row : List Value) → FitsKinds kinds row → row_of kinds (map constant_as row) ≡ Some row
row_again [] [] fits = refl
row_again [] (value ∷ row) fits = absurd fits
row_again (kind ∷ kinds) [] fits = absurd fits
row_again (kind ∷ kinds) (value ∷ row) fits =
    next_step _ (value_of kind (constant_as value)) value (Some (value ∷ row)) (value_again kind value (fits.0, fits.1)) (ap (option_map (λ rest. value ∷ rest)) (row_again kinds row fits.2))

-- ---- places and conditions

place_again : (scope : Scope) (write : ℕ → tree.Column) → AreFound scope write → (place : ℕ) → place < length (types_in scope) → place_in scope (write place) ≡ Some place
place_again scope write are_found place within =
    let kind = there_at (types_in scope) place within in
    ap (option_map (λ (f : Found). f.place)) (are_found place kind.0 kind.1)

-- the listed places
pub places_again : (scope : Scope) (write : ℕ → tree.Column) → AreFound scope write → (places : List ℕ) → length places ≤ 32 → AllByRecursion (λ place. place < length (types_in scope)) places → places_of scope (tree.columns (map write places)) ≡ Some places
places_again scope write are_found places few all =
    passed (nat_le (length (map write places)) 32) _ _ _ (le-leb (length (map write places)) 32 (rw length-map few))
    (all_again (place_in scope) write (λ place. place < length (types_in scope)) (place_again scope write are_found) places all)

cond_again : (scope : Scope) (write : ℕ → tree.Column) → AreFound scope write → (cond : Cond) → IsCondOf (types_in scope) cond → cond_of scope (condition_as write cond) ≡ Some cond
cond_again scope write are_found cond fits =
    next_step _ (found_in scope (write cond.col)) (record { place = cond.col; kind = kind_of cond.value }) (Some cond) (are_found cond.col (kind_of cond.value) fits.column)
    (ap (option_map (λ (v : Value). record { col = cond.col; cmp = cond.cmp; value = v })) (compared_again cond.value fits.constant))

-- conditions
pub conds_again : (scope : Scope) (write : ℕ → tree.Column) → AreFound scope write → (conds : List Cond) → length conds ≤ 8 → AllByRecursion (IsCondOf (types_in scope)) conds → conds_of scope (conditions_as write conds) ≡ Some conds
conds_again scope write are_found conds few all =
    passed (nat_le (length (conditions_as write conds)) 8) _ _ _ (le-leb (length (conditions_as write conds)) 8 (rw length-map few))
    (all_again (cond_of scope) (condition_as write) (IsCondOf (types_in scope)) (cond_again scope write are_found) conds all)

-- ---- assignments

number_above : (n : ℕ) → pos n ≤ℤ pos 9223372036854775807 → n ≤ 2 ^ 63 - 1
number_above n small = omega (arith, ints)

number_below : (n : ℕ) → neg_ℤ (pos 9223372036854775807) ≤ℤ negsuc n → suc n ≤ 2 ^ 63 - 1
number_below n small = omega (arith, ints)

addend_again : (columns : List schema.Column) (kind : Kind) (col : ℕ) → AreDistinct (map (λ c. c.name) columns) → kind ≡ kinds.Int → slice_get (types columns) col ≡ Some kinds.Int → addend columns kind (name_in (map (λ c. c.name) columns) col) ≡ Some (record { place = col; kind = kinds.Int })
addend_again columns kind col distinct integer there =
    next_step _ (column_named columns (name_in (map (λ c. c.name) columns) col)) (record { place = col; kind = kinds.Int }) (Some (record { place = col; kind = kinds.Int })) (named_at columns col kinds.Int distinct there)
    (passed (is_integer kind && is_integer kinds.Int) _ _ _ (ap (λ k. is_integer k && true) integer) refl)

value_set_again : (columns : List schema.Column) (kind : Kind) (value : Assigned) → AreDistinct (map (λ c. c.name) columns) → IsAssignable (types columns) kind value → assigned_of columns kind (assigned_as (map (λ c. c.name) columns) value) ≡ Some value
value_set_again columns kind (assigned.Constant value) distinct fits = ap (option_map assigned.Constant) (value_again kind value (fits.0, fits.1))
value_set_again columns kind (assigned.Sum col (pos n)) distinct fits =
    next_step _ (addend columns kind (name_in (map (λ c. c.name) columns) col)) (record { place = col; kind = kinds.Int }) (Some (assigned.Sum col (pos n))) (addend_again columns kind col distinct fits.0 fits.1)
    (next_step _ (number_of false n) (pos n) (Some (assigned.Sum col (pos n))) (passed (nat_le n (2 ^ 63 - 1)) _ _ _ (le-leb n (2 ^ 63 - 1) (number_above n fits.3)) refl) refl)
value_set_again columns kind (assigned.Sum col (negsuc n)) distinct fits =
    next_step _ (addend columns kind (name_in (map (λ c. c.name) columns) col)) (record { place = col; kind = kinds.Int }) (Some (assigned.Sum col (negsuc n))) (addend_again columns kind col distinct fits.0 fits.1)
    (next_step _ (number_of true (suc n)) (negsuc n) (Some (assigned.Sum col (negsuc n))) (passed (nat_le (suc n) (2 ^ 63 - 1)) _ _ _ (le-leb (suc n) (2 ^ 63 - 1) (number_below n fits.2)) refl) refl)

assignment_again : (columns : List schema.Column) → AreDistinct (map (λ c. c.name) columns) → (set : Assignment) → IsAssignmentOf (types columns) set → assignment_of columns (assignment_as (map (λ c. c.name) columns) set) ≡ Some set
assignment_again columns distinct set fits =
    let found : Found = record { place = set.col; kind = fits.kind } in
    let settles : settable columns (name_in (map (λ c. c.name) columns) set.col) ≡ Some found =
    next_step _ (column_named columns (name_in (map (λ c. c.name) columns) set.col)) found (Some found) (named_at columns set.col fits.kind distinct fits.column)
    (not_passed (nat_eq set.col 0) _ _ _ (ne_eqb set.col 0 fits.not_key) refl) in
    next_step _ (settable columns (name_in (map (λ c. c.name) columns) set.col)) found (Some set) settles
    (next_step _ (assigned_of columns fits.kind (assigned_as (map (λ c. c.name) columns) set.value)) set.value (Some set) (value_set_again columns fits.kind set.value distinct fits.value) refl)

-- no two to one column
none_set : (column : ℕ) (sets : List Assignment) → AllByRecursion (λ other. column ≢ other.col) sets → is_set column sets ≡ false
none_set column [] all = refl
none_set column (set ∷ sets) all = or_from (nat_eq set.col column) (is_set column sets) (ne_eqb set.col column (λ same. all.0 (sym same))) (none_set column sets all.1)

apart_again : (sets : List Assignment) → AreApart sets → are_apart sets ≡ true
apart_again [] apart = refl
apart_again (set ∷ sets) apart = and_from (not (is_set set.col sets)) (are_apart sets) (not_from_false (is_set set.col sets) (none_set set.col sets apart.0)) (apart_again sets apart.1)

-- assignments
pub sets_again : (columns : List schema.Column) → AreDistinct (map (λ c. c.name) columns) → (sets : List Assignment) → AreApart sets → AllByRecursion (IsAssignmentOf (types columns)) sets → sets_of columns (map (assignment_as (map (λ c. c.name) columns)) sets) ≡ Some sets
sets_again columns distinct sets apart all =
    next_step _ (all_of (assignment_of columns) (map (assignment_as (map (λ c. c.name) columns)) sets)) sets (Some sets)
    (all_again (assignment_of columns) (assignment_as (map (λ c. c.name) columns)) (IsAssignmentOf (types columns)) (assignment_again columns distinct) sets all)
    (passed (are_apart sets) _ _ _ (apart_again sets apart) refl)

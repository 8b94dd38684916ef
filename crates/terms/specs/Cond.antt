-- Conditions: when one holds of a row, and which ones fit the columns.
use Rattle.std.specs.Prelude.{Bool, false, not, List, Option, Some, None, ◌≡◌, FitsSigned}
use Rattle.std.specs.List.{list_all, slice_get}
use Rattle.std.specs.Int.{w64}
use Rattle.std.specs.Ordering.{nat_cmp, int_cmp, is_eq, is_lt, is_le, is_gt, is_ge}
use Rattle.std.specs.Cmp.Lexicographic.{slice_cmp}
use Rattle.std.specs.declared.cmp.Ordering.{Ordering}
use Rattle.terms.specs.declared.cond.Cmp.{Cmp}
use Rattle.terms.specs.declared.cond.Cmp.TheVariants.{Eq, Ne, Lt, Le, Gt, Ge}
use Rattle.terms.specs.declared.cond.Cond.{Cond}
use Rattle.terms.specs.declared.value.Kind.{Kind}
use Rattle.terms.specs.declared.value.Value.{Value}
use Rattle.terms.specs.declared.value.Value.TheVariants.{Int, Text}
use Rattle.terms.specs.Text.{IsTextUpTo}
use Rattle.terms.specs.Value.{kind_of}

-- which comparisons an order of two values meets
abbrev pub cmp_holds : Cmp → Ordering → Bool
cmp_holds Eq order = is_eq order
cmp_holds Ne order = not (is_eq order)
cmp_holds Lt order = is_lt order
cmp_holds Le order = is_le order
cmp_holds Gt order = is_gt order
cmp_holds Ge order = is_ge order

-- whether a comparison holds between two values; between an integer and a text none does
abbrev pub compares : Cmp → Value → Value → Bool
compares cmp (Int m) (Int n) = cmp_holds cmp (int_cmp m n)
compares cmp (Text s) (Text t) = cmp_holds cmp (slice_cmp nat_cmp s t)
compares cmp (Int m) (Text t) = false
compares cmp (Text s) (Int n) = false

-- whether a condition holds of what a row has in its column; on a column that the row lacks none does
abbrev pub holds_of : Cond → Option Value → Bool
holds_of cond None = false
holds_of cond (Some value) = compares cond.cmp value cond.value

abbrev pub cond_holds : Cond → List Value → Bool
cond_holds cond row = holds_of cond (slice_get row cond.col)

-- whether all conditions hold of a row
abbrev pub conds_hold : List Cond → List Value → Bool
conds_hold conds row = list_all (λ cond. cond_holds cond row) conds

-- what a condition compares with: an integer of 64 bits, or a text of at most 100 bytes
abbrev pub FitsConstant : Value → Type 0
FitsConstant (Int n) = FitsSigned w64 n
FitsConstant (Text bytes) = IsTextUpTo 100 bytes

-- a condition fits columns of these types: its column is among them, and its constant is of the column's type
pub record IsCondOf (kinds : List Kind) (cond : Cond) : Type 0 where
  pub column : slice_get kinds cond.col ≡ Some (kind_of cond.value)
  pub constant : FitsConstant cond.value

-- What the values of a row are, column by column.
use Rattle.std.proofs.Common.{◌≡◌, ℕ, ◌<◌, List, length, take, get_or, Result, Ok, Err, ap, sym, subst, ◌∙◌}
use Rattle.std.specs.Result.{IsErrAnd}
use Rattle.terms.specs.declared.value.Value.{Value}
use Rattle.meaning.specs.declared.schema.Column.{Column}
use Rattle.exchange.specs.declared.row.RowFault.{RowFault}
use Rattle.exchange.specs.declared.row.RowFault.TheVariants.{Count, Field, Memory}
use Rattle.exchange.specs.Each.{each_from}
use Rattle.exchange.specs.Field.{value_of}
use Rattle.exchange.specs.Row.{IsAnswer, column_value, field_of, in_column}
use Rattle.exchange.proofs.Eaches.{each_refused}

-- the value of a column, as its field was looked up
pub column_is : (columns : List Column) (order : List ℕ) (fields : List (List ℕ)) (number : ℕ) (column : Column) (field : List ℕ) → column ≡ get_or columns number column → field ≡ field_of order fields number
    → in_column number (value_of column.kind field) ≡ column_value order fields number (get_or columns number column)
column_is columns order fields number column field same is =
    ap (λ (found : Column). in_column number (value_of found.kind field)) same ∙ ap (λ found. in_column number (value_of (get_or columns number column).kind found)) is

-- a column that is refused
pub values_refused : {X : Type 0} (view : X → List Value) (answer : ℕ → Column → Result Value RowFault) (columns : List Column) (number : ℕ) (column : Column) (before : List Value) (fault : RowFault) (meant : Result Value RowFault)
    → number < length columns → each_from answer 0 (take number columns) ≡ Ok before → IsAnswer (λ (value : Value). value) (Err fault) meant → meant ≡ answer number (get_or columns number column) → IsAnswer view (Err fault) (each_from answer 0 columns)
values_refused view answer columns number column before Memory meant within so_far answered same = tt
values_refused view answer columns number column before (Count n) meant within so_far answered same = each_refused answer columns number column before (Count n) within so_far (sym same ∙ answered)
values_refused view answer columns number column before (Field n why) meant within so_far answered same = each_refused answer columns number column before (Field n why) within so_far (sym same ∙ answered)

-- a fault that is handed on
pub handed_on : {X Y : Type 0} (view : X → Y) (result : Result X RowFault) (fault : RowFault) (meant : Result Y RowFault) → IsErrAnd result (λ e. e ≡ fault) → IsAnswer view (Err fault) meant → IsAnswer view result meant
handed_on view (Ok x) fault meant same is = absurd same
handed_on view (Err e) fault meant same is = subst (λ f. IsAnswer view (Err f) meant) (sym same) is

-- What an UPDATE makes of rows.
use Rattle.std.specs.Prelude.{◌==◌, ℕ, ℤ, pos, negsuc, ◌+ℤ◌, ◌^◌, nat_lt, Bool, List, [], ◌∷◌, Option, Some, None, if◌then◌else◌, slice_set}
use Rattle.std.specs.List.{slice_get}
use Rattle.std.specs.Option.{option_map, option_and_then}
use Rattle.terms.specs.declared.value.Value.{Value}
use Rattle.terms.specs.declared.value.Value.TheVariants.{Int, Text}
use Rattle.terms.specs.Cond.{conds_hold}
use Rattle.meaning.specs.declared.statement.Assigned.{Assigned}
use Rattle.meaning.specs.declared.statement.Assigned.TheVariants as assigned
use Rattle.meaning.specs.declared.statement.Assignment.{Assignment}
use Rattle.meaning.specs.declared.statement.Update.{Update}

-- whether an integer fits 64 bits
abbrev pub fits_i64 : ℤ → Bool
fits_i64 (pos n) = nat_lt n (2 ^ 63)
fits_i64 (negsuc n) = nat_lt n (2 ^ 63)

-- a value plus a number; none where the sum leaves 64 bits, and none for a text or where there is no value
unfoldable pub sum_of : Option Value → ℤ → Option Value
sum_of None number = None
sum_of (Some (Text bytes)) number = None
sum_of (Some (Int n)) number = if fits_i64 (n +ℤ number) then Some (Int (n +ℤ number)) else None

-- what an assignment sets its column to, by the row before the change
abbrev pub right_side : List Value → Assigned → Option Value
right_side before (assigned.Constant value) = Some value
right_side before (assigned.Sum col number) = sum_of (slice_get before col) number

-- a row with a value put in a column; the key stays as it is, and so does a row that lacks the column
abbrev pub put_value : List Value → ℕ → Value → List Value
put_value row col value = if col == 0 then row else slice_set row col value

-- the assignments put in a row one after another; none where a right side gives none
abbrev pub assign : List Value → List Assignment → List Value → Option (List Value)
assign before [] row = Some row
assign before (set ∷ sets) row = option_and_then (λ value. assign before sets (put_value row set.col value)) (right_side before set.value)

-- a row after an UPDATE: changed where it meets all conditions
abbrev pub updated_row : Update → List Value → Option (List Value)
updated_row update row = if conds_hold update.conds row then assign row update.sets row else Some row

-- the rows after an UPDATE; none where one of them has none
abbrev pub updated : Update → List (List Value) → Option (List (List Value))
updated update [] = Some []
updated update (row ∷ rows) = option_and_then (λ first. option_map (λ others. first ∷ others) (updated update rows)) (updated_row update row)

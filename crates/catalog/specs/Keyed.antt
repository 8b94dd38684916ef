-- Rows by their keys.
use Rattle.std.specs.Prelude.{ℤ, List, Option, find}
use Rattle.std.specs.Ordering.{int_eq}
use Rattle.terms.specs.declared.value.Value.{Value}
use Rattle.terms.specs.Row.{key_of}

-- the first row of this key, if there is one
abbrev pub row_at : ℤ → List (List Value) → Option (List Value)
row_at key rows = find (λ row. int_eq (key_of row) key) rows

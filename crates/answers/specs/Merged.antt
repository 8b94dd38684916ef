-- Rows of two lists, by their keys.
use Rattle.std.specs.Prelude.{List, [], ◌∷◌, ◌++◌, filter, int_lt}
use Rattle.terms.specs.declared.value.Value.{Value}
use Rattle.terms.specs.Row.{key_of}

-- the rows with keys below a row's, and above it
abbrev pub rows_below : List Value → List (List Value) → List (List Value)
rows_below row rows = filter (λ other. int_lt (key_of other) (key_of row)) rows

abbrev pub rows_above : List Value → List (List Value) → List (List Value)
rows_above row rows = filter (λ other. int_lt (key_of row) (key_of other)) rows

-- the rows of both in ascending order of their keys; of two with one key the first
abbrev pub merged_rows : List (List Value) → List (List Value) → List (List Value)
merged_rows [] others = others
merged_rows (row ∷ rows) others = rows_below row others ++ row ∷ merged_rows rows (rows_above row others)

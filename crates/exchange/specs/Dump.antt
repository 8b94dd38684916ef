-- The transactions that bring rows.
use Rattle.std.specs.Prelude.{ℕ, ◌+◌, ◌%◌, ◌==◌, if◌then◌else◌, List, [], ◌∷◌, ◌++◌, codes, length}
use Rattle.terms.specs.declared.value.Value.{Value}
use Rattle.reader.specs.PrintStatement.{statement_bytes}
use Rattle.exchange.specs.Insert.{insert_of}

-- a line of a text
abbrev pub line : List ℕ → List ℕ
line text = text ++ 10 ∷ []

-- what stands before a row: where 1,000 others or none do, the end of the transaction that they are in, and the begin of the next
abbrev pub lines_before : ℕ → List ℕ
lines_before number = if number % 1000 == 0 then (if number == 0 then [] else line (codes "COMMIT")) ++ line (codes "BEGIN") else []

-- the rows as statements, counted on from a number
abbrev pub rows_from : List ℕ → ℕ → List (List Value) → List ℕ
rows_from name number [] = []
rows_from name number (row ∷ rows) = lines_before number ++ line (statement_bytes (insert_of name row)) ++ rows_from name (number + 1) rows

-- transactions that bring the rows, 1,000 INSERTs in each but the last; no row, no text
abbrev pub dump_bytes : List ℕ → List (List Value) → List ℕ
dump_bytes name rows = rows_from name 0 rows ++ (if length rows == 0 then [] else line (codes "COMMIT"))

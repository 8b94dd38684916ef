-- How answers are printed.
use Rattle.std.specs.Prelude.{ℕ, List, [], ◌∷◌, ◌++◌, length, map, codes, ◌==◌, if◌then◌else◌}
use Rattle.std.specs.Fmt.{decimal, signed_decimal}
use Rattle.std.specs.List.{flat_map}
use Rattle.terms.specs.declared.value.Value.{Value}
use Rattle.terms.specs.declared.value.Value.TheVariants.{Int, Text}
use Rattle.meaning.specs.declared.answer.Answer.{Answer}
use Rattle.meaning.specs.declared.answer.Answer.TheVariants.{Rows, Changed, Exists, Overflow}
use Rattle.reader.specs.PrintStatement.{separated_bytes}

-- a value in a row: an integer in decimal, a text as it is
abbrev pub value_text : Value → List ℕ
value_text (Int n) = signed_decimal n
value_text (Text bytes) = bytes

-- fields, parted by one tab
abbrev pub fields_text : List (List ℕ) → List ℕ
fields_text fields = separated_bytes (λ field. field) (9 ∷ []) fields

abbrev pub row_text : List Value → List ℕ
row_text row = fields_text (map value_text row)

-- how many rows there are
abbrev pub count_text : ℕ → List ℕ
count_text count = if count == 1 then codes "1 row" else decimal count ++ codes " rows"

-- an answer: for rows a line with the columns' names, a line for each row, and their number
abbrev pub answer_text : Answer → List ℕ
answer_text (Rows header rows) = fields_text header ++ flat_map (λ row. 10 ∷ row_text row) rows ++ 10 ∷ count_text (length rows)
answer_text (Changed count) = codes "changed " ++ decimal count
answer_text Exists = codes "exists"
answer_text Overflow = codes "overflow"

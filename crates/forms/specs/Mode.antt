-- How answers are shown.
use Rattle.std.specs.Prelude.{ℕ, List, [], ◌∷◌, ◌++◌}
use Rattle.meaning.specs.declared.answer.Answer.{Answer}
use Rattle.meaning.specs.declared.answer.Answer.TheVariants.{Rows}
use Rattle.reader.specs.PrintAnswer.{answer_text}
use Rattle.forms.specs.declared.mode.Mode.{Mode}
use Rattle.forms.specs.declared.mode.Mode.TheVariants.{Tabs, Columns, Csv, Json}
use Rattle.forms.specs.Columns.{columns}
use Rattle.forms.specs.Csv.{csv, csv_line}
use Rattle.forms.specs.Json.{json, json_line}

-- a line that is no row of a table
abbrev pub line_in : Mode → List ℕ → List ℕ
line_in Tabs text = text ++ 10 ∷ []
line_in Columns text = text ++ 10 ∷ []
line_in Csv text = csv_line text
line_in Json text = json_line text

-- an answer: rows under the names of their columns, and any other as a line
abbrev pub answer_in : Mode → Answer → List ℕ
answer_in Tabs answer = answer_text answer ++ 10 ∷ []
answer_in Columns (Rows header rows) = columns header rows
answer_in Columns other = answer_text other ++ 10 ∷ []
answer_in Csv (Rows header rows) = csv header rows
answer_in Csv other = csv_line (answer_text other)
answer_in Json (Rows header rows) = json header rows
answer_in Json other = json_line (answer_text other)

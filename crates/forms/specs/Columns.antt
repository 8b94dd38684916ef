-- Rows in columns, aligned by the places of a line that texts take in a terminal.
use Rattle.std.specs.Prelude.{ℕ, ◌+◌, ◌-◌, false, List, [], ◌∷◌, ◌++◌, chars, if◌then◌else◌, is_some, max, Option, Some, None, replicate, slice_get}
use Rattle.std.specs.Char.{encode_utf8}
use Rattle.std.specs.Fmt.{signed_decimal}
use Rattle.std.specs.List.{flat_map, fold, zip}
use Rattle.std.specs.Str.{trim_end}
use Rattle.terms.specs.declared.value.Value.{Value}
use Rattle.terms.specs.declared.value.Value.TheVariants.{Int, Text}
use Rattle.unicode_width.specs.Width.{char_width, str_width}

-- how many places of a line a text takes
abbrev pub width_of : List ℕ → ℕ
width_of text = str_width false (chars text)

-- a character as it is shown: a space for one that has no width, as a tab
abbrev pub shown_character : ℕ → List ℕ
shown_character character = if is_some (char_width false character) then encode_utf8 character else 32 ∷ []

abbrev pub shown_text : List ℕ → List ℕ
shown_text text = flat_map shown_character (chars text)

-- a value: an integer in decimal, a text as it is shown
abbrev pub field : Value → List ℕ
field (Int number) = signed_decimal number
field (Text text) = shown_text text

-- how many places a value takes, none where a row has no value at a place
abbrev pub field_width : Option Value → ℕ
field_width None = 0
field_width (Some value) = width_of (field value)

-- the width of the column at a place: that of its name or of its widest value, whichever is wider
abbrev pub column_width : List (List Value) → ℕ → List ℕ → ℕ
column_width rows place name = fold (λ width row. max width (field_width (slice_get row place))) (width_of name) rows

-- the widths of the columns of these names, the first of which is at this place
abbrev pub widths_from : List (List Value) → ℕ → List (List ℕ) → List ℕ
widths_from rows place [] = []
widths_from rows place (name ∷ names) = column_width rows place name ∷ widths_from rows (place + 1) names

-- spaces that fill a column of this width beside a text
abbrev pub filling : ℕ → List ℕ → List ℕ
filling width text = replicate (width - width_of text) 32

-- two spaces stand behind a column
abbrev pub gap : List ℕ
gap = 32 ∷ 32 ∷ []

-- a text at the left of a column, and at its right
abbrev pub at_left : ℕ → List ℕ → List ℕ
at_left width text = text ++ filling width text ++ gap

abbrev pub at_right : ℕ → List ℕ → List ℕ
at_right width text = filling width text ++ text ++ gap

-- an integer stands at the right of its column, a text at the left
abbrev pub aligned : ℕ → Value → List ℕ
aligned width (Int number) = at_right width (field (Int number))
aligned width (Text text) = at_left width (field (Text text))

-- a line has no blanks at its end
abbrev pub line_of : List ℕ → List ℕ
line_of text = trim_end text ++ 10 ∷ []

-- the names of columns in a line, a rule of hyphens below it, and a line for each row
abbrev pub names_line : List ℕ → List (List ℕ) → List ℕ
names_line widths names = line_of (flat_map (λ p. at_left p.0 p.1) (zip widths names))

abbrev pub rule_line : List ℕ → List ℕ
rule_line widths = line_of (flat_map (λ width. replicate width 45 ++ gap) widths)

abbrev pub row_line : List ℕ → List Value → List ℕ
row_line widths values = line_of (flat_map (λ p. aligned p.0 p.1) (zip widths values))

abbrev pub table : List ℕ → List (List ℕ) → List (List Value) → List ℕ
table widths names rows = names_line widths names ++ rule_line widths ++ flat_map (row_line widths) rows

abbrev pub columns : List (List ℕ) → List (List Value) → List ℕ
columns names rows = table (widths_from rows 0 names) names rows

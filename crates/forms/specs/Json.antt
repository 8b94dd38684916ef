-- Rows as JSON, an object in each line.
use Rattle.std.specs.Prelude.{ℕ, List, [], ◌∷◌, ◌++◌, ◌==◌, ◌/◌, ◌%◌, if◌then◌else◌, false, chars, codes, nat_lt}
use Rattle.std.specs.Char.{encode_utf8}
use Rattle.std.specs.Fmt.{digit_glyph, signed_decimal}
use Rattle.std.specs.List.{flat_map, zip}
use Rattle.terms.specs.declared.value.Value.{Value}
use Rattle.terms.specs.declared.value.Value.TheVariants.{Int, Text}
use Rattle.forms.specs.Separated.{separated}

-- a control character: its code in four hexadecimal digits
abbrev pub control_code : ℕ → List ℕ
control_code character = codes "\\u00" ++ digit_glyph false (character / 16) ∷ digit_glyph false (character % 16) ∷ []

-- a character of a text: a quote and a backslash stand behind a backslash, a control character as its code, any other as it is
abbrev pub json_character : ℕ → List ℕ
json_character character =
    if character == 34 then 92 ∷ 34 ∷ [] else (if character == 92 then 92 ∷ 92 ∷ [] else (if nat_lt character 32 then control_code character else encode_utf8 character))

-- a text in quotes
abbrev pub json_text : List ℕ → List ℕ
json_text text = 34 ∷ flat_map json_character (chars text) ++ 34 ∷ []

abbrev pub json_value : Value → List ℕ
json_value (Int number) = signed_decimal number
json_value (Text text) = json_text text

-- a value under the name of its column
abbrev pub json_member : List ℕ × Value → List ℕ
json_member member = json_text member.0 ++ 58 ∷ json_value member.1

-- an object of the values of a row, in the order of its columns, in a line
abbrev pub json_row : List (List ℕ) → List Value → List ℕ
json_row header values = 123 ∷ separated json_member 44 (zip header values) ++ 125 ∷ 10 ∷ []

abbrev pub json : List (List ℕ) → List (List Value) → List ℕ
json header rows = flat_map (json_row header) rows

-- a line that is no row, under a name that no column has, as a column's begins with a small letter
abbrev pub json_line : List ℕ → List ℕ
json_line text = codes "{\"Told\":" ++ json_text text ++ 125 ∷ 10 ∷ []

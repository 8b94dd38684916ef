-- Rows as comma-separated values: in the form of RFC 4180, with a line feed at the end of each line.
use Rattle.std.specs.Prelude.{ℕ, Bool, List, [], ◌∷◌, ◌++◌, ◌==◌, ◌||◌, if◌then◌else◌, chars, length}
use Rattle.std.specs.Char.{encode_utf8}
use Rattle.std.specs.Fmt.{signed_decimal}
use Rattle.std.specs.List.{flat_map, list_any}
use Rattle.terms.specs.declared.value.Value.{Value}
use Rattle.terms.specs.declared.value.Value.TheVariants.{Int, Text}
use Rattle.forms.specs.Separated.{separated}

-- a byte that a field has only in quotes: a comma, a quote, a carriage return or a line feed
abbrev pub is_special : ℕ → Bool
is_special byte = byte == 44 || byte == 34 || byte == 13 || byte == 10

-- a character in quotes: a quote is doubled
abbrev pub doubled : ℕ → List ℕ
doubled character = if character == 34 then 34 ∷ 34 ∷ [] else encode_utf8 character

-- a text that is empty or has such a byte stands in quotes, any other as it is
abbrev pub csv_text : List ℕ → List ℕ
csv_text text = if length text == 0 || list_any is_special text then 34 ∷ flat_map doubled (chars text) ++ 34 ∷ [] else text

abbrev pub csv_value : Value → List ℕ
csv_value (Int number) = signed_decimal number
csv_value (Text text) = csv_text text

-- the names of the columns in a line, and a line for each row; the fields are parted by commas
abbrev pub csv_header : List (List ℕ) → List ℕ
csv_header names = separated csv_text 44 names ++ 10 ∷ []

abbrev pub csv_row : List Value → List ℕ
csv_row values = separated csv_value 44 values ++ 10 ∷ []

abbrev pub csv : List (List ℕ) → List (List Value) → List ℕ
csv header rows = csv_header header ++ flat_map csv_row rows

-- a line that is no row, as the one field of a line
abbrev pub csv_line : List ℕ → List ℕ
csv_line text = csv_text text ++ 10 ∷ []

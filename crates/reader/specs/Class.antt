-- Classes of bytes.
use Rattle.std.specs.Prelude.{◌≡◌, ℕ, Bool, true, ◌||◌, ◌==◌, List}
use Rattle.std.specs.Char.{is_ascii_digit, is_ascii_alphabetic, is_ascii_alphanumeric}
use Rattle.std.specs.List.{AllByRecursion}
use Rattle.std.specs.Str.{byte}
use Rattle.reader.specs.declared.class.Class.{Class}
use Rattle.reader.specs.declared.class.Class.TheVariants.{Blank, Letter, WordByte, Digit}

-- whether a byte is of the class; a blank is a space, a tab, a line feed or a carriage return
abbrev pub is_in : Class → ℕ → Bool
is_in Blank b = ((b == 32 || b == 9) || b == 10) || b == 13
is_in Letter b = is_ascii_alphabetic b
is_in WordByte b = is_ascii_alphanumeric b || b == byte "_"
is_in Digit b = is_ascii_digit b

-- each of the bytes is of the class
abbrev pub AreAll : Class → List ℕ → Type 0
AreAll class bytes = AllByRecursion (λ b. is_in class b ≡ true) bytes

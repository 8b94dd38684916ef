-- Texts: their bytes and characters.
use Rattle.std.specs.Prelude.{ℕ, ◌≤◌, ◌≢◌, List, length, All}
use Rattle.std.specs.Str.{chars, IsUtf8}

-- a character that is no control character
abbrev pub IsPrintable : ℕ → Type 0
IsPrintable char = (32 ≤ char) × (char ≢ 127)

-- the bytes of a text of at most so many bytes, with no control character
pub record IsTextUpTo (limit : ℕ) (bytes : List ℕ) : Type 0 where
  pub short : length bytes ≤ limit
  pub utf8 : IsUtf8 bytes
  pub printable : All IsPrintable (chars bytes)

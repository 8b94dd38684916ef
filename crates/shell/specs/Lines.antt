-- The lines in which a fault is told.
use Rattle.std.specs.Prelude.{◌≡◌, ◌&&◌, true, ℕ, Bool, List, [], ◌∷◌, ◌++◌, length, min, nat_lt, replicate}
use Rattle.std.specs.List.{list_all}

-- a line of text, and one with a caret below a column of it
abbrev pub pointed : List ℕ → ℕ → List ℕ
pointed text column = text ++ 10 ∷ replicate column 32 ++ 94 ∷ 10 ∷ []

-- a printable character of ASCII, which is a byte and takes a column: from the space to the tilde
abbrev pub is_plain : ℕ → Bool
is_plain byte = nat_lt 31 byte && nat_lt byte 127

-- a text of such characters that a line holds
abbrev pub is_short : List ℕ → Bool
is_short text = nat_lt (length text) 73 && list_all is_plain text

-- a line of text, a caret below one of its columns, and a sentence; where the text is short, the line is the
-- text itself, and the caret stands below the offset, or behind the text if this is beyond it
pub record PointsAt (text : List ℕ) (offset : ℕ) (lines : List ℕ) : Type 0 where
  pub line : List ℕ
  pub column : ℕ
  pub sentence : List ℕ
  pub same : lines ≡ pointed line column ++ sentence ++ 10 ∷ []
  pub whole : is_short text ≡ true → line ≡ text
  pub below : is_short text ≡ true → column ≡ min offset (length text)

-- what ends with a line of text and a caret below one of its columns
pub record EndsPointed (lines : List ℕ) : Type 0 where
  pub front : List ℕ
  pub line : List ℕ
  pub column : ℕ
  pub same : lines ≡ front ++ pointed line column

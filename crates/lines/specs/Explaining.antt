-- What is written to explain why something was refused.
use Rattle.std.specs.Prelude.{◌≡◌, ◌⊎◌, ℕ, List, [], ◌∷◌, ◌++◌, Option, true, false, codes, is_some}
use Rattle.std.specs.Fmt.{decimal}
use Rattle.std.specs.Io.KnownBytes.{Appends, Keeps}
use Rattle.toml.specs.Parse.{parse_document}
use Rattle.catalog.specs.declared.fault.CatFault.{CatFault}
use Rattle.shell.specs.Lines.{EndsPointed, PointsAt}
use Rattle.shell.specs.Told.{Tells}
use Rattle.lines.specs.CatalogFile.{IsTextOf}

-- the line that names a line of a script by its number, counted from 1
abbrev pub line_front : ℕ → List ℕ
line_front number = codes "line " ++ decimal number ++ codes ":" ++ 10 ∷ []

-- from old to new are written a line's number, and three lines: its text, a caret below the place at this offset, and a sentence
pub record TellsLine (number : ℕ) (text : List ℕ) (offset : ℕ) (old new : Option (List ℕ)) : Type 0 where
  pub lines : List ℕ
  pub points : PointsAt text offset lines
  pub told : Appends old new (line_front number ++ lines)

-- so of a line for one of its places, or nothing is written
abbrev pub TellsOrKeeps : ℕ → List ℕ → Option (List ℕ) → Option (List ℕ) → Type 0
TellsOrKeeps number text old new = Keeps old new ⊎ ((offset : ℕ) × TellsLine number text offset old new)

-- from old to new are written three lines: a text, a caret below the place at this offset, and a sentence
pub record Explains (text : List ℕ) (offset : ℕ) (old new : Option (List ℕ)) : Type 0 where
  pub lines : List ℕ
  pub points : PointsAt text offset lines
  pub told : Appends old new lines

-- so of one of a text's places, or nothing is written
abbrev pub ExplainsOrKeeps : List ℕ → Option (List ℕ) → Option (List ℕ) → Type 0
ExplainsOrKeeps text old new = Keeps old new ⊎ ((offset : ℕ) × Explains text offset old new)

-- from old to new is written what is told of a catalogue's fault, where these bytes are few enough and a text: of a document
-- the fault itself, and of any other text a place in it
abbrev pub TellsCatalogue : List ℕ → CatFault → Option (List ℕ) → Option (List ℕ) → Type 0
TellsCatalogue bytes fault old new =
    (text : List ℕ) → IsTextOf bytes text → (lines : List ℕ) × Appends old new lines × (is_some (parse_document text) ≡ true → Tells fault lines) × (is_some (parse_document text) ≡ false → EndsPointed lines)

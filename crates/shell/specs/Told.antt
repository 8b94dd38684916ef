-- What is told of a catalogue's fault.
use Rattle.std.specs.Prelude.{◌≡◌, List, [], ◌∷◌, ◌++◌, ℕ, Option, Some, None, codes}
use Rattle.catalog.specs.declared.fault.Rule.{Rule}
use Rattle.catalog.specs.declared.fault.Rule.TheVariants.{Toml, Field, Name, Twice, NoSite, KeyType, ColumnTwice, ColumnLost, ColumnAbsent, WrongType, Gap, Overlap, Limit, Memory}
use Rattle.catalog.specs.Fault.{Fault, cell_text}

-- what a rule says
abbrev pub sentence : Rule → List ℕ
sentence Toml = codes "the text is no TOML"
sentence Field = codes "a key is missing, unknown, or has a value of another kind"
sentence Name = codes "a name has small letters, digits and _ behind a letter, is no keyword, and has at most 24 bytes"
sentence Twice = codes "a name stands twice"
sentence NoSite = codes "the catalogue has no such site"
sentence KeyType = codes "the first column is the key, and is an int"
sentence ColumnTwice = codes "a column is named twice in the groups of a split"
sentence ColumnLost = codes "a column is in no group of a split"
sentence ColumnAbsent = codes "there is no such column here"
sentence WrongType = codes "a constant is of another type than its column"
sentence (Gap cell) = codes "no branch takes the row " ++ cell_text cell
sentence (Overlap cell) = codes "more than one branch takes the row " ++ cell_text cell
sentence Limit = codes "something is larger than a catalogue may be"
sentence Memory = codes "memory ran out, which says nothing of the text"

-- the relation in which it is broken, if it is in one
abbrev pub relation_front : Option (List ℕ) → List ℕ
relation_front None = []
relation_front (Some relation) = relation ++ codes ": "

-- the relation and the rule's sentence on a line, and lines on the place
pub record Tells (fault : Fault) (lines : List ℕ) : Type 0 where
  pub more : List ℕ
  pub same : lines ≡ (relation_front fault.relation ++ sentence fault.rule) ++ 10 ∷ more

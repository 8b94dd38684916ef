-- What is told of a catalogue to a person who asks.
use Rattle.std.specs.Prelude.{ℕ, ◌==◌, ◌||◌, Bool, List, [], ◌∷◌, ◌++◌, if◌then◌else◌, bytes_eq, codes, flat_map, length}
use Rattle.std.specs.Fmt.{decimal}
use Rattle.catalog.specs.Catalogue.{Catalogue}
use Rattle.catalog.specs.FragmentLeaf.{schemas_of}
pub use Rattle.lines.specs.SchemaLine.{column_text, schema_line}

-- which of so many catalogues is in force, and the name of its file
abbrev pub catalog_text : (number count : ℕ) → List ℕ → List ℕ
catalog_text number count name = codes "catalogue " ++ decimal number ++ codes " of " ++ decimal count ++ codes ", " ++ name ++ 10 ∷ []

-- the name of each relation in a line
abbrev pub tables_text : Catalogue → List ℕ
tables_text catalogue = flat_map (λ relation. relation.name ++ 10 ∷ []) (schemas_of catalogue)

-- whether this is asked for: all is, where no name is given
abbrev pub is_asked : List ℕ → List ℕ → Bool
is_asked asked name = (length asked == 0) || bytes_eq name asked

-- a text where it is asked for
abbrev pub where_asked : Bool → List ℕ → List ℕ
where_asked asked text = if asked then text else []

-- the relations that are asked for, each in a line
abbrev pub schema_text : Catalogue → List ℕ → List ℕ
schema_text catalogue asked = flat_map (λ relation. where_asked (is_asked asked relation.name) (schema_line relation)) (schemas_of catalogue)

-- What the program shows of a catalogue as trees: each relation with its columns, and below it how it is split, down to the leaves.
use Rattle.std.specs.Prelude.{ℕ, List, [], ◌∷◌, ◌++◌, bytes_eq, if◌then◌else◌, codes, flat_map, map}
use Rattle.terms.specs.Leaf.{leaf_text}
use Rattle.meaning.specs.declared.schema.RelationSchema.{RelationSchema}
use Rattle.reader.specs.PrintStatement.{conds_bytes, separated_bytes}
use Rattle.reader.specs.Written.{name_in}
use Rattle.catalog.specs.declared.fragment_leaf.FragmentLeaf.{FragmentLeaf}
use Rattle.catalog.specs.declared.path.Step.{Step}
use Rattle.catalog.specs.declared.path.Step.TheVariants.{Row, Col}
use Rattle.catalog.specs.Catalogue.{Catalogue}
use Rattle.catalog.specs.FragmentLeaf.{leaves_in, relation_named, schemas_of}
use Rattle.lines.specs.Columns.{names_of_columns}
use Rattle.lines.specs.SchemaLine.{schema_line}
use Rattle.lines.specs.Level.{deeper, line}

abbrev pub names_text : List (List ℕ) → List ℕ → List ℕ
names_text names columns = separated_bytes (name_in names) (codes ", ") columns

-- a step on the way to a leaf, over columns of these names
abbrev pub step_text : List (List ℕ) → Step → List ℕ
step_text names (Row conds) = codes "where " ++ conds_bytes names conds
step_text names (Col group before after) = codes "columns " ++ names_text names group

-- a leaf: its name, its site and its columns; its conditions stand above it
abbrev pub leaf_tip : List (List ℕ) → List (List ℕ) → FragmentLeaf → List ℕ
leaf_tip sites names leaf = leaf_text leaf.name ++ 32 ∷ name_in sites leaf.site ++ codes " (" ++ names_text names leaf.columns ++ codes ")"

-- a way down to a tip, line by line, without what it shares with the way before
abbrev pub way_lines : List ℕ → List (List ℕ) → List (List ℕ) → List ℕ → List ℕ
way_lines front before [] tip = line front tip
way_lines front [] (step ∷ steps) tip = line front step ++ way_lines (deeper front) [] steps tip
way_lines front (old ∷ before) (step ∷ steps) tip =
    if bytes_eq step old then way_lines (deeper front) before steps tip else line front step ++ way_lines (deeper front) [] steps tip

-- the leaves of a relation whose columns have these names, each below its way; before: the way of the leaf before them
abbrev pub leaf_trees : List (List ℕ) → List (List ℕ) → List (List ℕ) → List FragmentLeaf → List ℕ
leaf_trees sites names before [] = []
leaf_trees sites names before (leaf ∷ leaves) =
    way_lines (codes "  ") before (map (step_text names) leaf.steps) (leaf_tip sites names leaf) ++ leaf_trees sites names (map (step_text names) leaf.steps) leaves

-- a relation with its tree
abbrev pub relation_tree : Catalogue → RelationSchema → List ℕ
relation_tree catalogue relation = schema_line relation ++ leaf_trees catalogue.sites (names_of_columns relation.columns) [] (leaves_in (relation_named relation.name catalogue.relations))

-- each relation of a catalogue with its tree
abbrev pub trees_text : Catalogue → List ℕ
trees_text catalogue = flat_map (relation_tree catalogue) (schemas_of catalogue)

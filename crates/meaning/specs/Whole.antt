-- Whole databases: a relation for each name.
use Rattle.std.specs.Prelude.{◌≡◌, ℕ, List, [], Some, IsSome, is_some, unwrap_or, if◌then◌else◌}
use Rattle.std.specs.Coded.{Coded, coded_list, coded_ℕ}
use Rattle.std.specs.Cmp.Lexicographic.{slice_cmp}
use Rattle.std.specs.FinMap as map
use Rattle.std.specs.Ordering.{nat_cmp}
use Rattle.terms.specs.declared.value.Value.{Value}
use Rattle.terms.specs.contracts.value.Value as value
use Rattle.meaning.specs.declared.schema.RelationSchema.{RelationSchema}
use Rattle.meaning.specs.Schema.{relation_named, kinds_of}
use Rattle.meaning.specs.Relation.{IsRelation}

-- a whole database: a relation for each name
abbrev pub Relations : Type 0
Relations = map.FinMap (slice_cmp nat_cmp) (List (List Value))

abbrev pub relations_code : Coded Relations
relations_code = map.code (coded_list coded_ℕ) (coded_list (coded_list (value.the_row).coded))

-- the whole database that entries make, the first where two have one name
abbrev pub of_entries : List (List ℕ × List (List Value)) → Relations
of_entries entries = map.from_entries entries

-- the rows of the relation of a name; where there is none, none
abbrev pub rows_of : Relations → List ℕ → List (List Value)
rows_of whole name = unwrap_or (map.get whole name) []

-- other rows under a name that has some already; a name that has none stays without
abbrev pub replaced : Relations → List ℕ → List (List Value) → Relations
replaced whole name rows = if is_some (map.get whole name) then map.insert whole name rows else whole

-- a whole database fits a schema: each relation of the schema is there, and fits its columns
pub record FitsSchema (schema : List RelationSchema) (whole : Relations) : Type 0 where
  pub there : (name : List ℕ) (relation : RelationSchema) → relation_named name schema ≡ Some relation → IsSome (map.get whole name)
  pub fit : (name : List ℕ) (relation : RelationSchema) → relation_named name schema ≡ Some relation → IsRelation (kinds_of relation) (rows_of whole name)

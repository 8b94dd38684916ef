-- The leaves that each site knows: those that relations can have, whatever a catalogue puts at the site.
use Rattle.std.specs.Prelude.{ℕ, List, flat_map, map}
use Rattle.terms.specs.declared.leaf.Leaf.{Leaf}
use Rattle.meaning.specs.declared.schema.RelationSchema.{RelationSchema}
use Rattle.answers.specs.Moves.{leaf_numbered, numbers}

-- the leaves that a relation of this name can have: those numbered 1 to 32
abbrev pub leaves_numbered : List ℕ → List Leaf
leaves_numbered relation = map (leaf_numbered relation) numbers

-- the leaves that these relations can have, relation by relation
abbrev pub known_leaves : List RelationSchema → List Leaf
known_leaves schemas = flat_map (λ schema. leaves_numbered schema.name) schemas

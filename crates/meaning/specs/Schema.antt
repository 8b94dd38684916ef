-- Schemas: relations by name, and their columns.
use Rattle.std.specs.Prelude.{ℕ, List, Option, map, find, nat_eq}
use Rattle.std.specs.Cmp.Lexicographic.{pointwise}
use Rattle.terms.specs.declared.value.Kind.{Kind}
use Rattle.meaning.specs.declared.schema.RelationSchema.{RelationSchema}

-- the relation of this name
abbrev pub relation_named : List ℕ → List RelationSchema → Option RelationSchema
relation_named name relations = find (λ relation. pointwise nat_eq relation.name name) relations

-- the types of a relation's columns
abbrev pub kinds_of : RelationSchema → List Kind
kinds_of relation = map (λ column. column.kind) relation.columns

-- the names of a relation's columns
abbrev pub names_of : RelationSchema → List (List ℕ)
names_of relation = map (λ column. column.name) relation.columns

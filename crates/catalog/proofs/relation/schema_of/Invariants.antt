use Rattle.std.proofs.Common.{◌≡◌, map, take}
use Rattle.catalog.specs.Relation.{relation_of}
use Rattle.catalog.proofs.relation.schema_of.Given as goal

abbrev pub invariant-loop-relation : goal.invariant-loop-relation
invariant-loop-relation l = l.schemas.items ≡ map (λ relation. relation.schema) (map relation_of (take l.relation-index l.relations))

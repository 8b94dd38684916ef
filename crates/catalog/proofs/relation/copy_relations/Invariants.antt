use Rattle.std.proofs.Common.{◌≡◌, map, take}
use Rattle.catalog.specs.Relation.{relation_of}
use Rattle.catalog.proofs.relation.copy_relations.Given as goal

abbrev pub invariant-loop-relation : goal.invariant-loop-relation
invariant-loop-relation l = map relation_of l.copies.items ≡ map relation_of (take l.relation-index l.relations)

use Rattle.std.proofs.Common.{◌≡◌, map, take}
use Rattle.commands.proofs.dump.names_of.Given as goal

abbrev pub invariant-loop-relation : goal.invariant-loop-relation
invariant-loop-relation l = l.names.items ≡ map (λ relation. relation.name) (take l.relation-index l.schema.relations)

use Rattle.std.proofs.Common.{◌≡◌, map, take}
use Rattle.catalog.specs.Relation.{relation_of}
use Rattle.lines.proofs.same_catalog.same_relations.Given as goal

-- so far they are the same
abbrev pub invariant-loop-place : goal.invariant-loop-place
invariant-loop-place l = map relation_of (take l.place l.relations) ≡ map relation_of (take l.place l.others)

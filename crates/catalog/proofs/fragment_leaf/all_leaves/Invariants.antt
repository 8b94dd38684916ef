use Rattle.std.proofs.Common.{◌≡◌, map, flat_map, take}
use Rattle.catalog.specs.FragmentLeaf.{leaves_of}
use Rattle.catalog.specs.Relation.{relation_of}
use Rattle.catalog.proofs.fragment_leaf.all_leaves.Given as goal

-- the leaves so far are those of the relations so far
abbrev pub invariant-loop-relation : goal.invariant-loop-relation
invariant-loop-relation l = l.leaves.items ≡ flat_map leaves_of (map relation_of (take l.relation-index l.relations))

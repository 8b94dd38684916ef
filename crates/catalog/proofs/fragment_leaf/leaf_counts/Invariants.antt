use Rattle.std.proofs.Common.{◌≡◌, map, take}
use Rattle.catalog.specs.FragmentLeaf.{leaf_counts}
use Rattle.catalog.specs.Relation.{relation_of}
use Rattle.catalog.proofs.fragment_leaf.leaf_counts.Given as goal

abbrev pub invariant-loop-relation : goal.invariant-loop-relation
invariant-loop-relation l = l.counts.items ≡ leaf_counts (map relation_of (take l.relation-index l.relations))

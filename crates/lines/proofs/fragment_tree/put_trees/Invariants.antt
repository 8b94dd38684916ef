use Rattle.std.proofs.Common.{◌≡◌, ◌++◌, string_bytes, take}
use Rattle.std.specs.List.{flat_map}
use Rattle.catalog.specs.Relation.{catalogue_of}
use Rattle.lines.specs.FragmentTree.{relation_tree}
use Rattle.lines.proofs.fragment_tree.put_trees.Given as goal

abbrev pub invariant-loop-relation : goal.invariant-loop-relation
invariant-loop-relation l =
    string_bytes l.out ≡ string_bytes l.initial.out ++ flat_map (relation_tree (catalogue_of l.catalog)) (take l.relation-index l.relation-items)

use Rattle.std.proofs.Common.{◌≡◌, ◌++◌, string_bytes, take}
use Rattle.std.specs.List.{flat_map}
use Rattle.catalog.specs.FragmentLeaf.{schemas_of}
use Rattle.catalog.specs.Relation.{catalogue_of}
use Rattle.lines.specs.Check.{leaf_line}
use Rattle.lines.proofs.check.put_leaves.Given as goal

abbrev pub invariant-loop-leaf : goal.invariant-loop-leaf
invariant-loop-leaf l =
    let catalogue = catalogue_of l.catalog in
    string_bytes l.out ≡ string_bytes l.initial.out ++ flat_map (leaf_line catalogue.sites (schemas_of catalogue)) (take l.leaf-index l.leaf-items)

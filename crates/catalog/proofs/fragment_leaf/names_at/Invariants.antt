use Rattle.std.proofs.Common.{◌≡◌, take}
use Rattle.catalog.specs.FragmentLeaf.{names_at}
use Rattle.catalog.proofs.fragment_leaf.names_at.Given as goal

abbrev pub invariant-loop-leaf : goal.invariant-loop-leaf
invariant-loop-leaf l = l.names.items ≡ names_at l.site (take l.leaf-index l.leaves)

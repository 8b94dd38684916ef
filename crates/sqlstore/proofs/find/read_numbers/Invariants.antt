use Rattle.std.proofs.Common.{◌<◌, ◌^◌, take}
use Rattle.std.specs.List.{AllByRecursion}
use Rattle.terms.specs.declared.leaf.Leaf.{Leaf}
use Rattle.sqlstore.proofs.find.read_numbers.Given as goal

abbrev pub invariant-loop-leaf : goal.invariant-loop-leaf
invariant-loop-leaf l = AllByRecursion (λ (leaf : Leaf). leaf.number < 2 ^ 64) (take l.leaf-index l.leaves)

use Rattle.std.proofs.Common.{◌≡◌, flat_map, map, string_bytes, take}
use Rattle.commands.specs.Leaves.{names_of}
use Rattle.commands.proofs.leaves.leaf_names.Given as goal

abbrev pub invariant-loop-leaf : goal.invariant-loop-leaf
invariant-loop-leaf l = map (λ name. string_bytes name) l.names.items ≡ flat_map (names_of l.asked) (take l.leaf-index l.leaf-items)

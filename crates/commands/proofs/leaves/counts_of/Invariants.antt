use Rattle.std.proofs.Common.{◌≡◌, map, string_bytes, take}
use Rattle.lines.specs.Script.{CountsLeaf, task_of}
use Rattle.commands.proofs.leaves.counts_of.Given as goal

abbrev pub invariant-loop-name : goal.invariant-loop-name
invariant-loop-name l = map task_of l.items.items ≡ map CountsLeaf (map (λ name. string_bytes name) (take l.name-index l.names))

use Rattle.std.proofs.Common.{◌≡◌, ◌++◌}
use Rattle.catalog.specs.FragmentLeaf.{leaves_from}
use Rattle.catalog.proofs.fragment_leaf.put_numbered.Given as goal

-- the leaves at the ends of the paths so far stand behind the first ones
abbrev pub invariant-loop-path : goal.invariant-loop-path
invariant-loop-path l = l.leaves.items ≡ l.initial.leaves.items ++ leaves_from l.relation l.columns 1 l.yielded

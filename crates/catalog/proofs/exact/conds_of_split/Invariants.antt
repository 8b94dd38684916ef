use Rattle.std.proofs.Common.{◌≡◌, ◌++◌, take, flat_map}
use Rattle.catalog.proofs.exact.conds_of_split.Given as goal

abbrev pub invariant-loop-branch : goal.invariant-loop-branch
invariant-loop-branch l = l.conds.items ≡ l.way ++ flat_map (λ conds. conds) (take l.branch-index l.branches)

use Rattle.std.proofs.Common.{◌≡◌, ◌++◌, take}
use Rattle.catalog.proofs.tree.joined.Given as goal

abbrev pub invariant-loop-cond : goal.invariant-loop-cond
invariant-loop-cond l = l.all.items ≡ l.conds ++ take l.cond-index l.more

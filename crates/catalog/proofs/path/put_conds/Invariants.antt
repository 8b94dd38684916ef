use Rattle.std.proofs.Common.{◌≡◌, ◌++◌, take}
use Rattle.catalog.proofs.path.put_conds.Given as goal

abbrev pub invariant-loop-cond : goal.invariant-loop-cond
invariant-loop-cond l = l.conds.items ≡ l.initial.conds.items ++ take l.cond-index l.more

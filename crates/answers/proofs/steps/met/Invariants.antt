-- What each round of `steps::met` keeps.
use Rattle.std.proofs.Common.{◌≡◌, ◌++◌, drop, map}
use Rattle.plan.specs.Rows.{met}
use Rattle.answers.proofs.steps.met.Given as goal

abbrev pub invariant-loop-part : goal.invariant-loop-part
invariant-loop-part l = map (λ row. row.first) l.found.items ++ met l.conds (drop l.part-index l.parts) ≡ met l.conds l.parts

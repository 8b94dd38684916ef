use Rattle.std.proofs.Common.{◌≡◌, take}
use Rattle.catalog.specs.Path.{path_conds}
use Rattle.catalog.proofs.path.path_conds.Given as goal

abbrev pub invariant-loop-step : goal.invariant-loop-step
invariant-loop-step l = l.conds.items ≡ path_conds (take l.step-index l.steps)

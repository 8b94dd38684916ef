use Rattle.std.proofs.Common.{◌≡◌, map, take}
use Rattle.lines.specs.Check.{names_of_columns}
use Rattle.lines.specs.FragmentTree as spec
use Rattle.lines.proofs.fragment_tree.way_of.Given as goal

abbrev pub invariant-loop-step : goal.invariant-loop-step
invariant-loop-step l = l.way.items ≡ map (spec.step_text (names_of_columns l.columns)) (take l.step-index l.steps)

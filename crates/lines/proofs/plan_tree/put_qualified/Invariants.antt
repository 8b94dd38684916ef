use Rattle.std.proofs.Common.{◌≡◌, ◌++◌, map, take}
use Rattle.lines.specs.PlanTree.{qualified}
use Rattle.lines.proofs.plan_tree.put_qualified.Given as goal

abbrev pub invariant-loop-column : goal.invariant-loop-column
invariant-loop-column l = l.columns.items ≡ l.initial.columns.items ++ map (qualified l.relation) (take l.column-index l.column-items)

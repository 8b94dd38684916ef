-- Why `least` meets its contract.
use Rattle.std.proofs.Common.{arith}
use Rattle.std.specs.Option.{option_map}
use Rattle.history.specs.Picks.{act_of}
use Rattle.history.proofs.Merging.{found_more, found_same}
use Rattle.history.proofs.merge.least.Goals as goal
use Rattle.history.proofs.merge.least.Goals.{in-Some, in_default}

pub loop-cell-preserved : goal.loop-cell-preserved
loop-cell-preserved g c =
    let number = g.T.Numbered.number in
    let rows = c.args.rows.now in
    let cell = c.loop-cell.cell in
    let items = c.index-rows-cell.result in
    let found = option_map act_of c.loop-cell.found in
    elim c.match-first.branch [
      | in-Some w ↦ rw (w.found-is) (found_more number rows cell items w.in-Some.item.now found (act_of w.lower.result) (omega arith) c.index-rows-cell.is w.in-Some.ensures.value c.loop-cell.invariant w.lower.ensures)
      | in_default w ↦ rw (w.found-is) (found_same number rows cell items found (omega arith) c.index-rows-cell.is w.in_default.ensures.value c.loop-cell.invariant)
    ]

-- Why `steps::keyed` meets its contract.
use Rattle.std.proofs.Common.{sym}
use Rattle.answers.proofs.LaidTables.{keyed_is, seen_same}
use Rattle.answers.proofs.steps.keyed.Goals as goal

pub returns-clause-made : goal.returns-clause-made
returns-clause-made c =
    let one = seen_same c.args.one c.one.inside.columns c.as_slice-columns.result.now c.one.inside.rows c.into_vec.result.items (sym c.one.view_is) c.as_slice-columns.ensures c.into_vec.ensures in
    let other = seen_same c.args.other c.other.inside.columns c.as_slice-others.result.now c.other.inside.rows c.into_vec-2.result.items (sym c.other.view_is) c.as_slice-others.ensures c.into_vec-2.ensures in
    keyed_is c.in_ok-count.count c.as_slice-columns.result.now c.as_slice-others.result.now c.in_ok-made.made.items c.into_vec.result.items c.into_vec-2.result.items c.in_ok-rows.rows.items c.args.one c.args.other c.new.result one other c.new.ensures c.in_ok-made.ensures c.in_ok-rows.ensures.rows

-- Why `steps::partnered` meets its contract.
use Rattle.std.proofs.Common.{rules, ◌≡◌, ◌==◌, false, List, length, ap, sym, ◌∙◌}
use Rattle.answers.specs.declared.joined.Joined.{Joined}
use Rattle.answers.specs.Laid.{laid_beside}
use Rattle.answers.proofs.LaidTables.{partnered_is, past_ascends, past_within, seen_same}
use Rattle.answers.proofs.steps.partnered.Goals as goal

pub columns_past-requires : goal.columns_past-requires
columns_past-requires c =
    let some : (length c.as_slice.result.now == 0) ≡ false = search rules in
    let right = seen_same c.args.right.now c.right.inside.columns c.as_slice-2.result.now c.right.inside.rows c.as_slice.result.now (sym c.right.view_is) c.as_slice-2.ensures c.as_slice.ensures in
    past_within c.args.width c.as_slice-2.result.now c.as_slice.result.now c.args.right.now right some c.requires.within

pub partner_pairs-requires-clause-order : goal.partner_pairs-requires-clause-order
partner_pairs-requires-clause-order c =
    let right = seen_same c.args.right.now c.right.inside.columns c.as_slice-2.result.now c.right.inside.rows c.as_slice-5.result.now (sym c.right.view_is) c.as_slice-2.ensures c.as_slice-5.ensures in
    past_ascends c.args.width c.as_slice-2.result.now c.as_slice-4.result.now c.as_slice-5.result.now c.args.right.now right (c.as_slice-4.ensures.value ∙ c.in_ok-others.ensures) c.requires.order

pub returns-clause-made : goal.returns-clause-made
returns-clause-made c =
    let first : (length c.as_slice.result.now == 0) ≡ false = search rules in
    let some : (length c.as_slice-5.result.now == 0) ≡ false = ap (λ (rows : List Joined). length rows == 0) (c.as_slice-5.ensures ∙ sym c.as_slice.ensures) ∙ first in
    let columns = c.as_slice-columns.result.now in
    let left = seen_same c.args.left c.left.inside.columns columns c.left.inside.rows c.into_vec.result.items (sym c.left.view_is) c.as_slice-columns.ensures c.into_vec.ensures in
    let right = seen_same c.args.right.now c.right.inside.columns c.as_slice-2.result.now c.right.inside.rows c.as_slice-5.result.now (sym c.right.view_is) c.as_slice-2.ensures c.as_slice-5.ensures in
    partnered_is c.args.col c.args.width c.in_ok-count.count columns c.as_slice-2.result.now c.as_slice-4.result.now c.in_ok-made.made.items c.into_vec.result.items c.as_slice-5.result.now c.in_ok-rows.rows.items c.args.left c.args.right.now c.new-2.result left right some
    (c.as_slice-4.ensures.value ∙ c.in_ok-others.ensures) c.new-2.ensures (c.in_ok-made.ensures ∙ ap (laid_beside c.in_ok-count.count columns) (c.as_slice-3.ensures.value ∙ sym c.as_slice-4.ensures.value)) c.in_ok-rows.ensures.rows

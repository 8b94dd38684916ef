use Rattle.std.proofs.Common.{rules, ◌∙◌, ◌≤◌, List, Some, ap, sym, subst}
use Rattle.std.proofs.lemmas.Result.{IfOk-weaker}
use Rattle.std.specs.Borrow.{Bor}
use Rattle.terms.specs.declared.cond.Cond.{Cond}
use Rattle.terms.specs.declared.value.Value.{Value}
use Rattle.catalog.specs.Cells.{cell_count, AreTestColumns, AreSplitColumns, on_way, values_of}
use Rattle.catalog.specs.Exactness.{IsAnswer}
use Rattle.catalog.proofs.Seeking.{first_found, first_none, found_answer, none_answer}
use Rattle.catalog.proofs.exact.try_cells.Goals as goal

pub returns-then-branch : goal.returns-then-branch
returns-then-branch c =
    let lists = c.in_ok-columns.columns.items in
    let columns : AreSplitColumns c.args.kinds.now c.args.way.now c.args.branches.now lists = subst (λ (conds : List Cond). AreTestColumns conds 0 c.args.kinds.now lists) (c.as_slice.ensures.value ∙ c.in_ok-conds.ensures) c.in_ok-columns.ensures in
    let few : cell_count lists ≤ 4096 = search rules in
    let found = first_found c.args.way.now c.args.branches.now c.new-cell.result.items c.seek_fault.new.row.items c.as_slice-4.result.now lists c.in_ok-seek_fault.field-0 c.new-cell.ensures.items (c.as_slice-4.ensures.value ∙ c.in_ok-kept.ensures ∙ ap (on_way c.args.way.now 0) c.as_slice-3.ensures.value) c.if-branch.true c.in_ok-seek_fault.ensures in
    let shown = found ∙ ap (λ (row : List (Bor Value)). Some (values_of row)) (sym c.as_slice-then-branch.ensures.value) in
    IfOk-weaker c.named.result _ (λ answer. IsAnswer c.args.kinds.now c.args.way.now c.args.branches.now 4096 answer)
    (λ answer is. found_answer c.args.kinds.now c.args.way.now c.args.branches.now lists (values_of c.as_slice-then-branch.result.now) answer c.cells_decide.ensures c.requires columns few shown is) c.named.ensures

pub returns : goal.returns
returns c =
    let lists = c.in_ok-columns.columns.items in
    let columns : AreSplitColumns c.args.kinds.now c.args.way.now c.args.branches.now lists = subst (λ (conds : List Cond). AreTestColumns conds 0 c.args.kinds.now lists) (c.as_slice.ensures.value ∙ c.in_ok-conds.ensures) c.in_ok-columns.ensures in
    let few : cell_count lists ≤ 4096 = search rules in
    let none = first_none c.args.way.now c.args.branches.now c.new-cell.result.items c.seek_fault.new.row.items c.as_slice-4.result.now lists c.in_ok-seek_fault.field-0 c.new-cell.ensures.items (c.as_slice-4.ensures.value ∙ c.in_ok-kept.ensures ∙ ap (on_way c.args.way.now 0) c.as_slice-3.ensures.value) c.if-branch.false c.in_ok-seek_fault.ensures in
    none_answer c.args.kinds.now c.args.way.now c.args.branches.now lists c.cells_decide.ensures c.requires columns few none

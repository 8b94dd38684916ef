-- Why `steps::table_read` meets its contract.
use Rattle.std.proofs.Common.{◌≡◌, List, length, ap, ◌∙◌}
use Rattle.terms.specs.declared.cond.Cond.{Cond}
use Rattle.terms.specs.Cond.{conds_hold}
use Rattle.meaning.proofs.Rows.{All-passed}
use Rattle.plan.specs.Rows.{met}
use Rattle.answers.specs.Laid.{laid_from}
use Rattle.answers.proofs.LaidTables.{read_is}
use Rattle.answers.proofs.steps.table_read.Goals as goal

pub returns : goal.returns
returns c =
    let read = c.args.read.now in
    let parts = c.args.parts.now in
    read_is read.columns c.in_ok-columns.columns.items c.in_ok-rows.rows.items (met read.conds parts) c.new.result c.new.ensures (c.in_ok-columns.ensures ∙ ap (laid_from 0) c.as_slice.ensures) (c.in_ok-rows.ensures ∙ ap (λ (conds : List Cond). met conds parts) c.as_slice-2.ensures)
    (All-passed (λ part. length part ≡ length read.columns) (conds_hold read.conds) parts c.requires)

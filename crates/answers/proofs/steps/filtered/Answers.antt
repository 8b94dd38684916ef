-- Why `steps::filtered` meets its contract.
use Rattle.std.proofs.Common.{List, filter, ap₂, sym, ◌∙◌}
use Rattle.answers.specs.declared.joined.Column.{Column}
use Rattle.answers.specs.declared.joined.Joined.{Joined}
use Rattle.answers.specs.Laid.{laid_meets}
use Rattle.answers.proofs.LaidTables.{filtered_is}
use Rattle.answers.proofs.steps.filtered.Goals as goal

pub returns : goal.returns
returns c =
    let conds = c.args.conds.now in
    filtered_is conds c.table.inside.columns c.table.inside.rows c.new.result c.args.table (sym c.table.view_is)
    (c.new.ensures ∙ c.meeting-rows.ensures ∙ ap₂ (λ (columns : List Column) (rows : List Joined). filter (laid_meets conds columns) rows) c.as_slice.ensures c.into_vec.ensures)

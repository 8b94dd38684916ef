-- Why `steps::cut` meets its contract.
use Rattle.std.proofs.Common.{List, filter, ap, sym, ◌∙◌}
use Rattle.plan.specs.Rows.{is_seen}
use Rattle.answers.specs.declared.joined.Column.{Column}
use Rattle.answers.proofs.LaidTables.{cut_made_is}
use Rattle.answers.proofs.steps.cut.Goals as goal

pub returns : goal.returns
returns c =
    let wanted = c.args.wanted.now in
    cut_made_is wanted c.table.inside.columns c.new.result c.table.inside.rows c.args.table (sym c.table.view_is) (c.new.ensures ∙ c.columns_cut-columns.ensures ∙ ap (λ (all : List Column). filter (λ column. is_seen wanted column.number) all) c.into_vec.ensures)

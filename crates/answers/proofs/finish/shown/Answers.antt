-- Why `finish::shown` meets its contract: rows are shown whole, or column by column.
use Rattle.std.proofs.Common.{rules, ◌≡◌, ◌==◌, true, length, map, ◌∙◌}
use Rattle.std.specs.List.{filter_map, list_all}
use Rattle.std.proofs.lemmas.Result.{IfOk-weaker}
use Rattle.plan.specs.Uniform.{AreOnce}
use Rattle.answers.specs.Laid.{laid_from, numbers, row_of, seen_in}
use Rattle.answers.specs.Outcome.{shown}
use Rattle.answers.proofs.LaidTables.{firsts_shown, rows_shown_is}
use Rattle.answers.proofs.finish.shown.Goals as goal

pub returns-then-are_wide : goal.returns-then-are_wide
returns-then-are_wide c =
    let places = c.args.places.now in
    let columns = c.args.columns.now in
    let rows = c.args.rows.now in
    let laid : columns ≡ laid_from 0 (numbers columns) = search rules in
    let same : places ≡ numbers columns = search rules in
    let once : AreOnce places = search rules in
    let wide : list_all (λ row. length row.first == length columns) rows ≡ true = search rules in
    IfOk-weaker c.firsts.result (λ found. found.items ≡ map (λ row. row.first) rows) (λ found. found.items ≡ shown places (numbers columns) (map (row_of columns) rows)) (λ found is. is ∙ firsts_shown places columns rows laid same once wide) c.firsts.ensures

pub returns : goal.returns
returns c =
    let places = c.args.places.now in
    let columns = c.args.columns.now in
    let rows = c.args.rows.now in
    IfOk-weaker c.rows_shown.result (λ found. found.items ≡ map (λ row. filter_map (seen_in columns row) places) rows) (λ found. found.items ≡ shown places (numbers columns) (map (row_of columns) rows)) (λ found is. is ∙ rows_shown_is places columns rows) c.rows_shown.ensures

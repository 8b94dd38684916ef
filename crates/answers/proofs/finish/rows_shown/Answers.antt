-- Why `finish::rows_shown` meets its contract.
use Rattle.std.proofs.Common.{◌≡◌, ◌∙◌, map, ap, List}
use Rattle.std.specs.List.{filter_map}
use Rattle.std.proofs.lemmas.Result.{IfOk-weaker}
use Rattle.answers.specs.declared.joined.Column.{Column}
use Rattle.answers.specs.Laid.{row_of, seen_in}
use Rattle.answers.proofs.LaidTables.{all_columns_shown}
use Rattle.answers.proofs.finish.rows_shown.Goals as goal

pub returns : goal.returns
returns c =
    let columns = c.args.columns.now in
    let places = c.args.places.now in
    let rows = c.args.rows.now in
    let listed = c.as_slice.result.now in
    IfOk-weaker c.rows_made.result (λ found. found.items ≡ map (row_of listed) rows) (λ found. found.items ≡ map (λ row. filter_map (seen_in columns row) places) rows)
    (λ found is. is ∙ ap (λ (columns : List Column). map (row_of columns) rows) (c.as_slice.ensures.value ∙ c.in_ok-listed.ensures) ∙ all_columns_shown columns places rows) c.rows_made.ensures

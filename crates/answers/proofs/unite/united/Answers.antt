-- Why `unite::united` meets its contract where both tables have their columns in other places.
use Rattle.std.proofs.Common.{◌≡◌, ◌==◌, false, List, length, map, ap, ap₂, sym, ◌∙◌}
use Rattle.answers.specs.declared.joined.Column.{Column}
use Rattle.answers.specs.declared.joined.Joined.{Joined}
use Rattle.answers.specs.Laid.{numbers, table_seen}
use Rattle.answers.specs.Merged.{merged_rows}
use Rattle.answers.proofs.Laid.{from_numbers}
use Rattle.answers.proofs.LaidTables.{apart, apart_ascends, same_numbers, seen_same, united_is}
use Rattle.answers.proofs.unite.united.Goals as goal

pub merged-requires-2-clause-rows : goal.merged-requires-2-clause-rows
merged-requires-2-clause-rows c =
    let columns = c.as_slice-columns.result.now in
    let one = seen_same c.args.one c.one.inside.columns columns c.one.inside.rows c.as_slice-3.result.now (sym c.one.view_is) c.as_slice-columns.ensures c.as_slice-3.ensures in
    let firsts = ap (map (λ (row : Joined). row.first)) c.as_slice-7.ensures.value ∙ c.in_ok-rows-2.ensures in
    apart_ascends c.as_slice-6.result.now columns c.as_slice-7.result.now c.as_slice-3.result.now c.args.one one
    (apart c.as_slice-5.result.now c.as_slice-6.result.now columns c.as_slice-7.result.now c.as_slice-3.result.now (c.as_slice-6.ensures.value ∙ c.in_ok-columns.ensures) (c.as_slice-5.ensures.value ∙ c.in_ok-numbers.ensures) firsts) c.requires.one

pub merged-requires-2-clause-others : goal.merged-requires-2-clause-others
merged-requires-2-clause-others c =
    let columns = c.as_slice-columns.result.now in
    let others = c.as_slice-others.result.now in
    let first : (length c.as_slice.result.now == 0) ≡ false = sym c.if-is_empty.ensures in
    let second : (length c.as_slice-2.result.now == 0) ≡ false = sym c.if-is_empty-2.ensures in
    let one = seen_same c.args.one c.one.inside.columns columns c.one.inside.rows c.as_slice.result.now (sym c.one.view_is) c.as_slice-columns.ensures c.as_slice.ensures in
    let other_first = seen_same c.args.other c.other.inside.columns others c.other.inside.rows c.as_slice-2.result.now (sym c.other.view_is) c.as_slice-others.ensures c.as_slice-2.ensures in
    let other = seen_same c.args.other c.other.inside.columns others c.other.inside.rows c.as_slice-4.result.now (sym c.other.view_is) c.as_slice-others.ensures c.as_slice-4.ensures in
    let same = same_numbers columns others c.as_slice.result.now c.as_slice-2.result.now c.args.one c.args.other one other_first first second c.requires.columns in
    let firsts = ap (map (λ (row : Joined). row.first)) c.as_slice-8.ensures.value ∙ c.in_ok-other_rows.ensures in
    apart_ascends c.as_slice-6.result.now others c.as_slice-8.result.now c.as_slice-4.result.now c.args.other other
    (apart c.as_slice-5.result.now c.as_slice-6.result.now others c.as_slice-8.result.now c.as_slice-4.result.now (c.as_slice-6.ensures.value ∙ c.in_ok-columns.ensures) (c.as_slice-5.ensures.value ∙ c.in_ok-numbers.ensures ∙ same) firsts) c.requires.other

pub returns-clause-made : goal.returns-clause-made
returns-clause-made c =
    let columns = c.as_slice-columns.result.now in
    let others = c.as_slice-others.result.now in
    let laid = c.as_slice-6.result.now in
    let first : (length c.as_slice.result.now == 0) ≡ false = sym c.if-is_empty.ensures in
    let second : (length c.as_slice-2.result.now == 0) ≡ false = sym c.if-is_empty-2.ensures in
    let some : (length c.as_slice-3.result.now == 0) ≡ false = ap (λ (rows : List Joined). length rows == 0) (c.as_slice-3.ensures ∙ sym c.as_slice.ensures) ∙ first in
    let some_other : (length c.as_slice-4.result.now == 0) ≡ false = ap (λ (rows : List Joined). length rows == 0) (c.as_slice-4.ensures ∙ sym c.as_slice-2.ensures) ∙ second in
    let one = seen_same c.args.one c.one.inside.columns columns c.one.inside.rows c.as_slice-3.result.now (sym c.one.view_is) c.as_slice-columns.ensures c.as_slice-3.ensures in
    let other = seen_same c.args.other c.other.inside.columns others c.other.inside.rows c.as_slice-4.result.now (sym c.other.view_is) c.as_slice-others.ensures c.as_slice-4.ensures in
    let same = same_numbers columns others c.as_slice-3.result.now c.as_slice-4.result.now c.args.one c.args.other one other some some_other c.requires.columns in
    let laid_is = c.as_slice-6.ensures.value ∙ c.in_ok-columns.ensures in
    let named = c.as_slice-5.ensures.value ∙ c.in_ok-numbers.ensures in
    let apart_one = apart c.as_slice-5.result.now laid columns c.as_slice-7.result.now c.as_slice-3.result.now laid_is named (ap (map (λ (row : Joined). row.first)) c.as_slice-7.ensures.value ∙ c.in_ok-rows-2.ensures) in
    let apart_other = apart c.as_slice-5.result.now laid others c.as_slice-8.result.now c.as_slice-4.result.now laid_is (named ∙ same) (ap (map (λ (row : Joined). row.first)) c.as_slice-8.ensures.value ∙ c.in_ok-other_rows.ensures) in
    united_is columns others laid c.as_slice-3.result.now c.as_slice-4.result.now c.in_ok-rows-3.rows.items c.args.one c.args.other c.new-2.result one other some some_other
    (c.new-2.ensures ∙ ap (λ (l : List Column). table_seen l c.in_ok-rows-3.rows.items) (sym c.as_slice-6.ensures.value)) (ap numbers laid_is ∙ from_numbers 0 c.as_slice-5.result.now ∙ named) (c.in_ok-rows-3.ensures.rows ∙ ap₂ merged_rows apart_one apart_other)

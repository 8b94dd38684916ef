-- Why `partner::partner_pairs` meets its contract.
use Rattle.std.proofs.Common.{◌≡◌, ◌∷◌, List, Option, ap, length, map, option_and_then, option_map, sym, ◌∙◌, arith}
use Rattle.std.specs.BTreeMap.{get}
use Rattle.std.specs.Vec.Iter.{into_iter_items}
use Rattle.std.specs.List.{slice_get}
use Rattle.std.specs.Ordering.{int_cmp}
use Rattle.terms.specs.declared.value.Value.{Value}
use Rattle.answers.specs.declared.joined.Column.{Column}
use Rattle.answers.specs.declared.joined.Joined.{Joined}
use Rattle.answers.specs.Laid.{integer, row_of, value_of}
use Rattle.answers.proofs.Laid.{found_partner, longer_with, put_with}
use Rattle.answers.proofs.partner.partner_pairs.Goals as goal

pub loop-row-preserved : goal.loop-row-preserved
loop-row-preserved c =
    let columns = c.args.columns.now in
    let others_columns = c.args.others_columns.now in
    let others = c.args.others.now in
    let row = c.in-Some.row in
    let found : List Joined = c.loop-row.found.items in
    let g : Joined → List Value = row_of others_columns in
    let before = c.loop-row.invariant in
    let rest : List Joined = into_iter_items c.next.new.self in
    let yields : into_iter_items c.loop-row.row-iterator ≡ row ∷ rest = c.in-Some.ensures.steps.0 in
    let left = ap (map (row_of columns)) yields in
    let fewer = ap (λ (all : List Joined). length all) yields in
    let has = found_partner columns others_columns row others c.args.col (get int_cmp c.in_ok-places.places) before.1 in
    let by : Option Column → Option Joined = λ column. option_and_then (λ key. option_and_then (slice_get others) (get int_cmp c.in_ok-places.places key)) (integer (option_map (value_of row) column)) in
    let sought = ap by c.column_of-column.ensures in
    let there = sym has ∙ ap (option_map g) (sym (c.partner-other.ensures.row ∙ sought)) in
    let most = before.2 in
    let step = c.partner-other.ensures.most in
    let made : List Joined = c.put_found.new.found.items in
    let put = c.in_ok-put_found.ensures in
    let is = c.in_ok-with_partner.ensures in
    let long = longer_with _ _ found made c.partner-other.result c.in_ok-with_partner.field-0 put is in (
      put_with c.args.col c.args.count columns others_columns rest others (map (row_of columns) (into_iter_items c.loop-row.row-iterator)) row left found made _ c.in_ok-with_partner.field-0 put is c.requires.within there ∙ before.0,
      before.1,
      omega (arith, most, step, fewer),
      λ below. let least = c.partner-other.ensures.least below in let old = before.3 (omega (arith, below, least)) in omega (arith, least, old, long),
    )

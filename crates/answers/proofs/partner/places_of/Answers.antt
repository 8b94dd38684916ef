-- Why `partner::places_of` meets its contract.
use Rattle.std.proofs.Common.{◌<◌, ◌+◌, length, map, ap, sym, ◌∙◌, arith}
use Rattle.std.proofs.lemmas.List.{length-map}
use Rattle.std.specs.BTreeMap.{get}
use Rattle.std.specs.Ordering.{int_cmp}
use Rattle.answers.specs.Laid.{row_of}
use Rattle.answers.proofs.Laid.{mapped_at}
use Rattle.answers.proofs.Placed.{placed_more}
use Rattle.answers.proofs.partner.places_of.Goals as goal

pub loop-place-preserved : goal.loop-place-preserved
loop-place-preserved c =
    let columns = c.args.columns.now in
    let rows = c.args.rows.now in
    let place = c.loop-place.place in
    let row = c.index-rows-place.result in
    let before = get int_cmp c.loop-place.places in
    let step = c.inserted.ensures.step in
    let most = c.loop-place.invariant.1 in
    let least = c.loop-place.invariant.2 in
    let within : place < length rows = omega (arith, c.loop-place-test.true) in
    let within_seen : place < length (map (row_of columns) rows) = omega (arith, within, length-map rows (row_of columns)) in (
      placed_more (map (row_of columns) rows) place (place + 1) (row_of columns row) before (get int_cmp c.inserted.new.places) (omega arith) c.requires within_seen (ap (row_of columns) c.index-rows-place.is ∙ sym (mapped_at columns rows place row)) c.loop-place.invariant.0
          c.in_ok-inserted.ensures.places,
      omega (arith, step, most),
      λ below. let before = least (omega (arith, below, step)) in omega (arith, below, step, before),
    )

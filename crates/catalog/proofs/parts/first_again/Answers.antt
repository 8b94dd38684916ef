use Rattle.std.proofs.Common.{◌∙◌, sym}
use Rattle.catalog.proofs.ColumnParts.{here_again, one_apart}
use Rattle.catalog.proofs.parts.first_again.Goals as goal

pub returns-then-contains-clause-some : goal.returns-then-contains-clause-some
returns-then-contains-clause-some c =
    here_again c.args.columns.now c.loop-place.place 0 c.loop-place-test.true c.loop-place.invariant (sym c.contains.ensures.value ∙ c.if-contains.true)

pub loop-place-preserved : goal.loop-place-preserved
loop-place-preserved c =
    one_apart c.args.columns.now c.loop-place.place 0 c.loop-place-test.true c.loop-place.invariant (sym c.contains.ensures.value ∙ c.if-contains.false)

-- Why `joins::all_joined` meets its contract.
use Rattle.std.proofs.Common.{add-one, refl}
use Rattle.reader.proofs.Others.{joined_more, break_more}
use Rattle.reader.proofs.joins.all_joined.Goals as goal

pub loop-join-preserved : goal.loop-join-preserved
loop-join-preserved c =
    let there = rw c.as_slice.ensures.value at c.in_ok-other.ensures.exact in
    rw (add-one, c.in_ok-push.ensures.items, c.in_ok-before.ensures) (record {
      found = joined_more c.args.schema.now.relations c.args.from.now.name _ c.args.joins.now c.loop-join.join-index _ c.loop-join.all.items _ c.loop-join-test.true refl there c.loop-join.invariant.found;
      broken = λ rule is. c.loop-join.invariant.broken rule (break_more rule c.args.schema.now.relations c.args.from.now.name c.args.joins.now c.loop-join.join-index _ c.loop-join.all.items _ c.loop-join-test.true there is);
    })

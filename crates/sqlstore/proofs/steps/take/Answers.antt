use Rattle.sqlite.specs.Held.{state}
use Rattle.sqlstore.proofs.Stepping.{takes}
use Rattle.sqlstore.proofs.steps.take.Goals as goal

pub returns : goal.returns
returns g c = record {
  same_reference = c.execute.ensures.same_reference;
  does = λ clean inside. takes c.args.slot.now (state g.S.Store c.args.tx.now.conn.now) (state g.S.Store c.execute.new.self.conn.now) c.execute.result (rw (c.in_ok-leaf.ensures.ok.1, c.in_ok-key.ensures.ok.1) at (c.execute.ensures.runs clean inside));
  survives = c.execute.ensures.survives;
}

use Rattle.sqlite.specs.Held.{state}
use Rattle.sqlstore.proofs.Stepping.{starts_life}
use Rattle.sqlstore.proofs.steps.begin_life.Goals as goal

pub returns : goal.returns
returns g c = record {
  same_reference = c.execute.ensures.same_reference;
  does = λ clean inside. starts_life c.args.life.now (state g.S.Store c.args.tx.now.conn.now) (state g.S.Store c.execute.new.self.conn.now) c.execute.result (rw (c.number.ensures) at (c.execute.ensures.runs clean inside));
  survives = c.execute.ensures.survives;
}

use Rattle.std.proofs.Common.{string_bytes}
use Rattle.sqlite.specs.Held.{state}
use Rattle.sqlstore.proofs.Stepping.{intends}
use Rattle.sqlstore.proofs.steps.intend.Goals as goal

pub returns : goal.returns
returns g c = record {
  same_reference = c.execute.ensures.same_reference;
  does = λ clean inside. intends c.args.visit.now (string_bytes c.args.leaf.now) c.args.key.now c.args.body.now.items (state g.S.Store c.args.tx.now.conn.now) (state g.S.Store c.execute.new.self.conn.now) c.execute.result (rw (c.number.ensures, c.number-2.ensures, c.text.ensures, c.number-3.ensures, c.blob.ensures) at (c.execute.ensures.runs clean inside));
  survives = c.execute.ensures.survives;
}

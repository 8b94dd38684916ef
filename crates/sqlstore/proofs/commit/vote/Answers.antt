use Rattle.std.proofs.Common.{string_bytes}
use Rattle.sqlite.specs.Held.{state}
use Rattle.sqlstore.proofs.DeskStepping.{votes}
use Rattle.sqlstore.proofs.commit.vote.Goals as goal

pub returns : goal.returns
returns g c = record {
  same_reference = c.execute.ensures.same_reference;
  does = λ clean inside. votes c.args.txn.now (string_bytes c.args.site.now) c.args.ticket.now (state g.S.Store c.args.tx.now.conn.now) (state g.S.Store c.execute.new.self.conn.now) c.execute.result (rw (c.number.ensures, c.number-2.ensures, c.text.ensures, c.number-3.ensures, c.number-4.ensures) at (c.execute.ensures.runs clean inside));
  survives = c.execute.ensures.survives;
}

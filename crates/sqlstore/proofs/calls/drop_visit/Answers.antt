use Rattle.sqlstore.specs.Step.{Forgets, Clears, Drops}
use Rattle.sqlstore.proofs.Framing.{runs_then, runs_err}
use Rattle.sqlstore.proofs.calls.drop_visit.Goals as goal

pub returns : goal.returns
returns g c = runs_then g.S.Store (Forgets c.args.visit.now) (Clears c.args.visit.now) c.args.tx.now.conn c.forget.new.tx.conn c.clear.new.tx.conn c.in_ok-forget.field-0 c.clear.result (λ p. p.tables) c.in_ok-forget.ensures c.clear.ensures

pub returns-in_err-forget : goal.returns-in_err-forget
returns-in_err-forget g c = runs_err g.S.Store (Forgets c.args.visit.now) (Drops c.args.visit.now) c.args.tx.now.conn c.forget.new.tx.conn _ c.from_residual.result c.from_residual.ensures.0 c.in_err-forget.ensures

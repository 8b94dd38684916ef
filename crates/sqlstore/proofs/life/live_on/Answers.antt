use Rattle.sqlstore.specs.Step.{EndsLife, StartsLife, LivesOn}
use Rattle.sqlstore.proofs.Framing.{runs_then, runs_err}
use Rattle.sqlstore.proofs.life.live_on.Goals as goal

pub returns : goal.returns
returns g c = runs_then g.S.Store EndsLife (StartsLife c.args.life.now) c.args.tx.now.conn c.end_life.new.tx.conn c.begin_life.new.tx.conn c.in_ok-end_life.field-0 c.begin_life.result (λ p. p.tables) c.in_ok-end_life.ensures c.begin_life.ensures

pub returns-in_err-end_life : goal.returns-in_err-end_life
returns-in_err-end_life g c = runs_err g.S.Store EndsLife (LivesOn c.args.life.now) c.args.tx.now.conn c.end_life.new.tx.conn _ c.from_residual.result c.from_residual.ensures.0 c.in_err-end_life.ensures

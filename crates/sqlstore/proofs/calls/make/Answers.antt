use Rattle.sqlstore.specs.Step.{Empties, Gives, Clears, Fills, Follows}
use Rattle.sqlstore.proofs.Framing.{runs_then, runs_err, runs_short}
use Rattle.sqlstore.proofs.calls.make.Goals as goal

pub returns : goal.returns
returns g c =
    let fills = runs_then g.S.Store (Gives c.args.visit.now) (Clears c.args.visit.now) c.empty.new.tx.conn c.give.new.tx.conn c.clear.new.tx.conn c.in_ok-give.field-0 c.clear.result (λ p. p.tables) c.in_ok-give.ensures c.clear.ensures in
    runs_then g.S.Store (Empties c.args.visit.now c.args.slots.now) (Fills c.args.visit.now) c.args.tx.now.conn c.empty.new.tx.conn c.clear.new.tx.conn c.in_ok-empty.field-0 c.clear.result (λ p. p.2.tables) c.in_ok-empty.ensures fills

pub returns-in_err-empty : goal.returns-in_err-empty
returns-in_err-empty g c = runs_err g.S.Store (Empties c.args.visit.now c.args.slots.now) (Follows (Empties c.args.visit.now c.args.slots.now) (Fills c.args.visit.now)) c.args.tx.now.conn c.empty.new.tx.conn _ c.from_residual.result c.from_residual.ensures.0 c.in_err-empty.ensures

pub returns-in_err-give : goal.returns-in_err-give
returns-in_err-give g c =
    runs_short g.S.Store (Empties c.args.visit.now c.args.slots.now) (Gives c.args.visit.now) (Follows (Empties c.args.visit.now c.args.slots.now) (Fills c.args.visit.now)) c.args.tx.now.conn c.empty.new.tx.conn c.give.new.tx.conn c.in_ok-empty.field-0 _ c.from_residual-in_err-give.result c.from_residual-in_err-give.ensures.0 c.in_ok-empty.ensures c.in_err-give.ensures

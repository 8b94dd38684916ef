use Rattle.std.proofs.Common.{not, ap, ◌∙◌, rules}
use Rattle.sqlstore.specs.Step.{Follows, Empties, Fills}
use Rattle.sqlstore.specs.Tables.{site_schema}
use Rattle.sqlstore.proofs.Framing.{commits, commits_nothing}
use Rattle.sqlstore.proofs.calls.make_at.Goals as goal

pub returns : goal.returns
returns g c =
    let made = commits g.S.Store c.args.conn.now c.transaction-tx.result.conn c.make.new.tx.conn (c.is_autocommit-settled.ensures.settled (c.is_autocommit-settled.ensures.value ∙ ap not c.requires)) c.transaction-tx.ensures.begun
    (Follows (Empties c.args.visit.now c.args.slots.now) (Fills c.args.visit.now)) c.in_ok-make.field-0 c.in_ok-make.ensures c.commit.new.self.0 c.commit.result c.commit.ensures.ended c.commit.ensures.ok c.commit.ensures.err c.commit.ensures.survives in
    search (rules, made)

pub returns-in_err-make : goal.returns-in_err-make
returns-in_err-make g c =
    let made = commits_nothing g.S.Store c.args.conn.now c.transaction-tx.result.conn c.make.new.tx.conn (c.is_autocommit-settled.ensures.settled (c.is_autocommit-settled.ensures.value ∙ ap not c.requires)) c.transaction-tx.ensures.begun
    (Follows (Empties c.args.visit.now c.args.slots.now) (Fills c.args.visit.now)) c.in_err-make.field-0.0 c.in_err-make.ensures c.drop-tx.new.self.0 c.drop-tx.ensures.ended c.drop-tx.ensures.undone c.drop-tx.ensures.survives {own = site_schema} (Follows (Empties c.args.visit.now c.args.slots.now) (Fills c.args.visit.now)) c.from_residual.result c.from_residual.ensures.0 in
    search (rules, made)

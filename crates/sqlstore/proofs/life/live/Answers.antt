use Rattle.std.proofs.Common.{not, ap, ◌∙◌, rules}
use Rattle.sqlstore.specs.Step.{LivesOn}
use Rattle.sqlstore.specs.Tables.{site_schema}
use Rattle.sqlstore.proofs.Framing.{commits, commits_nothing}
use Rattle.sqlstore.proofs.life.live.Goals as goal

pub returns : goal.returns
returns g c =
    let made = commits g.S.Store c.args.conn.now c.transaction-tx.result.conn c.live_on.new.tx.conn (c.is_autocommit-settled.ensures.settled (c.is_autocommit-settled.ensures.value ∙ ap not c.requires)) c.transaction-tx.ensures.begun
    (LivesOn c.args.life.now) c.in_ok-live_on.field-0 c.in_ok-live_on.ensures c.commit.new.self.0 c.commit.result c.commit.ensures.ended c.commit.ensures.ok c.commit.ensures.err c.commit.ensures.survives in
    search (rules, made)

pub returns-in_err-live_on : goal.returns-in_err-live_on
returns-in_err-live_on g c =
    let made = commits_nothing g.S.Store c.args.conn.now c.transaction-tx.result.conn c.live_on.new.tx.conn (c.is_autocommit-settled.ensures.settled (c.is_autocommit-settled.ensures.value ∙ ap not c.requires)) c.transaction-tx.ensures.begun
    (LivesOn c.args.life.now) c.in_err-live_on.field-0.0 c.in_err-live_on.ensures c.drop-tx.new.self.0 c.drop-tx.ensures.ended c.drop-tx.ensures.undone c.drop-tx.ensures.survives {own = site_schema} (LivesOn c.args.life.now) c.from_residual.result c.from_residual.ensures.0 in
    search (rules, made)

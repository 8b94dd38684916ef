use Rattle.std.proofs.Common.{not, ap, ◌∙◌, rules}
use Rattle.sqlstore.specs.DeskStep.{MovesTo}
use Rattle.sqlstore.specs.DeskTables.{desk_schema}
use Rattle.sqlstore.proofs.Framing.{commits, commits_nothing}
use Rattle.sqlstore.proofs.epoch.keep_epoch.Goals as goal

pub returns : goal.returns
returns g c =
    let made = commits g.S.Store c.args.conn.now c.transaction-tx.result.conn c.move_to.new.tx.conn (c.is_autocommit-settled.ensures.settled (c.is_autocommit-settled.ensures.value ∙ ap not c.requires)) c.transaction-tx.ensures.begun
    (MovesTo c.args.life.now c.args.version.now) c.in_ok-move_to.field-0 c.in_ok-move_to.ensures c.commit.new.self.0 c.commit.result c.commit.ensures.ended c.commit.ensures.ok c.commit.ensures.err c.commit.ensures.survives in
    search (rules, made)

pub returns-in_err-move_to : goal.returns-in_err-move_to
returns-in_err-move_to g c =
    let made = commits_nothing g.S.Store c.args.conn.now c.transaction-tx.result.conn c.move_to.new.tx.conn (c.is_autocommit-settled.ensures.settled (c.is_autocommit-settled.ensures.value ∙ ap not c.requires)) c.transaction-tx.ensures.begun
    (MovesTo c.args.life.now c.args.version.now) c.in_err-move_to.field-0.0 c.in_err-move_to.ensures c.drop-tx.new.self.0 c.drop-tx.ensures.ended c.drop-tx.ensures.undone c.drop-tx.ensures.survives {own = desk_schema} (MovesTo c.args.life.now c.args.version.now) c.from_residual.result c.from_residual.ensures.0 in
    search (rules, made)

use Rattle.std.proofs.Common.{not, ap, ◌∙◌, rules}
use Rattle.sqlstore.specs.Step.{Keeps}
use Rattle.sqlstore.specs.Tables.{site_schema}
use Rattle.sqlstore.proofs.Framing.{commits, commits_nothing}
use Rattle.sqlstore.proofs.keep.keep.Goals as goal

pub returns : goal.returns
returns g c =
    let made = commits g.S.Store c.args.conn.now c.transaction-tx.result.conn c.keep_rows.new.tx.conn (c.is_autocommit-settled.ensures.settled (c.is_autocommit-settled.ensures.value ∙ ap not c.requires)) c.transaction-tx.ensures.begun
    (Keeps c.args.visit.now c.args.txn.now c.args.intents.now) c.in_ok-keep_rows.field-0 c.in_ok-keep_rows.ensures c.commit.new.self.0 c.commit.result c.commit.ensures.ended c.commit.ensures.ok c.commit.ensures.err c.commit.ensures.survives in
    search (rules, made)

pub returns-in_err-keep_rows : goal.returns-in_err-keep_rows
returns-in_err-keep_rows g c =
    let made = commits_nothing g.S.Store c.args.conn.now c.transaction-tx.result.conn c.keep_rows.new.tx.conn (c.is_autocommit-settled.ensures.settled (c.is_autocommit-settled.ensures.value ∙ ap not c.requires)) c.transaction-tx.ensures.begun
    (Keeps c.args.visit.now c.args.txn.now c.args.intents.now) c.in_err-keep_rows.field-0.0 c.in_err-keep_rows.ensures c.drop-tx.new.self.0 c.drop-tx.ensures.ended c.drop-tx.ensures.undone c.drop-tx.ensures.survives {own = site_schema} (Keeps c.args.visit.now c.args.txn.now c.args.intents.now) c.from_residual.result c.from_residual.ensures.0 in
    search (rules, made)

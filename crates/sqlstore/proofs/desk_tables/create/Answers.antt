use Rattle.std.proofs.Common.{not, ap, ◌∙◌, rules}
use Rattle.sqlstore.specs.DeskFresh.{IsFresh, MakesBoth}
use Rattle.sqlstore.proofs.DeskCreating.{makes_both}
use Rattle.sqlstore.proofs.Framing.{creates, creates_nothing}
use Rattle.sqlstore.proofs.desk_tables.create.Goals as goal

pub returns : goal.returns
returns g c =
    let made = creates g.S.Store c.args.conn.now c.transaction-tx.result.conn c.make_both.new.tx.conn (c.is_autocommit-settled.ensures.settled (c.is_autocommit-settled.ensures.value ∙ ap not c.requires)) c.transaction-tx.ensures.begun
    MakesBoth IsFresh makes_both c.in_ok-make_both.field-0 c.in_ok-make_both.ensures c.commit.new.self.0 c.commit.result c.commit.ensures.ended c.commit.ensures.ok c.commit.ensures.err c.commit.ensures.survives in
    search (rules, made)

pub returns-in_err-make_both : goal.returns-in_err-make_both
returns-in_err-make_both g c =
    let made = creates_nothing g.S.Store c.args.conn.now c.transaction-tx.result.conn c.make_both.new.tx.conn (c.is_autocommit-settled.ensures.settled (c.is_autocommit-settled.ensures.value ∙ ap not c.requires)) c.transaction-tx.ensures.begun
    MakesBoth c.in_err-make_both.field-0.0 c.in_err-make_both.ensures c.drop-tx.new.self.0 c.drop-tx.ensures.ended c.drop-tx.ensures.undone c.drop-tx.ensures.survives IsFresh c.from_residual.result c.from_residual.ensures.0 in
    search (rules, made)

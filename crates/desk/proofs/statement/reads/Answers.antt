-- Why `reads` meets its contract.
use Rattle.std.proofs.Common.{rules, refl, ◌∙◌}
use Rattle.desk.proofs.Stated.{reads_is}
use Rattle.desk.proofs.Within.{reads_in, visits_sites}
use Rattle.desk.specs.Opening.{visits}
use Rattle.desk.specs.Statement.{ask_sites}
use Rattle.desk.proofs.statement.reads.Goals as goal

pub returns-clause-step : goal.returns-clause-step
returns-clause-step c = λ db choice first rest some are have.
    reads_is db c.args.txn choice c.args.undecided.now _ (record { version = c.args.version; statement = c.args.statement; plan = c.args.plan; asks = c.args.asks }) first rest some are have (search rules) (record { version = c.args.version; statement = c.args.statement; plan = c.args.plan; asks = c.asks_begin.new.asks }) refl refl (search rules) (search rules) (search rules) _ (search rules) c.quiet.ensures.replies

pub returns-clause-within : goal.returns-clause-within
returns-clause-within c = λ db those home planned.
    let asks = c.args.asks.items in
    let participants = c.args.undecided.now.participants in
    reads_in db c.args.version c.args.txn (visits (ask_sites asks) participants) (visits_sites (ask_sites asks) participants ∙ those) c.reading.new.undecided asks c.args.statement c.args.plan (record { version = c.args.version; statement = c.args.statement; plan = c.args.plan; asks = c.asks_begin.new.asks }) home planned refl refl refl (search rules) (search rules) (search rules)

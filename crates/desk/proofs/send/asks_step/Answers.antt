-- Why `asks_step` meets its contract.
use Rattle.std.proofs.Common.{rules, ◌≡◌}
use Rattle.desk.proofs.Operations.{on_err, written_same}
use Rattle.desk.proofs.send.asks_step.Goals as goal

pub returns-in_err-asks_out-clause-same : goal.returns-in_err-asks_out-clause-same
returns-in_err-asks_out-clause-same c =
    let same : c.asks_out.new.asks ≡ c.args.asks.now.items = search rules in
    on_err c.from_residual.result (written_same c.args.asks.now c.asks_out.new.asks same)

-- Why `writes_step` meets its contract.
use Rattle.std.proofs.Common.{rules, ◌∙◌}
use Rattle.desk.proofs.Operations.{left_waiting_after}
use Rattle.desk.proofs.send.writes_step.Goals as goal

pub returns-clause-left : goal.returns-clause-left
returns-clause-left c =
    c.keep_waiting.ensures ∙ left_waiting_after c.args.txn c.args.unsent.now.items c.args.participants.now c.writes_out.new.participants (search rules)

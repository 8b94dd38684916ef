-- Why `writing_goes` meets its contract.
use Rattle.std.proofs.Common.{sym, ap, ◌∙◌}
use Rattle.desk.specs.Statement.{answer_of}
use Rattle.desk.proofs.Operations.{answer_left}
use Rattle.desk.proofs.statement.writing_goes.Goals as goal

pub returns-clause-replies : goal.returns-clause-replies
returns-clause-replies c =
    let writing = c.args.writing.now in
    c.in_ok-replies.ensures ∙ answer_left c.args.txn writing.answer writing.unsent.items c.args.participants.now ∙ ap (answer_of c.args.txn writing.answer) (sym c.in_ok-letters.ensures.left)

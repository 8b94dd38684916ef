-- Why `ask_out` meets its contract.
use Rattle.std.proofs.Common.{rules, ◌≡◌, Some, None, sym, subst}
use Rattle.desk.specs.Send.{AreShort, one_more}
use Rattle.desk.specs.Participants.{participant_in}
use Rattle.desk.proofs.Short.{ask_past, more_short}
use Rattle.desk.proofs.send.ask_out.Goals as goal

pub returns-in_default-next_number-clause-full : goal.returns-in_default-next_number-clause-full
returns-in_default-next_number-clause-full c = λ is.
    let participants = c.args.participants.now in
    let there : (participant_in c.args.ask.now.site participants).ticket ≡ Some c.in-Some.ticket = search rules in
    let fresh : c.args.ask.now.number ≡ None = search rules in
    ask_past c.args.txn c.args.ask.now c.in-Some.ticket participants fresh there (search rules)

pub returns-clause-short : goal.returns-clause-short
returns-clause-short c = λ short.
    let participants = c.args.participants.now in
    let site = c.args.ask.now.site in
    let there : (participant_in site participants).ticket ≡ Some c.in-Some.ticket = search rules in
    let is : c.set_sent.new.participants ≡ one_more site participants = search rules in
    subst AreShort (sym is) (more_short site c.in-Some.ticket participants there (search rules) short)

-- Why `verdict_to_read` meets its contract.
use Rattle.std.proofs.Common.{sym, ap, ◌∙◌}
use Rattle.std.specs.Option.{option_copied}
use Rattle.protocol.proofs.Basics.{some_is}
use Rattle.site.specs.Locks.{locks_in}
use Rattle.site.specs.Verdict.{read_verdict}
use Rattle.site.proofs.TicketStates.{is_place}
use Rattle.site.proofs.verdict.verdict_to_read.Goals as goal

pub at-requires : goal.at-requires
at-requires c = (is_place c.args.leaf.now c.args.volatile.now.locks.items c.in-Some.place (sym c.in-Some.ensures)).below

pub returns-clause-below : goal.returns-clause-below
returns-clause-below c = (is_place c.args.leaf.now c.args.volatile.now.locks.items c.in-Some.place (sym c.in-Some.ensures)).below

pub returns-clause-turn : goal.returns-clause-turn
returns-clause-turn c =
    let k = c.args.ticket.now in
    let leaf = c.args.leaf.now in
    let ls = c.args.volatile.now.locks.items in
    c.read_verdict-turn.ensures
    ∙ ap (λ l. read_verdict k c.args.op l (option_copied c.standing.result)) (some_is (sym c.at.ensures ∙ (is_place leaf ls c.in-Some.place (sym c.in-Some.ensures)).here))
    ∙ ap (read_verdict k c.args.op (locks_in leaf ls)) c.standing.ensures

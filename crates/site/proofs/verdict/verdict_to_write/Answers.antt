-- Why `verdict_to_write` meets its contract.
use Rattle.std.proofs.Common.{◌≡◌, sym, ap, ◌∙◌, Some}
use Rattle.std.specs.Option.{option_copied}
use Rattle.protocol.specs.Letters.{leaf_of, at_key}
use Rattle.protocol.proofs.Basics.{some_is}
use Rattle.site.specs.Locks.{locks_in, place_in}
use Rattle.site.specs.Verdict.{write_verdict}
use Rattle.site.proofs.TicketStates.{is_place}
use Rattle.site.proofs.verdict.verdict_to_write.Goals as goal

pub at-requires : goal.at-requires
at-requires c =
    let ls = c.args.volatile.now.locks.items in
    (is_place (leaf_of c.args.write.now) ls c.in-Some.place (sym (c.in-Some.ensures ∙ ap (λ g. place_in g ls) c.leaf_of.ensures))).below

pub returns-clause-below : goal.returns-clause-below
returns-clause-below c =
    let ls = c.args.volatile.now.locks.items in
    (is_place (leaf_of c.args.write.now) ls c.in-Some.place (sym (c.in-Some.ensures ∙ ap (λ g. place_in g ls) c.leaf_of.ensures))).below

pub returns-clause-turn : goal.returns-clause-turn
returns-clause-turn c =
    let k = c.args.ticket.now in
    let w = c.args.write.now in
    let ls = c.args.volatile.now.locks.items in
    let there : place_in (leaf_of w) ls ≡ Some c.in-Some.place = sym (c.in-Some.ensures ∙ ap (λ g. place_in g ls) c.leaf_of.ensures) in
    c.in_ok-turn.ensures
    ∙ ap (λ l. write_verdict k c.args.op (leaf_of w) (at_key w) l (option_copied c.standing.result)) (some_is (sym c.at.ensures ∙ (is_place (leaf_of w) ls c.in-Some.place there).here))
    ∙ ap (write_verdict k c.args.op (leaf_of w) (at_key w) (locks_in (leaf_of w) ls)) c.standing.ensures

-- Why `intend` meets its contract.
use Rattle.std.proofs.Common.{arith, refl, sym, ◌∙◌}
use Rattle.site.specs.declared.tickets.TicketState.TheVariants as standing
use Rattle.protocol.specs.Letters.{leaf_of, at_key}
use Rattle.site.specs.Locks.{locks_in}
use Rattle.site.specs.State.{volatile_of}
use Rattle.site.proofs.Acts.{steps_at, refused_steps, writes_steps}
use Rattle.site.proofs.TicketStates.{is_place}
use Rattle.site.proofs.Verdicts.{write_refused, write_goes}
use Rattle.site.proofs.operations.intend.Goals as goal

pub returns-in-Refuse-clause-ok : goal.returns-in-Refuse-clause-ok
returns-in-Refuse-clause-ok c = λ kept fits.
    let p = c.args.volatile.now in
    let k = c.args.intention.ticket in
    let w = c.args.intention.write in
    let r = write_refused kept (volatile_of p) fits k c.args.intention.op (leaf_of w) (at_key w) ((volatile_of p).standing k) c.in-Refuse.reason refl (sym c.in_ok-place.ensures.turn ∙ c.in-Refuse.is) in
    steps_at kept kept (volatile_of p) (volatile_of c.end.new.self) _ _ c.refused.result c.end.ensures.ended
    (refused_steps kept p.standings p.locks.items p.active p.life p.number fits k _ refl c.end.ensures.ordered r.1 _ c.in-Refuse.reason c.refused.result c.refused.ensures r.0)

pub returns-in_ok-write-in-Go-clause-ok : goal.returns-in_ok-write-in-Go-clause-ok
returns-in_ok-write-in-Go-clause-ok c = λ kept fits.
    let p = c.args.volatile.now in
    let k = c.args.intention.ticket in
    let w = c.args.intention.write in
    let r = write_goes kept (volatile_of p) fits k c.args.intention.op (leaf_of w) (at_key w) ((volatile_of p).standing k) refl (sym c.in_ok-place.ensures.turn ∙ c.in-Go.is) in
    let at = is_place (leaf_of w) p.locks.items c.in_ok-place.place c.in_ok-place.ensures.place in
    steps_at kept kept (volatile_of p) (volatile_of c.write.new.self) _ _ _ (c.in_ok-write-in-Go.ensures.ok (standing.Active r.visit) (locks_in (leaf_of w) p.locks.items) r.stands_there at.here)
    (writes_steps kept p.standings p.locks.items p.active p.life p.number fits k r.visit r.stands_there c.args.intention.op (let n = c.if-op-gt-LAST.false in grind (arith)) (leaf_of w) c.in_ok-place.place c.in_ok-place.ensures.place (at_key w) r.free _ r.act_is)

-- Why `give_up` meets its contract.
use Rattle.std.proofs.Common.{None, refl, sym, ◌∙◌}
use Rattle.site.specs.State.{volatile_of}
use Rattle.site.proofs.Acts.{steps_at}
use Rattle.site.proofs.Finals.{visit_ends, given_up}
use Rattle.site.proofs.phases.give_up.Goals as goal

pub returns-then-is_visit-clause-gone : goal.returns-then-is_visit-clause-gone
returns-then-is_visit-clause-gone c = λ kept fits.
    let p = c.args.volatile.now in
    let k = c.args.ticket.now in
    let visit = sym c.is_visit.ensures ∙ c.if-is_visit.true in
    steps_at kept kept (volatile_of p) (volatile_of c.end.new.self) _ _ None c.end.ensures.ended
    (visit_ends kept p.standings p.locks.items p.active p.life p.number fits k kept _ refl c.end.ensures.ordered visit (record { has = λ leaf. refl; content = λ leaf. refl; prepared = λ ticket. refl; life = refl }) _ None
    (given_up kept p.standings p.locks.items p.active p.life p.number fits k visit))

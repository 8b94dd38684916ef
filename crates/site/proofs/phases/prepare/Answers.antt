-- Why `prepare` meets its contract.
use Rattle.std.proofs.Common.{Option, refl, sym, ap, ◌∙◌}
use Rattle.store.specs.declared.reply.Reply.{Reply}
use Rattle.protocol.specs.Site.{Act, Ends}
use Rattle.protocol.specs.Letters.{kept_by, name_of, said_by}
use Rattle.protocol.specs.Local.{local}
use Rattle.site.specs.State.{volatile_of}
use Rattle.site.proofs.Acts.{steps_at}
use Rattle.site.proofs.Finals.{kept_visit, visit_ends, prepare_ends, act_kept}
use Rattle.site.proofs.phases.prepare.Goals as goal

pub returns-in-Ends-clause-ok : goal.returns-in-Ends-clause-ok
returns-in-Ends-clause-ok g c = λ clean sound fits.
    let p = c.args.volatile.now in
    let k = c.args.prepare.ticket in
    let kept = g.S.SiteStore.kept c.args.store.now in
    let answer = c.voted-in-Ends.result in
    let r = prepare_ends kept p.standings p.locks.items p.active p.life p.number fits k (kept_by answer) c.args.txn c.args.prepare.count ((volatile_of p).standing k) c.in-Ends.vote refl (sym c.ballot_at.ensures ∙ c.in-Ends.is) in
    let ends : Option Reply → Act local = λ a. Ends (name_of k) (said_by a) in
    steps_at kept kept (volatile_of p) (volatile_of c.end.new.self) _ _ answer c.end.ensures.ended
    (visit_ends kept p.standings p.locks.items p.active p.life p.number fits k kept _ refl c.end.ensures.ordered r.1 (record { has = λ leaf. refl; content = λ leaf. refl; prepared = λ ticket. refl; life = refl }) _ answer
    (r.0 ∙ ap ends (sym c.voted-in-Ends.ensures)))

pub returns-in-Keeps-clause-ok : goal.returns-in-Keeps-clause-ok
returns-in-Keeps-clause-ok g c = λ clean sound fits.
    let p = c.args.volatile.now in
    let k = c.args.prepare.ticket in
    let kept = g.S.SiteStore.kept c.args.store.now in
    act_kept kept (g.S.SiteStore.kept c.keep.new.store) p.standings p.locks.items p.active p.life p.number fits k (volatile_of c.keep.new.volatile) c.args.txn c.args.prepare.count (sym c.ballot_at.ensures ∙ c.in-Keeps.is) c.keep.result
    (λ visit is. c.keep.ensures.ok clean sound fits visit is)

pub keep-requires : goal.keep-requires
keep-requires g c = kept_visit c.args.prepare.count ((volatile_of c.args.volatile.now).standing c.args.prepare.ticket) (sym c.ballot_at.ensures ∙ c.in-Keeps.is)

-- Why `fetch` meets its contract.
use Rattle.std.proofs.Common.{arith, true, [], ◌∷◌, List, refl, sym, ap, ◌∙◌}
use Rattle.std.specs.Ordering.{is_eq}
use Rattle.terms.specs.declared.value.Value.{Value}
use Rattle.terms.specs.Leaf.{leaf_cmp}
use Rattle.store.specs.Content.{changed, parts}
use Rattle.protocol.specs.Language.{put}
use Rattle.protocol.specs.Letter as protocol
use Rattle.protocol.specs.Site.{Act, Locks}
use Rattle.site.specs.declared.tickets.TicketState.TheVariants as standing
use Rattle.protocol.specs.Letters.{name_of}
use Rattle.protocol.specs.Local.{local}
use Rattle.site.specs.Locks.{locks_in}
use Rattle.site.specs.State.{volatile_of, changes_of}
use Rattle.site.proofs.Acts.{steps_at, refused_steps, reads_steps}
use Rattle.site.proofs.Fetched.{moves}
use Rattle.site.proofs.TicketStates.{is_place}
use Rattle.site.proofs.Verdicts.{read_refused, read_goes, visit_of}
use Rattle.site.proofs.operations.fetch.Goals as goal

pub returns-in-Refuse-clause-ok : goal.returns-in-Refuse-clause-ok
returns-in-Refuse-clause-ok g c = λ clean sound fits.
    let p = c.args.volatile.now in
    let k = c.args.fetch.ticket in
    let kept = g.S.SiteStore.kept c.args.store.now in
    let r = read_refused kept (volatile_of p) fits k c.args.fetch.op c.args.fetch.leaf c.args.fetch.conds ((volatile_of p).standing k) c.in-Refuse.reason refl (sym c.in_ok-place.ensures.turn ∙ c.in-Refuse.is) in
    steps_at kept kept (volatile_of p) (volatile_of c.end.new.self) _ _ c.refused-in-Refuse.result c.end.ensures.ended
    (refused_steps kept p.standings p.locks.items p.active p.life p.number fits k _ refl c.end.ensures.ordered r.1 _ c.in-Refuse.reason c.refused-in-Refuse.result c.refused-in-Refuse.ensures r.0)

pub returns-clause-ok : goal.returns-clause-ok
returns-clause-ok g c = λ clean sound fits.
    let p = c.args.volatile.now in
    let k = c.args.fetch.ticket in
    let op = c.args.fetch.op in
    let leaf = c.args.fetch.leaf in
    let conds = c.args.fetch.conds in
    let kept = g.S.SiteStore.kept c.args.store.now in
    let r = read_goes kept (volatile_of p) fits k op leaf conds ((volatile_of p).standing k) refl (sym c.in_ok-place.ensures.turn ∙ c.in-Go.is) in
    let at = is_place leaf p.locks.items c.in_ok-place.place c.in_ok-place.ensures.place in
    let rows = c.new.ensures ∙ c.in_ok-parts-in-Go.ensures.rows clean sound ∙ ap (λ o. parts conds (changed leaf (changes_of o) (kept.content leaf))) r.stands_there in
    let act : List (List Value) → Act local = λ found. Locks (name_of k) (record (visit_of (volatile_of p) k r.visit) { done = op; shared = put (λ a b. is_eq (leaf_cmp a b)) leaf true (visit_of (volatile_of p) k r.visit).shared }) leaf (protocol.Rows (name_of k) op found ∷ []) in
    moves kept (g.S.SiteStore.kept c.rows.new.store) (volatile_of p) (volatile_of c.read.new.self) _ _ (c.in_ok-parts-in-Go.ensures.reads.same clean sound)
    (steps_at kept kept (volatile_of p) (volatile_of c.read.new.self) _ _ _ (c.in_ok-read-in-Go.ensures.ok (standing.Active r.visit) (locks_in leaf p.locks.items) r.stands_there at.here)
    (reads_steps kept p.standings p.locks.items p.active p.life p.number fits k r.visit r.stands_there op (let n = c.if-op-gt-LAST.false in grind (arith)) leaf c.in_ok-place.place c.in_ok-place.ensures.place _ _ (r.act_is ∙ ap act (sym rows))))

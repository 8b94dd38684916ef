-- Why `abort` meets its contract.
use Rattle.std.proofs.Common.{sym, ◌∙◌}
use Rattle.site.specs.State.{volatile_of}
use Rattle.site.proofs.Acts.{steps_at}
use Rattle.site.proofs.Finals.{row_of, abort_steps}
use Rattle.site.proofs.phases.abort.Goals as goal

pub returns-in-Ok-clause-ok : goal.returns-in-Ok-clause-ok
returns-in-Ok-clause-ok g c = λ clean sound fits.
    let p = c.args.volatile.now in
    let k = c.args.ticket in
    let kept = g.S.SiteStore.kept c.args.store.now in
    let row = row_of kept p.standings p.locks.items p.active p.life p.number fits k (sym c.is_prepared.ensures ∙ c.if-not-is_prepared.false) in
    steps_at kept (g.S.SiteStore.kept c.discard.new.self) (volatile_of p) (volatile_of c.forget.new.self) _ _ _ c.forget.ensures.gone
    (abort_steps kept p.standings p.locks.items p.active p.life p.number fits k (g.S.SiteStore.kept c.discard.new.self) row.0 c.forget.ensures.ordered row.1 (c.in-Ok.ensures.ok clean sound))

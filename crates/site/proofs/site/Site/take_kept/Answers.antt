-- Why `Site::take_kept` meets its contract.
use Rattle.std.proofs.Common.{ap, ◌∙◌, true, Err}
use Rattle.store.specs.declared.letter.Body as bodies
use Rattle.protocol.specs.Letters.{body_of, txn_name}
use Rattle.protocol.specs.Site.{is_within, on_letter, site_after}
use Rattle.site.specs.declared.fault.SiteFault.TheVariants as faults
use Rattle.site.specs.State.{state_of, volatile_of}
use Rattle.site.proofs.Recovered.{fault_is}
use Rattle.site.proofs.PastLimits.{past_by}
use Rattle.site.proofs.site.Site.take_kept.Goals as goal

pub returns-in_err-reply-clause-full : goal.returns-in_err-reply-clause-full
returns-in_err-reply-clause-full g c = λ fits e.
    let kept = g.S.SiteStore.kept c.args.self.now.store in
    let table = volatile_of c.args.self.now.volatile in
    let txn = txn_name c.args.letter.txn in
    let fault = fault_is c.from_residual.result c.in_err-reply.field-0.0 faults.Full c.from_residual.ensures.1 e in
    let beyond = c.obey.ensures.full (c.in_err-reply.was ∙ ap Err fault) in
    ap (λ (said : bodies.Body). is_within (site_after (state_of kept table) (on_letter (state_of kept table) txn true (body_of said)))) c.in-Order.is
    ∙ past_by kept table fits txn c.in-Order.order beyond

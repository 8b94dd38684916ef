use Rattle.std.proofs.Common.{IsSome, refl, sym, ap, ◌∙◌, subst}
use Rattle.std.specs.BTreeMap as tree
use Rattle.store.specs.declared.prepared.Prepared.{Prepared}
use Rattle.store.specs.Content.{Changes}
use Rattle.store.specs.Name.{ticket_cmp}
use Rattle.sqlstore.proofs.Framing.{on_ok}
use Rattle.sqlstore.proofs.Intending.{own_put}
use Rattle.sqlstore.proofs.intended.put_own.Goals as goal

pub returns-in-Some-get_mut-clause-ok : goal.returns-in-Some-get_mut-clause-ok
returns-in-Some-get_mut-clause-ok c =
    let leaves = c.args.leaves.now in
    let row = c.args.row.now in
    let ticket = c.in-Some.ticket in
    let map = c.args.map.now in
    let was = c.in-Some-get_mut.prepared.now in
    let with_changes : Changes → Prepared = λ changes. record { txn = was.txn; changes = changes } in
    let now = with_changes c.put_intent.new.changes in
    let there = c.in-Some-get_mut.ensures.value in
    let written = (c.get_mut.follows.holds now).3 (subst IsSome there refl) in
    on_ok c.put_intent.result (λ put other. written.0 other ∙ own_put leaves row ticket other was now (tree.get ticket_cmp map) c.in-Some.ensures (sym there) (ap with_changes put)) c.put_intent.ensures.ok

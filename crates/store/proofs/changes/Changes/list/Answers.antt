-- Why `Changes::list` meets its contract.
use Rattle.std.proofs.Common.{ap, sym, ◌∙◌}
use Rattle.std.proofs.lemmas.Result.{IfOk-weaker}
use Rattle.std.specs.FinMap as fin
use Rattle.store.specs.Content.{made_by}
use Rattle.store.proofs.Scans.{values_made}
use Rattle.store.proofs.changes.Changes.list.Goals as goal

pub returns : goal.returns
returns c =
    IfOk-weaker c.list_parts.result _ _ (λ parts listed.
    listed ∙ sym (values_made c.self.inside.slots.entries c.list_parts.ensures.ordered c.args.leaf.now) ∙ ap (λ m. fin.values (made_by m c.args.leaf.now)) c.self.view_is) c.list_parts.ensures.parts

-- Why `Changes::of_leaf` meets its contract.
use Rattle.std.proofs.Common.{ap, sym, ◌∙◌}
use Rattle.std.proofs.lemmas.Result.{IfOk-weaker}
use Rattle.store.specs.Slot.{slot_cmp}
use Rattle.store.specs.Orders.{slot_cmp_total, slot_cmp-IsAntisymmetric}
use Rattle.store.specs.Change.{by_key, changes_of}
use Rattle.store.proofs.Views.{sorted_from, sorted_view}
use Rattle.store.proofs.changes.Changes.of_leaf.Goals as goal

pub returns : goal.returns
returns c =
    let leaf = c.args.leaf.now in
    let entries = c.self.inside.slots.entries in
    IfOk-weaker c.list_changes.result _ _ (λ changes listed.
    listed
    ∙ sym (ap (by_key leaf) (sorted_view slot_cmp_total slot_cmp-IsAntisymmetric entries (sorted_from slot_cmp entries c.list_changes.ensures.ordered)))
    ∙ ap (changes_of leaf) c.self.view_is) c.list_changes.ensures.changes

-- Why `Changes::is_within` meets its contract.
use Rattle.std.proofs.Common.{map, ap, sym, ◌∙◌}
use Rattle.std.specs.List.{list_all, list_any}
use Rattle.store.specs.Slot.{slot_cmp}
use Rattle.store.specs.Orders.{slot_cmp_total, slot_cmp-IsAntisymmetric}
use Rattle.store.specs.Content.{is_of, are_within}
use Rattle.store.specs.Entries.{Entries}
use Rattle.store.proofs.Views.{sorted_from, sorted_view}
use Rattle.store.proofs.changes.Changes.is_within.Goals as goal

pub returns : goal.returns
returns c =
    let entries = c.self.inside.slots.entries in
    c.stay_within.ensures.answer
    ∙ sym (ap (λ (es : Entries). list_all (λ slot. list_any (λ leaf. is_of leaf slot) c.args.leaves.now) (map (λ entry. entry.0) es)) (sorted_view slot_cmp_total slot_cmp-IsAntisymmetric entries (sorted_from slot_cmp entries c.stay_within.ensures.ordered)))
    ∙ ap (are_within c.args.leaves.now) c.self.view_is

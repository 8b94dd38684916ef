-- Why `Changes::touches` meets its contract.
use Rattle.std.proofs.Common.{map, ap, sym, ◌∙◌}
use Rattle.std.specs.List.{list_any}
use Rattle.store.specs.Slot.{slot_cmp}
use Rattle.store.specs.Orders.{slot_cmp_total, slot_cmp-IsAntisymmetric}
use Rattle.store.specs.Content.{is_of, touches}
use Rattle.store.specs.Entries.{Entries}
use Rattle.store.proofs.Views.{sorted_from, sorted_view}
use Rattle.store.proofs.changes.Changes.touches.Goals as goal

pub returns : goal.returns
returns c =
    let entries = c.self.inside.slots.entries in
    c.touch.ensures.answer
    ∙ sym (ap (λ (es : Entries). list_any (is_of c.args.leaf.now) (map (λ entry. entry.0) es)) (sorted_view slot_cmp_total slot_cmp-IsAntisymmetric entries (sorted_from slot_cmp entries c.touch.ensures.ordered)))
    ∙ ap (touches c.args.leaf.now) c.self.view_is

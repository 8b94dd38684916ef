-- Why `Changes::slots` meets its contract.
use Rattle.std.proofs.Common.{ap, sym, ◌∙◌}
use Rattle.std.specs.FinMap as fin
use Rattle.store.specs.Slot.{slot_cmp}
use Rattle.store.specs.Orders.{slot_cmp_total, slot_cmp-IsAntisymmetric}
use Rattle.store.proofs.Views.{sorted_from, sorted_view}
use Rattle.store.proofs.changes.Changes.slots.Goals as goal

pub returns-clause-entries : goal.returns-clause-entries
returns-clause-entries c =
    let entries = c.self.inside.slots.entries in
    sym (sorted_view slot_cmp_total slot_cmp-IsAntisymmetric entries (sorted_from slot_cmp entries c.len-count.ensures.ordered))
    ∙ ap fin.entries c.self.view_is

-- Why `Changes::len` meets its contract.
use Rattle.std.proofs.Common.{ap, sym, ◌∙◌}
use Rattle.std.specs.FinMap as fin
use Rattle.store.specs.Slot.{slot_cmp}
use Rattle.store.specs.Orders.{slot_cmp_total, slot_cmp-IsAntisymmetric}
use Rattle.store.proofs.Views.{len_view, sorted_from}
use Rattle.store.proofs.changes.Changes.len.Goals as goal

pub returns-clause-len : goal.returns-clause-len
returns-clause-len c = c.len.ensures.len ∙ sym (len_view slot_cmp_total slot_cmp-IsAntisymmetric c.self.inside.slots.entries (sorted_from slot_cmp c.self.inside.slots.entries c.len.ensures.ordered)) ∙ ap fin.len c.self.view_is

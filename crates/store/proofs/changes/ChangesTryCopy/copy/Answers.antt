-- Why the copy of changes meets its contract.
use Rattle.std.proofs.Common.{None, unwrap_or, ap, ◌∙◌}
use Rattle.store.specs.Orders.{slot_cmp_total, slot_cmp-IsAntisymmetric}
use Rattle.store.proofs.Keyed.{keyed_same}
use Rattle.store.proofs.Views.{same_view}
use Rattle.store.proofs.changes.ChangesTryCopy.copy.Goals as goal

pub invariant_of-result : goal.invariant_of-result
invariant_of-result c = keyed_same c.self.inside.slots.entries c.in_ok-copy_slots.field-0.entries c.self.invariant (λ q. ap (λ found. unwrap_or found None) (c.in_ok-copy_slots.ensures q))

pub returns-clause-equal : goal.returns-clause-equal
returns-clause-equal c = same_view slot_cmp_total slot_cmp-IsAntisymmetric c.in_ok-copy_slots.field-0.entries c.self.inside.slots.entries c.in_ok-copy_slots.ensures ∙ c.self.view_is

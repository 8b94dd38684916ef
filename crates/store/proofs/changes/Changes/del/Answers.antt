-- Why `Changes::del` meets its contract.
use Rattle.std.proofs.Common.{None, ap, ◌∙◌}
use Rattle.std.specs.FinMap as fin
use Rattle.store.specs.Orders.{slot_cmp_total, slot_cmp-IsAntisymmetric}
use Rattle.store.proofs.Keyed.{keyed_more}
use Rattle.store.proofs.Views.{put_view}
use Rattle.store.proofs.changes.Changes.del.Goals as goal

pub invariant_of-self-2 : goal.invariant_of-self-2
invariant_of-self-2 c = keyed_more c.self.inside.slots.entries c.insert.new.self.entries c.args.slot None c.self.invariant (λ p is. cc) c.in_ok-_old.ensures.updates.0

pub returns-clause-ok : goal.returns-clause-ok
returns-clause-ok c =
    put_view slot_cmp_total slot_cmp-IsAntisymmetric c.self.inside.slots.entries c.insert.new.self.entries c.args.slot None c.in_ok-_old.ensures.updates.0
    ∙ ap (λ m. fin.insert m c.args.slot None) c.self.view_is

-- Why `Changes::put` meets its contract.
use Rattle.std.proofs.Common.{Some, unwrap_or, ap, sym, ◌∙◌}
use Rattle.std.specs.FinMap as fin
use Rattle.terms.specs.Row.{key_of}
use Rattle.store.specs.Orders.{slot_cmp_total, slot_cmp-IsAntisymmetric}
use Rattle.store.proofs.Keyed.{keyed_more}
use Rattle.store.proofs.Views.{put_view}
use Rattle.store.proofs.changes.Changes.put.Goals as goal

pub invariant_of-self-2 : goal.invariant_of-self-2
invariant_of-self-2 c = keyed_more c.self.inside.slots.entries c.insert.new.self.entries c.of_part-slot.result (Some c.args.part) c.self.invariant (λ p is. ap key_of (sym (ap (λ o. unwrap_or o p) is)) ∙ sym (ap (λ s. s.key) c.of_part-slot.ensures)) c.in_ok-_old.ensures.updates.0

pub returns-clause-ok : goal.returns-clause-ok
returns-clause-ok c =
    put_view slot_cmp_total slot_cmp-IsAntisymmetric c.self.inside.slots.entries c.insert.new.self.entries c.of_part-slot.result (Some c.args.part) c.in_ok-_old.ensures.updates.0
    ∙ ap (λ m. fin.insert m c.of_part-slot.result (Some c.args.part)) c.self.view_is
    ∙ ap (λ s. fin.insert c.args.self.now s (Some c.args.part)) c.of_part-slot.ensures

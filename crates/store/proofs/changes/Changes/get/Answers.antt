-- Why `Changes::get` meets its contract.
use Rattle.std.proofs.Common.{ap, sym, ◌∙◌}
use Rattle.std.specs.FinMap as fin
use Rattle.store.proofs.Keyed.{get_entry}
use Rattle.store.proofs.changes.Changes.get.Goals as goal

pub returns : goal.returns
returns c = c.get.ensures.value ∙ sym (get_entry c.self.inside.slots.entries c.args.slot.now) ∙ ap (λ m. fin.get m c.args.slot.now) c.self.view_is

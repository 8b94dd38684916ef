-- Why `Parts::changes` meets its contract.
use Rattle.std.proofs.Common.{None, unwrap_or, ap, sym, ◌∙◌}
use Rattle.store.specs.Content.{put_at}
use Rattle.store.specs.Shelves.{all_on}
use Rattle.store.proofs.Flat.{all_parts, put_place}
use Rattle.store.proofs.Keyed.{put_part, keyed_same}
use Rattle.store.proofs.parts.Parts.changes.Goals as goal

pub from_slots-requires : goal.from_slots-requires
from_slots-requires c =
    keyed_same (all_on c.self.inside.shelves.entries) c.in_ok-slots.slots.entries c.self.invariant (λ q.
    ap (λ o. unwrap_or o None) (c.in_ok-slots.ensures.copies q) ∙ sym (all_parts c.self.inside.shelves.entries c.copy_all.ensures.ordered q))

pub returns-clause-same : goal.returns-clause-same
returns-clause-same c = λ slot.
    ap (λ m. put_at m slot) c.from_slots.ensures ∙ put_part c.in_ok-slots.slots.entries slot ∙ ap (λ o. unwrap_or o None) (c.in_ok-slots.ensures.copies slot)
    ∙ sym (put_place c.self.inside.shelves.entries c.copy_all.ensures.ordered slot) ∙ ap (λ m. put_at m slot) c.self.view_is

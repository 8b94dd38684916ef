-- Why `Parts::made_by` meets its contract.
use Rattle.std.proofs.Common.{List, Option, None, unwrap_or, ap, ◌∙◌}
use Rattle.std.specs.FinMap as fin
use Rattle.terms.specs.declared.value.Value.{Value}
use Rattle.store.specs.Content.{put_at}
use Rattle.store.specs.Slot.{slot_cmp}
use Rattle.store.proofs.Packed.{put_packed, keyed_packed}
use Rattle.store.proofs.parts.Parts.made_by.Goals as goal

pub invariant_of-result : goal.invariant_of-result
invariant_of-result c =
    keyed_packed c.parts-2.inside.shelves.entries c.in_ok-pack.field-0.entries c.in_ok-pack.ensures.ordered c.in_ok-pack.ensures.packed_ordered c.in_ok-pack.ensures.places c.parts-2.invariant

pub returns-clause-parts : goal.returns-clause-parts
returns-clause-parts c = λ slot.
    put_packed c.parts-2.inside.shelves.entries c.in_ok-pack.field-0.entries c.in_ok-pack.ensures.ordered c.in_ok-pack.ensures.packed_ordered c.in_ok-pack.ensures.places slot
    ∙ ap (λ m. put_at m slot) c.parts-2.view_is
    ∙ c.make.ensures.over slot
    ∙ ap (unwrap_or (fin.get c.args.changes slot)) (c.make_rooms.ensures.same slot ∙ ap (λ m. put_at m slot) c.new-parts.ensures.empty ∙ ap (λ (o : Option (Option (List Value))). unwrap_or o None) (fin.get-empty slot_cmp slot))

pub returns-clause-keyed : goal.returns-clause-keyed
returns-clause-keyed c =
    keyed_packed c.parts-2.inside.shelves.entries c.in_ok-pack.field-0.entries c.in_ok-pack.ensures.ordered c.in_ok-pack.ensures.packed_ordered c.in_ok-pack.ensures.places c.parts-2.invariant

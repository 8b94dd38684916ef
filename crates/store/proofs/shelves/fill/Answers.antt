-- Why `shelves::fill` meets its contract.
use Rattle.std.proofs.Common.{◌∙◌}
use Rattle.store.specs.Shelves.{place_at, part_on}
use Rattle.store.proofs.Rooms.{filled_more, rooms_left}
use Rattle.store.proofs.Shelving.{filled_parts, filled_others}
use Rattle.store.proofs.shelves.fill.Goals as goal

pub loop-slot-preserved : goal.loop-slot-preserved
loop-slot-preserved c =
    let ensured = rw c.in-Some.is at c.pop_first.ensures in
    let before = c.loop-slot.shelves.entries in
    let after = c.fill_slot.new.shelves.entries in (
      λ q. filled_more c.loop-slot.rest.entries c.pop_first.new.self.entries (part_on before) (part_on after) c.in-Some.slot c.in-Some.part ensured.updates.0 ensured.value (filled_parts before after c.in-Some.slot c.in-Some.part c.fill_slot.ensures.places) q ∙ c.loop-slot.invariant.0 q,
      rooms_left c.loop-slot.rest.entries c.pop_first.new.self.entries (place_at before) (place_at after) c.in-Some.slot c.loop-slot.invariant.1 ensured.updates.0 (filled_others before after c.in-Some.slot c.in-Some.part c.fill_slot.ensures.places),
      c.fill_slot.ensures.ordered,
    )

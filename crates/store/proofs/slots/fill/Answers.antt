-- Why `slots::fill` meets its contract.
use Rattle.std.proofs.Common.{◌∙◌}
use Rattle.store.specs.Entries.{entry_at, part_at}
use Rattle.store.proofs.Rooms.{filled_more, rooms_left}
use Rattle.store.proofs.slots.fill.Goals as goal

pub loop-slot-preserved : goal.loop-slot-preserved
loop-slot-preserved c =
    let ensured = rw c.in-Some.is at c.pop_first.ensures in (
      λ q. filled_more c.loop-slot.rest.entries c.pop_first.new.self.entries (part_at c.loop-slot.slots.entries) (part_at c.fill_slot.new.slots.entries) c.in-Some.slot c.in-Some.part ensured.updates.0 ensured.value c.fill_slot.ensures.parts q ∙ c.loop-slot.invariant.0 q,
      rooms_left c.loop-slot.rest.entries c.pop_first.new.self.entries (entry_at c.loop-slot.slots.entries) (entry_at c.fill_slot.new.slots.entries) c.in-Some.slot c.loop-slot.invariant.1 ensured.updates.0 c.fill_slot.ensures.rooms,
    )

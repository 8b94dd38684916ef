-- Why `slots::make_room` meets its contract.
use Rattle.std.proofs.Common.{◌≡◌, false, is_some, rules}
use Rattle.store.specs.Entries.{entry_at}
use Rattle.store.proofs.Rooms.{room_parts, room_grows}
use Rattle.store.proofs.slots.make_room.Goals as goal

pub returns-in_ok-_old-clause-parts : goal.returns-in_ok-_old-clause-parts
returns-in_ok-_old-clause-parts c =
    let absent : is_some (entry_at c.args.slots.now.entries c.in_ok-slot.slot) ≡ false = rw c.in_ok-slot.ensures (search rules) in
    room_parts c.args.slots.now.entries c.insert.new.self.entries c.in_ok-slot.slot absent c.in_ok-_old.ensures.updates.0

pub returns-in_ok-_old-clause-grows : goal.returns-in_ok-_old-clause-grows
returns-in_ok-_old-clause-grows c = room_grows c.args.slots.now.entries c.insert.new.self.entries c.in_ok-slot.slot c.in_ok-_old.ensures.updates.0

-- Why `slots::copy_slots` meets its contract.
use Rattle.std.proofs.Common.{rules}
use Rattle.std.proofs.lemmas.Map.Iter.{btree_map_turn, rest_more}
use Rattle.std.specs.Map.Iter.{deref_pair}
use Rattle.store.specs.Orders.{slot_cmp_total}
use Rattle.store.proofs.Rooms.{copied_more}
use Rattle.store.proofs.slots.copy_slots.Goals as goal

pub loop-slot-preserved : goal.loop-slot-preserved
loop-slot-preserved c =
    let turn = btree_map_turn deref_pair c.loop-slot.yielded c.into_iter-slot-iterator.result c.loop-slot.slot-iterator c.next.new.self c.next.result (c.in-Some.slot, c.in-Some.part) c.loop-slot.yielded_by c.in-Some.is c.next.ensures.steps slot_cmp_total c.args.slots.now (search rules) (search rules) in
    let step = rest_more deref_pair c.loop-slot.slot-iterator c.next.new.self c.next.result (c.in-Some.slot, c.in-Some.part) c.in-Some.is c.next.ensures.steps in
    copied_more c.args.slots.now.entries c.loop-slot.slot-iterator c.next.new.self c.loop-slot.copies.entries c.copy_slot.new.copies.entries c.in-Some.slot.now c.in-Some.part.now c.loop-slot.invariant step turn.1 c.in_ok-copy_slot.ensures

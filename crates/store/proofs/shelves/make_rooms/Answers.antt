-- Why `shelves::make_rooms` meets its contract.
use Rattle.std.proofs.Common.{◌∙◌, rules}
use Rattle.std.proofs.lemmas.Map.Iter.{btree_map_turn, rest_more}
use Rattle.std.specs.Map.Iter.{deref_pair}
use Rattle.store.specs.Orders.{slot_cmp_total}
use Rattle.store.specs.Shelves.{place_at}
use Rattle.store.proofs.Rooms.{rooms_more}
use Rattle.store.proofs.shelves.make_rooms.Goals as goal

pub loop-slot-preserved : goal.loop-slot-preserved
loop-slot-preserved c =
    let turn = btree_map_turn deref_pair c.loop-slot.yielded c.into_iter-slot-iterator.result c.loop-slot.slot-iterator c.next.new.self c.next.result (c.in-Some.slot, c.in-Some.part) c.loop-slot.yielded_by c.in-Some.is c.next.ensures.steps slot_cmp_total c.args.changes.now (search rules) (search rules) in
    let step = rest_more deref_pair c.loop-slot.slot-iterator c.next.new.self c.next.result (c.in-Some.slot, c.in-Some.part) c.in-Some.is c.next.ensures.steps in (
      λ q. c.make_room.ensures.parts q ∙ c.loop-slot.invariant.0 q,
      rooms_more c.args.changes.now.entries c.loop-slot.slot-iterator c.next.new.self (place_at c.loop-slot.shelves.entries) (place_at c.make_room.new.shelves.entries) c.in-Some.slot.now c.in-Some.part.now c.loop-slot.invariant.1 step turn.1 c.make_room.ensures.grows c.in_ok-make_room.ensures.ok,
      c.make_room.ensures.ordered,
    )

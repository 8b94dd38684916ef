-- Why `shelves::pack` meets its contract.
use Rattle.std.proofs.Common.{◌≡◌, None, rules}
use Rattle.std.proofs.lemmas.Map.Iter.{btree_map_turn, rest_more}
use Rattle.std.specs.BTreeMap.{is_at}
use Rattle.std.specs.Map.{lookup}
use Rattle.std.specs.Map.Iter.{deref_pair}
use Rattle.terms.specs.Leaf.{leaf_cmp}
use Rattle.store.specs.declared.slot.Slot.{Slot}
use Rattle.store.specs.Orders.{leaf_cmp_total}
use Rattle.store.specs.Shelves.{place_at}
use Rattle.store.proofs.Packed.{leaf_packed}
use Rattle.store.proofs.shelves.pack.Goals as goal
use Rattle.store.proofs.shelves.pack.Goals.{In_ok-_none}

packed_more : (c : In_ok-_none) → (q : Slot) → lookup (is_at (leaf_cmp q.leaf)) c.next.new.self ≡ None → place_at c.insert.new.self.entries q ≡ place_at c.args.shelves.now.entries q
packed_more c =
    let turn = btree_map_turn deref_pair c.loop-leaf.yielded c.into_iter-leaf-iterator.result c.loop-leaf.leaf-iterator c.next.new.self c.next.result (c.in-Some.leaf, c.in-Some.shelf) c.loop-leaf.yielded_by c.in-Some.is c.next.ensures.steps leaf_cmp_total c.args.shelves.now (search rules) (search rules) in
    let step = rest_more deref_pair c.loop-leaf.leaf-iterator c.next.new.self c.next.result (c.in-Some.leaf, c.in-Some.shelf) c.in-Some.is c.next.ensures.steps in
    let updates = rw c.in_ok-copy.ensures at c.in_ok-_none.ensures.updates in
    leaf_packed c.args.shelves.now.entries c.loop-leaf.leaf-iterator c.next.new.self c.loop-leaf.packed.entries c.insert.new.self.entries c.in-Some.leaf.now c.in-Some.shelf.now c.in_ok-pack_shelf.field-0 step turn.1 c.in_ok-pack_shelf.ensures updates.0 c.loop-leaf.invariant

pub loop-leaf-preserved : goal.loop-leaf-preserved
loop-leaf-preserved c = packed_more (goal.at.loop-leaf-preserved c).In_ok-_none

pub loop-leaf-preserved-in_ok-_none : goal.loop-leaf-preserved-in_ok-_none
loop-leaf-preserved-in_ok-_none c = packed_more (goal.at.loop-leaf-preserved-in_ok-_none c).In_ok-_none

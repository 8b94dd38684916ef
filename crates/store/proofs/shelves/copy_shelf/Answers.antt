-- Why `shelves::copy_shelf` meets its contract.
use Rattle.std.proofs.Common.{rules}
use Rattle.std.proofs.lemmas.Map.Iter.{btree_map_turn, rest_more}
use Rattle.std.specs.Cmp.{int_cmp_total}
use Rattle.std.specs.Map.Iter.{deref_pair}
use Rattle.store.proofs.Copied.{key_copied, others_copied}
use Rattle.store.proofs.shelves.copy_shelf.Goals as goal

pub loop-key-preserved : goal.loop-key-preserved
loop-key-preserved c =
    let turn = btree_map_turn deref_pair c.loop-key.yielded c.into_iter-key-iterator.result c.loop-key.key-iterator c.next.new.self c.next.result (c.in-Some.key, c.in-Some.part) c.loop-key.yielded_by c.in-Some.is c.next.ensures.steps int_cmp_total c.args.shelf.now (search rules) (search rules) in
    let step = rest_more deref_pair c.loop-key.key-iterator c.next.new.self c.next.result (c.in-Some.key, c.in-Some.part) c.in-Some.is c.next.ensures.steps in
    let start = c.args.copies.now.entries in
    let copies = c.loop-key.copies.entries in
    let after = c.copy_key.new.copies.entries in (
      key_copied c.args.leaf.now c.in-Some.key.now c.in-Some.part.now start copies after c.in_ok-copy_key.ensures c.args.shelf.now.entries c.loop-key.key-iterator c.next.new.self c.loop-key.invariant.0 step turn.1,
      others_copied c.args.leaf.now c.in-Some.key.now c.in-Some.part.now start copies after c.in_ok-copy_key.ensures c.loop-key.invariant.1,
    )

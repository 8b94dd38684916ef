-- Why `shelves::copy_all` meets its contract.
use Rattle.std.proofs.Common.{rules, subst}
use Rattle.std.proofs.lemmas.Map.Iter.{btree_map_turn, rest_more}
use Rattle.std.proofs.lemmas.Map.Keys.{sorted_tail}
use Rattle.std.specs.List.Sorted.{IsStrictlySortedBy}
use Rattle.std.specs.Map.{keys_of}
use Rattle.std.specs.Map.Iter.{deref_pair}
use Rattle.terms.specs.Leaf.{leaf_cmp}
use Rattle.store.specs.Orders.{leaf_cmp_total}
use Rattle.store.proofs.Copied.{leaf_copied, leaf_alone}
use Rattle.store.proofs.shelves.copy_all.Goals as goal

pub loop-leaf-preserved : goal.loop-leaf-preserved
loop-leaf-preserved c =
    let turn = btree_map_turn deref_pair c.loop-leaf.yielded c.into_iter-leaf-iterator.result c.loop-leaf.leaf-iterator c.next.new.self c.next.result (c.in-Some.leaf, c.in-Some.shelf) c.loop-leaf.yielded_by c.in-Some.is c.next.ensures.steps leaf_cmp_total c.args.shelves.now (search rules) (search rules) in
    let step = rest_more deref_pair c.loop-leaf.leaf-iterator c.next.new.self c.next.result (c.in-Some.leaf, c.in-Some.shelf) c.in-Some.is c.next.ensures.steps in
    let rest = c.loop-leaf.leaf-iterator in
    let new = c.next.new.self in
    let copies = c.loop-leaf.copies.entries in
    let after = c.copy_shelf.new.copies.entries in
    let leaf = c.in-Some.leaf.now in
    let sorted = c.loop-leaf.invariant.2 in (
      leaf_copied c.args.shelves.now.entries rest new copies after leaf c.in-Some.shelf.now step sorted c.in_ok-copy_shelf.ensures.others c.loop-leaf.invariant.0 c.loop-leaf.invariant.1 turn.1 c.in_ok-copy_shelf.ensures.here,
      leaf_alone c.args.shelves.now.entries rest new copies after leaf c.in-Some.shelf.now step sorted c.in_ok-copy_shelf.ensures.others c.loop-leaf.invariant.1,
      sorted_tail leaf_cmp leaf (keys_of new) (subst (λ es. IsStrictlySortedBy leaf_cmp (keys_of es)) step sorted),
    )

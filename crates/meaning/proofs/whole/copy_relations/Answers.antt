-- Why `whole::copy_relations` meets its contract.
use Rattle.std.proofs.Common.{ap, rules}
use Rattle.std.proofs.lemmas.Map.Iter.{btree_map_turn, rest_more, rest_all}
use Rattle.std.specs.Cmp.Lexicographic.{nat_list_cmp_total}
use Rattle.std.specs.Map.Iter.{deref_pair}
use Rattle.meaning.proofs.Maps.{rows_at, copied_more, copied_all}
use Rattle.meaning.proofs.whole.copy_relations.Goals as goal

pub loop-name-preserved : goal.loop-name-preserved
loop-name-preserved c =
    let turn = btree_map_turn deref_pair c.loop-name.yielded c.into_iter-name-iterator.result c.loop-name.name-iterator c.next.new.self c.next.result (c.in-Some.name, c.in-Some.relation) c.loop-name.yielded_by c.in-Some.is c.next.ensures.steps nat_list_cmp_total c.args.relations.now (search rules) (search rules) in
    let step = rest_more deref_pair c.loop-name.name-iterator c.next.new.self c.next.result (c.in-Some.name, c.in-Some.relation) c.in-Some.is c.next.ensures.steps in
    copied_more c.args.relations.now.entries c.loop-name.name-iterator c.next.new.self c.loop-name.copies.entries c.insert.new.self.entries _ c.in-Some.name.now _ c.in-Some.relation.now c.loop-name.invariant step c.in_ok-copy.ensures c.in_ok-copy-2.ensures turn.1 c.in_ok-insert.ensures.updates.0

pub loop-name-preserved-in_ok-insert : goal.loop-name-preserved-in_ok-insert
loop-name-preserved-in_ok-insert c =
    let turn = btree_map_turn deref_pair c.loop-name.yielded c.into_iter-name-iterator.result c.loop-name.name-iterator c.next.new.self c.next.result (c.in-Some.name, c.in-Some.relation) c.loop-name.yielded_by c.in-Some.is c.next.ensures.steps nat_list_cmp_total c.args.relations.now (search rules) (search rules) in
    let step = rest_more deref_pair c.loop-name.name-iterator c.next.new.self c.next.result (c.in-Some.name, c.in-Some.relation) c.in-Some.is c.next.ensures.steps in
    copied_more c.args.relations.now.entries c.loop-name.name-iterator c.next.new.self c.loop-name.copies.entries c.insert.new.self.entries _ c.in-Some.name.now _ c.in-Some.relation.now c.loop-name.invariant step c.in_ok-copy.ensures c.in_ok-copy-2.ensures turn.1 c.in_ok-insert.ensures.updates.0

pub returns : goal.returns
returns c =
    let all_left = rest_all deref_pair c.loop-name.name-iterator c.next.new.self c.next.result c.in-None.is c.next.ensures.steps in
    copied_all c.loop-name.copies.entries c.args.relations.now.entries (λ q. c.loop-name.invariant q (ap (λ entries. rows_at entries q) all_left))

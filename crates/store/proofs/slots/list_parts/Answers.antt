-- Why `slots::list_parts` meets its contract.
use Rattle.std.proofs.Common.{◌≡◌, ◌++◌, ap, sym, ◌∙◌, append-nil, rules}
use Rattle.std.proofs.lemmas.Map.Iter.{rest_more, rest_all}
use Rattle.std.specs.Map.Iter.{deref_pair}
use Rattle.store.specs.Entries.{parts_of}
use Rattle.store.proofs.Near.{listed_more, same_parts}
use Rattle.store.proofs.slots.list_parts.Goals as goal

pub loop-slot-preserved : goal.loop-slot-preserved
loop-slot-preserved c =
    let step = rest_more deref_pair c.loop-slot.slot-iterator c.next.new.self c.next.result (c.in-Some.slot, c.in-Some.part) c.in-Some.is c.next.ensures.steps in
    listed_more c.args.leaf.now _ c.loop-slot.slot-iterator c.next.new.self c.in-Some.slot.now c.in-Some.part.now c.loop-slot.parts.items c.push_part.new.parts.items c.loop-slot.invariant step c.in_ok-push_part.ensures

pub returns-clause-parts : goal.returns-clause-parts
returns-clause-parts c =
    let leaf = c.args.leaf.now in
    let all_left = rest_all deref_pair c.loop-slot.slot-iterator c.next.new.self c.next.result c.in-None.is c.next.ensures.steps in
    let start : c.into_iter-slot-iterator.result ≡ c.near-slot-items.result = search rules in
    sym (append-nil c.loop-slot.parts.items)
    ∙ ap (λ es. c.loop-slot.parts.items ++ parts_of leaf es) (sym all_left)
    ∙ c.loop-slot.invariant
    ∙ ap (parts_of leaf) start
    ∙ same_parts leaf c.near-slot-items.result c.args.slots.now.entries c.near-slot-items.ensures.near

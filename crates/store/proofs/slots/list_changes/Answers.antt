-- Why `slots::list_changes` meets its contract.
use Rattle.std.proofs.Common.{◌≡◌, ◌++◌, List, Option, map, ap, sym, ◌∙◌, append-nil, rules}
use Rattle.std.proofs.lemmas.Map.Iter.{rest_more, rest_all}
use Rattle.std.specs.Map.Iter.{deref_pair}
use Rattle.terms.specs.declared.value.Value.{Value}
use Rattle.store.specs.declared.slot.Slot.{Slot}
use Rattle.store.specs.Change.{by_key, change_of}
use Rattle.store.proofs.Near.{changes_more}
use Rattle.store.proofs.slots.list_changes.Goals as goal

pub loop-slot-preserved : goal.loop-slot-preserved
loop-slot-preserved c =
    let step = rest_more deref_pair c.loop-slot.slot-iterator c.next.new.self c.next.result (c.in-Some.slot, c.in-Some.part) c.in-Some.is c.next.ensures.steps in
    changes_more c.args.leaf.now _ c.loop-slot.slot-iterator c.next.new.self c.in-Some.slot.now c.in-Some.part.now (map change_of c.loop-slot.changes.items) (map change_of c.push_change.new.changes.items) c.loop-slot.invariant step c.in_ok-push_change.ensures

pub returns-clause-changes : goal.returns-clause-changes
returns-clause-changes c =
    let leaf = c.args.leaf.now in
    let listed = map change_of c.loop-slot.changes.items in
    let all_left = rest_all deref_pair c.loop-slot.slot-iterator c.next.new.self c.next.result c.in-None.is c.next.ensures.steps in
    let start : c.into_iter-slot-iterator.result ≡ c.near-slot-items.result = search rules in
    sym (append-nil listed)
    ∙ ap (λ es. listed ++ by_key leaf es) (sym all_left)
    ∙ c.loop-slot.invariant
    ∙ ap (by_key leaf) start
    ∙ ap (map (λ (entry : Slot × Option (List Value)). (entry.0.key, entry.1))) c.near-slot-items.ensures.near

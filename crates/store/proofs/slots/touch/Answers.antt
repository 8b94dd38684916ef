-- Why `slots::touch` meets its contract.
use Rattle.std.proofs.Common.{◌≡◌, true, ap, sym, ◌∙◌, rules}
use Rattle.std.proofs.lemmas.Map.Iter.{rest_more, rest_all}
use Rattle.std.specs.List.{list_any}
use Rattle.std.specs.Map.{keys_of}
use Rattle.std.specs.Map.Iter.{deref_pair}
use Rattle.store.specs.Content.{is_of}
use Rattle.store.specs.Entries.{Entries}
use Rattle.store.proofs.Near.{same_touched, touched_first}
use Rattle.store.proofs.slots.touch.Goals as goal

pub returns-then-is_of-clause-answer : goal.returns-then-is_of-clause-answer
returns-then-is_of-clause-answer c =
    let leaf = c.args.leaf.now in
    let step = rest_more deref_pair c.loop-slot.slot-iterator c.next.new.self c.next.result (c.in-Some.slot, c.in-Some._part) c.in-Some.is c.next.ensures.steps in
    let hit : is_of leaf c.in-Some.slot.now ≡ true = search rules in
    let start : c.into_iter-slot-iterator.result ≡ c.near-slot-items.result = search rules in
    sym (touched_first leaf (c.in-Some.slot.now, c.in-Some._part.now) c.next.new.self hit)
    ∙ ap (λ (es : Entries). list_any (is_of leaf) (keys_of es)) (sym step)
    ∙ c.loop-slot.invariant
    ∙ ap (λ (es : Entries). list_any (is_of leaf) (keys_of es)) start
    ∙ same_touched leaf c.near-slot-items.result c.args.slots.now.entries c.near-slot-items.ensures.near

pub returns-clause-answer : goal.returns-clause-answer
returns-clause-answer c =
    let leaf = c.args.leaf.now in
    let all_left = rest_all deref_pair c.loop-slot.slot-iterator c.next.new.self c.next.result c.in-None.is c.next.ensures.steps in
    let start : c.into_iter-slot-iterator.result ≡ c.near-slot-items.result = search rules in
    ap (λ (es : Entries). list_any (is_of leaf) (keys_of es)) (sym all_left)
    ∙ c.loop-slot.invariant
    ∙ ap (λ (es : Entries). list_any (is_of leaf) (keys_of es)) start
    ∙ same_touched leaf c.near-slot-items.result c.args.slots.now.entries c.near-slot-items.ensures.near

-- Why `Parts::make_rooms` meets its contract.
use Rattle.std.proofs.Common.{is_some, ap, sym, ◌∙◌}
use Rattle.std.proofs.lemmas.Result.{on_ok_weaker}
use Rattle.std.specs.FinMap as fin
use Rattle.store.specs.Content.{put_at}
use Rattle.store.specs.Shelves.{all_on}
use Rattle.store.proofs.Flat.{all_parts, get_place, put_place}
use Rattle.store.proofs.Keyed.{get_entry, keyed_same}
use Rattle.store.proofs.parts.Parts.make_rooms.Goals as goal

pub invariant_of-self : goal.invariant_of-self
invariant_of-self c =
    keyed_same (all_on c.self.inside.shelves.entries) (all_on c.make_rooms.new.shelves.entries) c.self.invariant (λ q.
    all_parts c.make_rooms.new.shelves.entries c.make_rooms.ensures.ordered q ∙ c.make_rooms.ensures.parts q ∙ sym (all_parts c.self.inside.shelves.entries c.make_rooms.ensures.was_ordered q))

pub returns-clause-same : goal.returns-clause-same
returns-clause-same c = λ slot.
    put_place c.make_rooms.new.shelves.entries c.make_rooms.ensures.ordered slot ∙ c.make_rooms.ensures.parts slot
    ∙ sym (put_place c.self.inside.shelves.entries c.make_rooms.ensures.was_ordered slot) ∙ ap (λ m. put_at m slot) c.self.view_is

pub returns-clause-ok : goal.returns-clause-ok
returns-clause-ok c =
    on_ok_weaker c.make_rooms.result (λ rooms slot part is.
    ap is_some (get_place c.make_rooms.new.shelves.entries c.make_rooms.ensures.ordered slot)
    ∙ rooms slot part (sym (get_entry c.slots.result.now.entries slot) ∙ ap (λ m. fin.get m slot) c.slots.ensures.slots ∙ is)) c.make_rooms.ensures.ok

pub returns-clause-keyed : goal.returns-clause-keyed
returns-clause-keyed c =
    keyed_same (all_on c.self.inside.shelves.entries) (all_on c.make_rooms.new.shelves.entries) c.self.invariant (λ q.
    all_parts c.make_rooms.new.shelves.entries c.make_rooms.ensures.ordered q ∙ c.make_rooms.ensures.parts q ∙ sym (all_parts c.self.inside.shelves.entries c.make_rooms.ensures.was_ordered q))

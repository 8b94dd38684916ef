-- Why `Changes::make_rooms` meets its contract.
use Rattle.std.proofs.Common.{is_some, ap, sym, ◌∙◌}
use Rattle.std.proofs.lemmas.Result.{on_ok_weaker}
use Rattle.std.specs.FinMap as fin
use Rattle.store.specs.Content.{put_at}
use Rattle.store.proofs.Keyed.{get_entry, put_part, keyed_same}
use Rattle.store.proofs.changes.Changes.make_rooms.Goals as goal

pub invariant_of-self : goal.invariant_of-self
invariant_of-self c = keyed_same c.self.inside.slots.entries c.make_rooms.new.slots.entries c.self.invariant c.make_rooms.ensures.parts

pub returns-clause-same : goal.returns-clause-same
returns-clause-same c = λ slot.
    put_part c.make_rooms.new.slots.entries slot ∙ c.make_rooms.ensures.parts slot
    ∙ sym (put_part c.self.inside.slots.entries slot) ∙ ap (λ m. put_at m slot) c.self.view_is

pub returns-clause-ok : goal.returns-clause-ok
returns-clause-ok c =
    on_ok_weaker c.make_rooms.result (λ rooms slot part is.
    ap is_some (get_entry c.make_rooms.new.slots.entries slot)
    ∙ rooms slot part (sym (get_entry c.changes.inside.slots.entries slot) ∙ ap (λ m. fin.get m slot) c.changes.view_is ∙ is)) c.make_rooms.ensures.ok

pub returns-clause-keyed : goal.returns-clause-keyed
returns-clause-keyed c = keyed_same c.self.inside.slots.entries c.make_rooms.new.slots.entries c.self.invariant c.make_rooms.ensures.parts

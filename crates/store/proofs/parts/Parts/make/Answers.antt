-- Why `Parts::make` meets its contract.
use Rattle.std.proofs.Common.{is_some, unwrap_or, ap, sym, ◌∙◌, subst}
use Rattle.std.specs.FinMap as fin
use Rattle.store.specs.Content.{AreKeyed, put_at}
use Rattle.store.specs.Entries.{entry_at}
use Rattle.store.specs.Shelves.{all_on, part_on}
use Rattle.store.proofs.Flat.{all_parts, get_place, put_place}
use Rattle.store.proofs.Keyed.{get_entry, keyed_over}
use Rattle.store.proofs.parts.Parts.make.Goals as goal

pub fill-requires : goal.fill-requires
fill-requires c = λ slot part is.
    ap is_some (sym (get_place c.self.inside.shelves.entries c.len-count.ensures.ordered slot) ∙ ap (λ m. fin.get m slot) c.self.view_is)
    ∙ c.requires slot part (ap (λ m. fin.get m slot) (sym c.into_slots.ensures.slots) ∙ get_entry c.into_slots.result.entries slot ∙ is)

pub invariant_of-self : goal.invariant_of-self
invariant_of-self c =
    keyed_over (all_on c.self.inside.shelves.entries) c.into_slots.result.entries (all_on c.fill.new.shelves.entries) c.self.invariant (subst AreKeyed (sym c.into_slots.ensures.slots) c.into_slots.ensures.keyed) (λ q.
    all_parts c.fill.new.shelves.entries c.fill.ensures.ordered q ∙ c.fill.ensures.parts q
    ∙ ap (unwrap_or (entry_at c.into_slots.result.entries q)) (sym (all_parts c.self.inside.shelves.entries c.fill.ensures.was_ordered q)))

pub returns-clause-over : goal.returns-clause-over
returns-clause-over c = λ slot.
    put_place c.fill.new.shelves.entries c.fill.ensures.ordered slot ∙ c.fill.ensures.parts slot
    ∙ ap (λ found. unwrap_or found (part_on c.self.inside.shelves.entries slot)) (sym (get_entry c.into_slots.result.entries slot) ∙ ap (λ m. fin.get m slot) c.into_slots.ensures.slots)
    ∙ ap (unwrap_or (fin.get c.args.changes slot)) (sym (put_place c.self.inside.shelves.entries c.fill.ensures.was_ordered slot) ∙ ap (λ m. put_at m slot) c.self.view_is)

pub returns-clause-keyed : goal.returns-clause-keyed
returns-clause-keyed c =
    keyed_over (all_on c.self.inside.shelves.entries) c.into_slots.result.entries (all_on c.fill.new.shelves.entries) c.self.invariant (subst AreKeyed (sym c.into_slots.ensures.slots) c.into_slots.ensures.keyed) (λ q.
    all_parts c.fill.new.shelves.entries c.fill.ensures.ordered q ∙ c.fill.ensures.parts q
    ∙ ap (unwrap_or (entry_at c.into_slots.result.entries q)) (sym (all_parts c.self.inside.shelves.entries c.fill.ensures.was_ordered q)))

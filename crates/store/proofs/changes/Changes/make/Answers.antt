-- Why `Changes::make` meets its contract.
use Rattle.std.proofs.Common.{is_some, unwrap_or, ap, sym, ◌∙◌}
use Rattle.std.specs.FinMap as fin
use Rattle.store.specs.Content.{put_at}
use Rattle.store.specs.Entries.{part_at}
use Rattle.store.proofs.Keyed.{get_entry, put_part, keyed_over}
use Rattle.store.proofs.changes.Changes.make.Goals as goal

pub fill-requires : goal.fill-requires
fill-requires c = λ slot part is.
    ap is_some (sym (get_entry c.self.inside.slots.entries slot) ∙ ap (λ m. fin.get m slot) c.self.view_is)
    ∙ c.requires slot part (ap (λ m. fin.get m slot) (sym c.changes.view_is) ∙ get_entry c.changes.inside.slots.entries slot ∙ is)

pub invariant_of-self : goal.invariant_of-self
invariant_of-self c = keyed_over c.self.inside.slots.entries c.changes.inside.slots.entries c.fill.new.slots.entries c.self.invariant c.changes.invariant c.fill.ensures

pub returns-clause-over : goal.returns-clause-over
returns-clause-over c = λ slot.
    put_part c.fill.new.slots.entries slot ∙ c.fill.ensures slot
    ∙ ap (λ found. unwrap_or found (part_at c.self.inside.slots.entries slot)) (sym (get_entry c.changes.inside.slots.entries slot) ∙ ap (λ m. fin.get m slot) c.changes.view_is)
    ∙ ap (unwrap_or (fin.get c.args.changes slot)) (sym (put_part c.self.inside.slots.entries slot) ∙ ap (λ m. put_at m slot) c.self.view_is)

pub returns-clause-keyed : goal.returns-clause-keyed
returns-clause-keyed c = keyed_over c.self.inside.slots.entries c.changes.inside.slots.entries c.fill.new.slots.entries c.self.invariant c.changes.invariant c.fill.ensures

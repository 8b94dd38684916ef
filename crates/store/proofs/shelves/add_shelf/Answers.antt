-- Why `shelves::add_shelf` meets its contract.
use Rattle.std.proofs.Common.{None, unwrap_or, is_some, ap, sym, ◌∙◌}
use Rattle.store.specs.Shelves.{Shelf, entries_on, key_at}
use Rattle.store.proofs.Shelving.{shelf_keeps, shelf_grows}
use Rattle.store.proofs.shelves.add_shelf.Goals as goal

pub returns-clause-parts : goal.returns-clause-parts
returns-clause-parts c =
    let updates = rw c.in_ok-copy.ensures at c.in_ok-_none.ensures.updates in
    let none = ap entries_on c.requires in
    shelf_keeps c.args.shelves.now.entries c.insert.new.self.entries c.args.slot.now.leaf c.make_key.new.shelf updates.0
    (λ k. c.make_key.ensures.parts k ∙ ap (λ (s : Shelf). unwrap_or (key_at s k) None) (c.new-shelf.ensures.empty ∙ sym none))

pub returns-clause-grows : goal.returns-clause-grows
returns-clause-grows c =
    let updates = rw c.in_ok-copy.ensures at c.in_ok-_none.ensures.updates in
    let none = ap entries_on c.requires in
    shelf_grows c.args.shelves.now.entries c.insert.new.self.entries c.args.slot.now.leaf c.make_key.new.shelf updates.0
    (λ k there. c.make_key.ensures.grows k (ap (λ (s : Shelf). is_some (key_at s k)) (c.new-shelf.ensures.empty ∙ sym none) ∙ there))

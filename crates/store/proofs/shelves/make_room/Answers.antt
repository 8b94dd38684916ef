-- Why `shelves::make_room` meets its contract.
use Rattle.std.proofs.Common.{None, IsSome, is_some, unwrap_or, refl, ap, ◌∙◌, subst}
use Rattle.store.specs.Shelves.{Shelf, entries_on, key_at}
use Rattle.store.proofs.Shelving.{shelf_keeps, shelf_grows}
use Rattle.store.proofs.shelves.make_room.Goals as goal

pub returns-in-Some-clause-parts : goal.returns-in-Some-clause-parts
returns-in-Some-clause-parts c =
    let updates = (c.get_mut.follows.holds c.make_key.new.shelf).3 (subst IsSome c.in-Some.ensures.value refl) in
    shelf_keeps c.args.shelves.now.entries (c.get_mut.follows.lender c.make_key.new.shelf).entries c.args.slot.now.leaf c.make_key.new.shelf updates.0
    (λ k. c.make_key.ensures.parts k ∙ ap (λ (s : Shelf). unwrap_or (key_at s k) None) (ap entries_on c.in-Some.ensures.value))

pub returns-in-Some-clause-grows : goal.returns-in-Some-clause-grows
returns-in-Some-clause-grows c =
    let updates = (c.get_mut.follows.holds c.make_key.new.shelf).3 (subst IsSome c.in-Some.ensures.value refl) in
    shelf_grows c.args.shelves.now.entries (c.get_mut.follows.lender c.make_key.new.shelf).entries c.args.slot.now.leaf c.make_key.new.shelf updates.0
    (λ k there. c.make_key.ensures.grows k (ap (λ (s : Shelf). is_some (key_at s k)) (ap entries_on c.in-Some.ensures.value) ∙ there))

-- Why `shelves::fill_slot` meets its contract.
use Rattle.std.proofs.Common.{ℤ, Option, Some, IsSome, cond, refl, ap, sym, ◌∙◌, subst, List}
use Rattle.std.specs.BTreeMap.{BTreeMap, is_at}
use Rattle.std.specs.Option.{option_map}
use Rattle.std.specs.Ordering.{int_cmp}
use Rattle.terms.specs.declared.leaf.Leaf.{Leaf}
use Rattle.terms.specs.declared.value.Value.{Value}
use Rattle.store.specs.Shelves.{Shelf, entries_on, key_at, place_at}
use Rattle.store.proofs.Shelving.{shelf_filled, none_filled}
use Rattle.store.proofs.shelves.fill_slot.Goals as goal

pub returns-in-Some-clause-places : goal.returns-in-Some-clause-places
returns-in-Some-clause-places c =
    let slot = c.args.slot in
    let found = option_map (λ p. Some p) c.args.part in
    let updates = (c.get_mut.follows.holds c.fill_key.new.shelf).3 (subst IsSome c.in-Some.ensures.value refl) in
    shelf_filled c.args.shelves.now.entries (c.get_mut.follows.lender c.fill_key.new.shelf).entries slot.leaf c.fill_key.new.shelf updates.0 slot.key found
    (λ k. c.fill_key.ensures k ∙ ap (λ (s : Shelf). cond (is_at (int_cmp slot.key) k) found (key_at s k)) (ap entries_on c.in-Some.ensures.value))

pub returns-clause-places : goal.returns-clause-places
returns-clause-places c = λ q.
    ap (λ (m : BTreeMap Leaf (BTreeMap ℤ (Option (List Value)))). place_at m.entries q) (c.get_mut.follows.holds-at-none)
    ∙ none_filled c.args.shelves.now.entries c.args.slot c.args.part (sym c.in-None.ensures.value) c.requires q

-- Why `index_leaf` meets its contract.
use Rattle.std.proofs.Common.{sym, ap, ◌∙◌, cond, Some}
use Rattle.std.specs.BTreeMap.{is_at}
use Rattle.std.specs.Map.{lookup}
use Rattle.std.specs.Ordering.{is_eq}
use Rattle.terms.specs.Leaf.{leaf_cmp}
use Rattle.site.proofs.LockPlaces.{index_there, index_new}
use Rattle.site.proofs.lock_table.index_leaf.Goals as goal

pub returns-then-contains_key : goal.returns-then-contains_key
returns-then-contains_key c = index_there c.args.places.now.entries c.args.leaf.now c.args.place (sym c.contains_key.ensures ∙ c.if-contains_key.true)

pub returns : goal.returns
returns c = index_new c.args.places.now.entries c.insert.new.self.entries c.args.leaf.now c.args.place (sym c.contains_key.ensures ∙ c.if-contains_key.false)
    (λ g. c.in_ok-_none.ensures.updates.0 g ∙ ap (λ h. cond (is_eq (leaf_cmp h g)) (Some c.args.place) (lookup (is_at (leaf_cmp g)) c.args.places.now.entries)) c.in_ok-copy.ensures)

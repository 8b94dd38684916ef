-- Why `add_leaf` meets its contract.
use Rattle.std.proofs.Common.{rules, ◌≡◌, length, sym, ap, ◌∙◌, subst}
use Rattle.std.specs.BTreeMap.{is_at}
use Rattle.std.specs.Map.{lookup}
use Rattle.std.specs.Ordering.{is_eq}
use Rattle.terms.specs.Leaf.{leaf_cmp}
use Rattle.site.specs.LockTable.{IsIndexed, or_place}
use Rattle.site.proofs.LockPlaces.{indexed_more}
use Rattle.site.proofs.lock_table.add_leaf.Goals as goal

pub returns-clause-indexed : goal.returns-clause-indexed
returns-clause-indexed c = λ index.
    let long : c.len.result ≡ length c.args.locks.now.items = search rules in
    subst (IsIndexed c.index_leaf.new.places.entries) (sym c.in_ok-push.ensures.items)
    (indexed_more c.args.places.now.entries c.index_leaf.new.places.entries c.args.locks.now.items c.new.result c.args.leaf.now (ap (λ l. l.leaf) c.new.ensures ∙ c.in_ok-copy.ensures)
    (λ g. c.in_ok-index_leaf.ensures g ∙ ap (or_place (lookup (is_at (leaf_cmp g)) c.args.places.now.entries) (is_eq (leaf_cmp c.args.leaf.now g))) long) index)

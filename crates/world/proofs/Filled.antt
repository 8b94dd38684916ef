-- What is put into stores one after another is what they keep in the end.
use Rattle.std.proofs.Common.{◌≡◌, refl, Bool, true, false, List, [], ◌∷◌, filter, map, if◌then◌else◌}
use Rattle.terms.specs.declared.leaf.Leaf.{Leaf}
use Rattle.terms.specs.declared.value.Value.{Value}
use Rattle.terms.specs.Cond.{conds_hold}
use Rattle.meaning.specs.Listed.{listed}
use Rattle.catalog.specs.declared.fragment_leaf.FragmentLeaf.{FragmentLeaf}
use Rattle.catalog.specs.Fragment.{Fragment, content}
use Rattle.catalog.specs.FragmentLeaf.{unnamed}
use Rattle.store.specs.Content.{Content}
use Rattle.desk.specs.CatalogueDatabase.{stored_in}
use Rattle.world.specs.Filling.{is_leaf, kept_with}

-- a row's part, and then those of the rest
one_then : (leaf : Fragment) (kept : Content) (row : List Value) (rows : List (List Value)) → stored_in (stored_in kept (content leaf (row ∷ []))) (content leaf rows) ≡ stored_in kept (content leaf (row ∷ rows))
one_then leaf kept row rows = go (conds_hold leaf.conds row)
  where
    go : (b : Bool) → stored_in (stored_in kept (map (listed leaf.columns) (if b then row ∷ [] else []))) (content leaf rows) ≡ stored_in kept (map (listed leaf.columns) (if b then row ∷ filter (conds_hold leaf.conds) rows else filter (conds_hold leaf.conds) rows))
    go true = refl
    go false = refl

pub one_row_then : (leaf : FragmentLeaf) (name : Leaf) (kept : Content) (row : List Value) (rows : List (List Value)) → kept_with leaf rows name (kept_with leaf (row ∷ []) name kept) ≡ kept_with leaf (row ∷ rows) name kept
one_row_then leaf name kept row rows = go (is_leaf leaf name)
  where
    go : (b : Bool) → (if b then stored_in (if b then stored_in kept (content (unnamed leaf) (row ∷ [])) else kept) (content (unnamed leaf) rows) else (if b then stored_in kept (content (unnamed leaf) (row ∷ [])) else kept)) ≡ (if b then stored_in kept (content (unnamed leaf) (row ∷ rows)) else kept)
    go true = one_then (unnamed leaf) kept row rows
    go false = refl

pub no_row : (leaf : FragmentLeaf) (name : Leaf) (kept : Content) → kept_with leaf [] name kept ≡ kept
no_row leaf name kept = go (is_leaf leaf name)
  where
    go : (b : Bool) → (if b then kept else kept) ≡ kept
    go true = refl
    go false = refl

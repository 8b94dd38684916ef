-- What a site keeps of each leaf as it starts: the parts of its own leaves, and of others none.
use Rattle.std.proofs.Common.{◌≡◌, refl, sym, ap, ap₂, ◌∙◌, subst, ℕ, nat_eq, ◌==◌, ◌&&◌, Bool, true, false, List, [], ◌∷◌, Some, None, if◌then◌else◌}
use Rattle.std.proofs.lemmas.Bool.{eqb-true, eq-eqb}
use Rattle.std.proofs.lemmas.Slice.Eq.{bytes_eq-Decides}
use Rattle.std.specs.Cmp.Lexicographic.{pointwise}
use Rattle.std.specs.List.{AllByRecursion}
use Rattle.terms.specs.declared.leaf.Leaf.{Leaf}
use Rattle.meaning.specs.Whole.{Relations, rows_of}
use Rattle.catalog.specs.declared.fragment_leaf.FragmentLeaf.{FragmentLeaf}
use Rattle.catalog.specs.Fragment.{content}
use Rattle.catalog.specs.FragmentLeaf.{is_name_of, leaf_named, unnamed}
use Rattle.catalog.proofs.LeafNames.{AreOther, HaveOwnNames}
use Rattle.store.specs.Content.{Content}
use Rattle.protocol.proofs.Basics.{left_true, right_true, some_is}
use Rattle.site.proofs.TicketOrder.{leaf_is, leaf_self, same_bool}
use Rattle.desk.specs.CatalogueDatabase.{stored_in}
use Rattle.world.specs.Filling.{filled, is_leaf, kept_with}

-- one test of a leaf's name is the other
pub same_test : (name : Leaf) (leaf : FragmentLeaf) → is_name_of name leaf ≡ is_leaf leaf name
same_test name leaf = same_bool _ _
    (λ e. let same : leaf.name ≡ name = λ i. record { relation = (bytes_eq-Decides leaf.name.relation name.relation).0 (left_true (pointwise nat_eq leaf.name.relation name.relation) (leaf.name.number == name.number) e) i; number = eqb-true leaf.name.number name.number (right_true (pointwise nat_eq leaf.name.relation name.relation) (leaf.name.number == name.number) e) i } in subst (λ n. is_leaf leaf n ≡ true) same (leaf_self leaf.name))
    (λ e. subst (λ n. is_name_of n leaf ≡ true) (sym (leaf_is name leaf.name e)) (ap₂ (λ a b. a && b) ((bytes_eq-Decides leaf.name.relation leaf.name.relation).1 refl) (eq-eqb leaf.name.number leaf.name.number refl)))

-- another leaf's parts change nothing of it
other_leaf : (leaf : FragmentLeaf) (rows : List (List Rattle.terms.specs.declared.value.Value.Value)) (name : Leaf) (kept : Content) → is_name_of name leaf ≡ false → kept_with leaf rows name kept ≡ kept
other_leaf leaf rows name kept apart = ap (λ (b : Bool). if b then stored_in kept (content (unnamed leaf) rows) else kept) (sym (same_test name leaf) ∙ apart)

module _ (whole : Relations) (site : ℕ) where
  passes : (leaf : FragmentLeaf) (leaves : List FragmentLeaf) (name : Leaf) (kept : Content) → is_name_of name leaf ≡ false → filled whole site (leaf ∷ leaves) name kept ≡ filled whole site leaves name kept
  passes leaf leaves name kept apart = ap (filled whole site leaves name) (go (leaf.site == site))
    where
      go : (b : Bool) → (if b then kept_with leaf (rows_of whole leaf.name.relation) name kept else kept) ≡ kept
      go true = other_leaf leaf (rows_of whole leaf.name.relation) name kept apart
      go false = refl

  -- leaves of other names change nothing of it
  others_pass : (leaf : FragmentLeaf) (leaves : List FragmentLeaf) (kept : Content) → AllByRecursion (AreOther leaf) leaves → filled whole site leaves leaf.name kept ≡ kept
  others_pass leaf [] kept apart = refl
  others_pass leaf (next ∷ leaves) kept apart = passes next leaves leaf.name kept apart.0.forth ∙ others_pass leaf leaves kept apart.1

  -- a leaf that isn't there keeps what it had
  pub none_filled : (leaves : List FragmentLeaf) (name : Leaf) (kept : Content) → leaf_named name leaves ≡ None → filled whole site leaves name kept ≡ kept
  none_filled [] name kept none = refl
  none_filled (leaf ∷ leaves) name kept none = go (is_name_of name leaf) refl none (none_filled leaves name kept)
    where
      go : (b : Bool) → is_name_of name leaf ≡ b → (if b then Some leaf else leaf_named name leaves) ≡ None → (leaf_named name leaves ≡ None → filled whole site leaves name kept ≡ kept) → filled whole site (leaf ∷ leaves) name kept ≡ kept
      go true e is later = absurd cc
      go false e is later = passes leaf leaves name kept e ∙ later is

  -- one of another site's keeps what it had
  pub leaf_elsewhere : (leaves : List FragmentLeaf) (name : Leaf) (leaf : FragmentLeaf) (kept : Content) → HaveOwnNames leaves → leaf_named name leaves ≡ Some leaf → (leaf.site == site) ≡ false → filled whole site leaves name kept ≡ kept
  leaf_elsewhere [] name leaf kept own there other = absurd cc
  leaf_elsewhere (first ∷ leaves) name leaf kept own there other = go (is_name_of name first) refl there (λ later. leaf_elsewhere leaves name leaf kept own.1 later other)
    where
      go : (b : Bool) → is_name_of name first ≡ b → (if b then Some first else leaf_named name leaves) ≡ Some leaf → (leaf_named name leaves ≡ Some leaf → filled whole site leaves name kept ≡ kept) → filled whole site (first ∷ leaves) name kept ≡ kept
      go false e is later = passes first leaves name kept e ∙ later is
      go true e is later =
          let same : first ≡ leaf = some_is is in
          let named : first.name ≡ name = sym (leaf_is name first.name (sym (same_test name first) ∙ e)) in
          ap (λ (b : Bool). filled whole site leaves name (if b then kept_with first (rows_of whole first.name.relation) name kept else kept)) (ap (λ (l : FragmentLeaf). l.site == site) same ∙ other)
          ∙ subst (λ (n : Leaf). filled whole site leaves n kept ≡ kept) named (others_pass first leaves kept own.0)

  -- one of the site's has its parts
  pub leaf_filled : (leaves : List FragmentLeaf) (name : Leaf) (leaf : FragmentLeaf) (kept : Content) → HaveOwnNames leaves → leaf_named name leaves ≡ Some leaf → leaf.site ≡ site → filled whole site leaves name kept ≡ stored_in kept (content (unnamed leaf) (rows_of whole leaf.name.relation))
  leaf_filled [] name leaf kept own there here = absurd cc
  leaf_filled (first ∷ leaves) name leaf kept own there here = go (is_name_of name first) refl there (λ later. leaf_filled leaves name leaf kept own.1 later here)
    where
      put : Content → Content
      put c = stored_in c (content (unnamed leaf) (rows_of whole leaf.name.relation))

      go : (b : Bool) → is_name_of name first ≡ b → (if b then Some first else leaf_named name leaves) ≡ Some leaf → (leaf_named name leaves ≡ Some leaf → filled whole site leaves name kept ≡ stored_in kept (content (unnamed leaf) (rows_of whole leaf.name.relation))) →
          filled whole site (first ∷ leaves) name kept ≡ stored_in kept (content (unnamed leaf) (rows_of whole leaf.name.relation))
      go false e is later = passes first leaves name kept e ∙ later is
      go true e is later =
          let same : first ≡ leaf = some_is is in
          let at_site : (first.site == site) ≡ true = eq-eqb first.site site (ap (λ (l : FragmentLeaf). l.site) same ∙ here) in
          let test : is_leaf first name ≡ true = sym (same_test name first) ∙ e in
          let named : first.name ≡ name = sym (leaf_is name first.name test) in
          let now : (if first.site == site then kept_with first (rows_of whole first.name.relation) name kept else kept) ≡ stored_in kept (content (unnamed leaf) (rows_of whole leaf.name.relation)) =
          ap (λ (b : Bool). if b then kept_with first (rows_of whole first.name.relation) name kept else kept) at_site
          ∙ ap (λ (b : Bool). if b then stored_in kept (content (unnamed first) (rows_of whole first.name.relation)) else kept) test
          ∙ ap (λ (l : FragmentLeaf). stored_in kept (content (unnamed l) (rows_of whole l.name.relation))) same in
          ap (filled whole site leaves name) now ∙ subst (λ n. filled whole site leaves n (stored_in kept (content (unnamed leaf) (rows_of whole leaf.name.relation))) ≡ stored_in kept (content (unnamed leaf) (rows_of whole leaf.name.relation))) named (others_pass first leaves (stored_in kept (content (unnamed leaf) (rows_of whole leaf.name.relation))) own.0)

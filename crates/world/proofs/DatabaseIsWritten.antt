-- The writes between whole databases lead from what a leaf has of the one to what it has of the other.
use Rattle.std.proofs.Common.{◌≡◌, refl, sym, ap, ◌∙◌, subst, ℕ, ℤ, nat_eq, Bool, true, false, cond, ◌&&◌, if◌then◌else◌, List, [], ◌∷◌, map, flat_map, Option, Some, None}
use Rattle.std.specs.Cmp.{int_cmp_total}
use Rattle.std.specs.Cmp.Lexicographic.{pointwise}
use Rattle.std.specs.FinMap as fin
use Rattle.std.specs.List.{AllByRecursion}
use Rattle.std.specs.Ordering.{int_eq, is_eq}
use Rattle.terms.specs.declared.leaf.Leaf.{Leaf}
use Rattle.terms.specs.declared.value.Value.{Value}
use Rattle.terms.specs.declared.write.Write.{Write}
use Rattle.terms.specs.declared.write.Write.TheVariants.{Put, Del}
use Rattle.terms.specs.Leaf.{leaf_cmp}
use Rattle.terms.specs.Row.{key_of}
use Rattle.meaning.specs.Relation.{Ascends}
use Rattle.meaning.specs.Whole.{FitsSchema, Relations, rows_of}
use Rattle.catalog.specs.declared.fragment_leaf.FragmentLeaf.{FragmentLeaf}
use Rattle.catalog.specs.Catalogue.{Catalogue}
use Rattle.catalog.specs.Formed.{IsFormed}
use Rattle.catalog.specs.Fragment.{content}
use Rattle.catalog.specs.FragmentLeaf.{catalogue_leaves, is_name_of, leaf_named, schemas_of, unnamed}
use Rattle.catalog.specs.Keyed.{row_at}
use Rattle.catalog.proofs.FormedTrees.{all_both}
use Rattle.plan.specs.Contents.{ContentsAscend}
use Rattle.plan.specs.Reduced.{same_leaf}
use Rattle.plan.proofs.Fetched.{one_name}
use Rattle.answers.specs.Writes.{WritesLead, applied, key_written, leaf_of, leaf_writes, part_in, part_written, same_part, write_between, writes_between}
use Rattle.answers.specs.Merged.{merged_rows}
use Rattle.answers.proofs.Applied.{all_given}
use Rattle.answers.proofs.LeavesWritten.{same_itself}
use Rattle.store.specs.Content.{Content, set_at}
use Rattle.store.specs.ContentLaws.{get-set_at}
use Rattle.protocol.proofs.Basics.{some_is}
use Rattle.protocol.specs.Catalogues.{same_place}
use Rattle.protocol.specs.Language.{written}
use Rattle.protocol.specs.Local.{local}
use Rattle.site.proofs.TicketOrder.{leaf_is, leaf_self, same_bool}
use Rattle.desk.specs.Database.{language}
use Rattle.desk.specs.Place.{Place, home_in, write_in}
use Rattle.desk.specs.CatalogueDatabase.{content_at, content_of, database, found, is_site, stored}
use Rattle.world.proofs.DatabaseIsStored.{get_stored, turned}
use Rattle.world.proofs.DatabasePlaces.{content_none, content_nowhere, content_there, home_is, home_there}
use Rattle.world.proofs.Seating.{name_is, name_self}

same_names : (one other : Leaf) → is_eq (leaf_cmp one other) ≡ same_leaf one other
same_names one other = same_bool _ _
    (λ e. subst (λ (l : Leaf). same_leaf one l ≡ true) (leaf_is one other e) (same_itself one))
    (λ e. subst (λ (l : Leaf). is_eq (leaf_cmp one l) ≡ true) (one_name one other e) (leaf_self one))

pub and_none : (b : Bool) → (b && false) ≡ false
and_none true = refl
and_none false = refl

-- one write
pub one_step : (leaf to : Leaf) (at key : ℤ) (part : Option (List Value)) (kept : Content) →
    fin.get (if is_eq (leaf_cmp to leaf) then set_at key part kept else kept) at ≡ (if same_leaf to leaf && int_eq key at then part else fin.get kept at)
one_step leaf to at key part kept = go (is_eq (leaf_cmp to leaf)) ∙ ap (λ (b : Bool). cond (b && int_eq key at) part (fin.get kept at)) (same_names to leaf)
  where
    go : (b : Bool) → fin.get (if b then set_at key part kept else kept) at ≡ cond (b && int_eq key at) part (fin.get kept at)
    go true = get-set_at key part kept at ∙ ap (λ (b : Bool). cond b part (fin.get kept at)) (turned key at)
    go false = refl

-- writes, seen from a place
module _ (catalogue : Catalogue) (site : List ℕ) (leaf : Leaf) where
  abbrev put_with : Write → Content → Content
  put_with write kept = if same_place local (write_in catalogue write).0 (site, leaf) then set_at (write_in catalogue write).1.0 (write_in catalogue write).1.1 kept else kept

  -- at the home of the leaf they are those to the leaf
  at_home : home_in catalogue leaf ≡ site → (to : Leaf) → (pointwise nat_eq (home_in catalogue to) site && is_eq (leaf_cmp to leaf)) ≡ is_eq (leaf_cmp to leaf)
  at_home home to = go (is_eq (leaf_cmp to leaf)) refl
    where
      go : (b : Bool) → is_eq (leaf_cmp to leaf) ≡ b → (pointwise nat_eq (home_in catalogue to) site && b) ≡ b
      go true e = ap (λ (x : Bool). x && true) (subst (λ (s : List ℕ). pointwise nat_eq s site ≡ true) (sym (ap (home_in catalogue) (leaf_is to leaf e) ∙ home)) (name_self site))
      go false e = and_none (pointwise nat_eq (home_in catalogue to) site)

  step : home_in catalogue leaf ≡ site → (write : Write) (kept : Content) (at : ℤ) → fin.get (put_with write kept) at ≡ (if same_leaf (leaf_of write) leaf && int_eq (key_written write) at then part_written write else fin.get kept at)
  step home (Put to part) kept at = ap (λ (b : Bool). fin.get (if b then set_at (key_of part) (Some part) kept else kept) at) (at_home home to) ∙ one_step leaf to at (key_of part) (Some part) kept
  step home (Del to key) kept at = ap (λ (b : Bool). fin.get (if b then set_at key None kept else kept) at) (at_home home to) ∙ one_step leaf to at key None kept

  -- what stands there at a key after writes
  pub get_written : home_in catalogue leaf ≡ site → (writes : List Write) (kept : Content) (key : ℤ) → fin.get (written (language (database catalogue)) (site, leaf) (map (write_in catalogue) writes) kept) key ≡ applied leaf writes (fin.get kept) key
  get_written home [] kept key = refl
  get_written home (write ∷ writes) kept key =
      get_written home writes (put_with write kept) key
      ∙ ap (λ (now : ℤ → Option (List Value)). applied leaf writes now key) (λ i at. step home write kept at i)

  -- where none is to the place it stays as it is
  abbrev IsAway : Write → Type 0
  IsAway write = (pointwise nat_eq (home_in catalogue (leaf_of write)) site && is_eq (leaf_cmp (leaf_of write) leaf)) ≡ false

  pub untouched : (writes : List Write) (kept : Content) → AllByRecursion IsAway writes → written (language (database catalogue)) (site, leaf) (map (write_in catalogue) writes) kept ≡ kept
  untouched [] kept away = refl
  untouched (Put to part ∷ writes) kept away =
      ap (λ (b : Bool). written (language (database catalogue)) (site, leaf) (map (write_in catalogue) writes) (if b then set_at (key_of part) (Some part) kept else kept)) away.0 ∙ untouched writes kept away.1
  untouched (Del to key ∷ writes) kept away =
      ap (λ (b : Bool). written (language (database catalogue)) (site, leaf) (map (write_in catalogue) writes) (if b then set_at key None kept else kept)) away.0 ∙ untouched writes kept away.1

  -- no write is to a leaf where it isn't at home
  pub not_here : pointwise nat_eq (home_in catalogue leaf) site ≡ false → (writes : List Write) → AllByRecursion IsAway writes
  not_here other [] = tt
  not_here other (write ∷ writes) = (go (is_eq (leaf_cmp (leaf_of write) leaf)) refl, not_here other writes)
    where
      go : (b : Bool) → is_eq (leaf_cmp (leaf_of write) leaf) ≡ b → (pointwise nat_eq (home_in catalogue (leaf_of write)) site && b) ≡ false
      go true e = ap (λ (x : Bool). x && true) (subst (λ (l : Leaf). pointwise nat_eq (home_in catalogue l) site ≡ false) (sym (leaf_is (leaf_of write) leaf e)) other)
      go false e = and_none (pointwise nat_eq (home_in catalogue (leaf_of write)) site)

-- the leaf that a name finds among leaves, and what holds of all of them
pub found_has : (P : FragmentLeaf → Type 0) (name : Leaf) (leaf : FragmentLeaf) (leaves : List FragmentLeaf) → AllByRecursion P leaves → leaf_named name leaves ≡ Some leaf → P leaf
found_has P name leaf [] all there = absurd cc
found_has P name leaf (first ∷ leaves) all there = go (is_name_of name first) there (found_has P name leaf leaves all.1)
  where
    go : (b : Bool) → (if b then Some first else leaf_named name leaves) ≡ Some leaf → (leaf_named name leaves ≡ Some leaf → P leaf) → P leaf
    go true is later = let same : first ≡ leaf = some_is is in subst P same all.0
    go false is later = later is

pub found_name : (name : Leaf) (leaf : FragmentLeaf) (leaves : List FragmentLeaf) → leaf_named name leaves ≡ Some leaf → leaf.name ≡ name
found_name name leaf [] there = absurd cc
found_name name leaf (first ∷ leaves) there = go (is_name_of name first) refl there (found_name name leaf leaves)
  where
    go : (b : Bool) → is_name_of name first ≡ b → (if b then Some first else leaf_named name leaves) ≡ Some leaf → (leaf_named name leaves ≡ Some leaf → leaf.name ≡ name) → leaf.name ≡ name
    go true e is later =
        let same : first ≡ leaf = some_is is in
        let named : first.name ≡ name = one_name first.name name e in
        ap (λ (l : FragmentLeaf). l.name) (sym same) ∙ named
    go false e is later = later is

-- no leaf of a name that finds none has it
none_has : (name : Leaf) (leaves : List FragmentLeaf) → leaf_named name leaves ≡ None → AllByRecursion (λ leaf. same_leaf leaf.name name ≡ false) leaves
none_has name [] none = tt
none_has name (first ∷ leaves) none = go (is_name_of name first) refl none (none_has name leaves)
  where
    go : (b : Bool) → is_name_of name first ≡ b → (if b then Some first else leaf_named name leaves) ≡ None → (leaf_named name leaves ≡ None → AllByRecursion (λ leaf. same_leaf leaf.name name ≡ false) leaves) → AllByRecursion (λ leaf. same_leaf leaf.name name ≡ false) (first ∷ leaves)
    go true e is later = absurd cc
    go false e is later = (e, later is)

-- a write between parts is to their leaf
pub to_leaf : (leaf : Leaf) (key : ℤ) (before after : Option (List Value)) (write : Write) → write_between leaf key before after ≡ Some write → leaf_of write ≡ leaf
to_leaf leaf key None None write is = absurd cc
to_leaf leaf key (Some part) None write is = ap leaf_of (sym (some_is is))
to_leaf leaf key None (Some after) write is = ap leaf_of (sym (some_is is))
to_leaf leaf key (Some before) (Some after) write is = go (same_part before after) is
  where
    go : (b : Bool) → (if b then None else Some (Put leaf after)) ≡ Some write → leaf_of write ≡ leaf
    go true is = absurd cc
    go false is = ap leaf_of (sym (some_is is))

-- writes between the parts of other leaves are to none of a name that they don't have
to_others : (catalogue : Catalogue) (site : List ℕ) (before after : Relations) (name : Leaf) (leaves : List FragmentLeaf) → AllByRecursion (λ leaf. same_leaf leaf.name name ≡ false) leaves →
    AllByRecursion (IsAway catalogue site name) (flat_map (λ leaf. leaf_writes leaf.name (content (unnamed leaf) (rows_of before leaf.name.relation)) (content (unnamed leaf) (rows_of after leaf.name.relation))) leaves)
to_others catalogue site before after name [] others = tt
to_others catalogue site before after name (leaf ∷ leaves) others =
    let first = content (unnamed leaf) (rows_of before leaf.name.relation) in
    let second = content (unnamed leaf) (rows_of after leaf.name.relation) in
    all_both (IsAway catalogue site name) (leaf_writes leaf.name first second) _
    (all_given (IsAway catalogue site name) (λ at. write_between leaf.name at (row_at at first) (row_at at second)) (map key_of (merged_rows first second)) (λ at write is.
    let other : is_eq (leaf_cmp (leaf_of write) name) ≡ false = same_names (leaf_of write) name ∙ ap (λ (l : Leaf). same_leaf l name) (to_leaf leaf.name at (row_at at first) (row_at at second) write is) ∙ others.0 in
    ap (λ (b : Bool). pointwise nat_eq (home_in catalogue (leaf_of write)) site && b) other ∙ and_none (pointwise nat_eq (home_in catalogue (leaf_of write)) site)))
    (to_others catalogue site before after name leaves others.1)

-- the laws that other crates prove of catalogues
module _ (lead : WritesLead) (ascend : ContentsAscend) (catalogue : Catalogue) (formed : IsFormed catalogue) where
  pub order : (whole : Relations) (name : Leaf) (leaf : FragmentLeaf) → FitsSchema (schemas_of catalogue) whole → found catalogue name ≡ Some leaf → Ascends (content (unnamed leaf) (rows_of whole leaf.name.relation))
  order whole name leaf fits there = (found_has _ name leaf (catalogue_leaves catalogue) (ascend catalogue whole formed fits) there).ascends

  pub writes_right : (before after : Relations) (place : Place) → FitsSchema (schemas_of catalogue) before → FitsSchema (schemas_of catalogue) after →
      written (language (database catalogue)) place (map (write_in catalogue) (writes_between catalogue before after)) (content_at catalogue place before) ≡ content_at catalogue place after
  writes_right before after place fits fits_after = go (found catalogue name) refl
    where
      site : List ℕ
      site = place.0

      name : Leaf
      name = place.1

      list : List Write
      list = writes_between catalogue before after

      now : Content → Content
      now = written (language (database catalogue)) place (map (write_in catalogue) list)

      -- nothing is there, before and after
      empty : ((whole : Relations) → content_at catalogue place whole ≡ fin.empty) → AllByRecursion (IsAway catalogue site name) list → now (content_at catalogue place before) ≡ content_at catalogue place after
      empty none away = untouched catalogue site name list (content_at catalogue place before) away ∙ none before ∙ sym (none after)

      here : (leaf : FragmentLeaf) → found catalogue name ≡ Some leaf → home_in catalogue name ≡ site → now (content_of (Some leaf) before) ≡ content_of (Some leaf) after
      here leaf there home = fin.same_map int_cmp_total fin.int_cmp-IsAntisymmetric _ _ (λ key.
          let parts = content (unnamed leaf) (rows_of before leaf.name.relation) in
          get_written catalogue site name home list (stored parts) key
          ∙ ap (λ (now : ℤ → Option (List Value)). applied name list now key) (λ i at. get_stored parts at (order before name leaf fits there) i)
          ∙ ap (λ (n : Leaf). applied n list (part_in before leaf) key) (sym (found_name name leaf (catalogue_leaves catalogue) there))
          ∙ found_has _ name leaf (catalogue_leaves catalogue) (lead catalogue before after key formed fits) there
          ∙ sym (get_stored (content (unnamed leaf) (rows_of after leaf.name.relation)) key (order after name leaf fits_after there)))

      at_site : (leaf : FragmentLeaf) → found catalogue name ≡ Some leaf → (b : Bool) → pointwise nat_eq (home_in catalogue name) site ≡ b → now (content_at catalogue place before) ≡ content_at catalogue place after
      at_site leaf there true e =
          let home = name_is (home_in catalogue name) site e in
          let is = home_there catalogue formed name leaf there ∙ ap Some home in
          ap now (content_there catalogue site name before leaf there is) ∙ here leaf there home ∙ sym (content_there catalogue site name after leaf there is)
      at_site leaf there false e =
          empty (λ whole. content_none catalogue site name whole (ap (λ (o : Option (List ℕ)). is_site o site) (home_is catalogue formed name leaf there) ∙ e)) (not_here catalogue site name e list)

      go : (o : Option FragmentLeaf) → found catalogue name ≡ o → now (content_at catalogue place before) ≡ content_at catalogue place after
      go None none = empty (λ whole. content_nowhere catalogue site name whole none) (to_others catalogue site before after name (catalogue_leaves catalogue) (none_has name (catalogue_leaves catalogue) none))
      go (Some leaf) there = at_site leaf there (pointwise nat_eq (home_in catalogue name) site) refl

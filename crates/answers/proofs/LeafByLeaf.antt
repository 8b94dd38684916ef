-- The writes of the changes of one relation are those between two whole databases.
use Rattle.std.proofs.Common.{◌≡◌, ◌≢◌, ℕ, suc, ℤ, Bool, true, false, cond, List, [], ◌∷◌, ◌++◌, Option, Some, None, flat_map, map, nat_eq, unwrap_or, refl, ap, ap₂, sym, ◌∙◌, subst}
use Rattle.std.specs.Cmp.{eq_by_cmp_equiv}
use Rattle.std.specs.Cmp.Lexicographic.{nat_list_cmp_total, other_text, pointwise, same_text}
use Rattle.std.specs.FinMap as finite
use Rattle.std.specs.List.{AllByRecursion, cons_option, filter_map, slice_get}
use Rattle.std.specs.Option.{IsSome}
use Rattle.terms.specs.declared.value.Value.{Value}
use Rattle.terms.specs.declared.write.Write.{Write}
use Rattle.terms.specs.Row.{key_of}
use Rattle.meaning.specs.Relation.{Ascends}
use Rattle.meaning.specs.Whole.{Relations, replaced, rows_of}
use Rattle.meaning.proofs.Kept.{put_keeps}
use Rattle.catalog.specs.declared.fragment_leaf.FragmentLeaf.{FragmentLeaf}
use Rattle.catalog.specs.declared.path.Path.{Path}
use Rattle.catalog.specs.Catalogue.{Catalogue, SplitRelation}
use Rattle.catalog.specs.Fragment.{content}
use Rattle.catalog.specs.FragmentLeaf.{catalogue_leaves, leaves_from, leaves_of, unnamed}
use Rattle.catalog.specs.Keyed.{row_at}
use Rattle.catalog.specs.Path.{columns_beside_key, paths}
use Rattle.meaning.specs.Schema.{kinds_of}
use Rattle.answers.specs.declared.change.Change.{Change}
use Rattle.answers.specs.Merged.{merged_rows}
use Rattle.answers.specs.Outcome.{change_write, leaf_changes, writes_of}
use Rattle.answers.specs.Writes.{leaf_writes, write_between, writes_between}
use Rattle.answers.proofs.WritesLaw.{Lead, leaf_law, none_between, written}

-- each leaf has the key first

abbrev pub HasKey : FragmentLeaf → Type 0
HasKey leaf = slice_get leaf.columns 0 ≡ Some 0

numbered_key : (relation columns : List ℕ) (number : ℕ) (all : List Path) → AllByRecursion HasKey (leaves_from relation columns number all)
numbered_key relation columns number [] = tt
numbered_key relation columns number (path ∷ all) = (refl, numbered_key relation columns (suc number) all)

both_keys : (leaves others : List FragmentLeaf) → AllByRecursion HasKey leaves → AllByRecursion HasKey others → AllByRecursion HasKey (leaves ++ others)
both_keys [] others all more = more
both_keys (leaf ∷ leaves) others all more = (all.0, both_keys leaves others all.1 more)

pub relations_key : (relations : List SplitRelation) → AllByRecursion HasKey (flat_map leaves_of relations)
relations_key [] = tt
relations_key (relation ∷ relations) =
    both_keys (leaves_of relation) (flat_map leaves_of relations) (numbered_key relation.schema.name (columns_beside_key (kinds_of relation.schema)) 1 (paths relation.tree)) (relations_key relations)

-- a content that stays is not written to
all_none : {B : Type 0} (g : ℤ → Option B) (keys : List ℤ) → ((key : ℤ) → g key ≡ None) → filter_map g keys ≡ []
all_none g [] none = refl
all_none {B} g (key ∷ keys) none = ap₂ (λ (o : Option B) (rest : List B). cons_option o rest) (none key) (all_none g keys none)

mapped_changes : (leaf : FragmentLeaf) (change : List Value → Change) (rows : List (List Value)) → leaf_changes leaf (map change rows) ≡ filter_map (λ row. change_write leaf (change row)) rows
mapped_changes leaf change [] = refl
mapped_changes leaf change (row ∷ rows) = ap (λ (rest : List Write). cons_option (change_write leaf (change row)) rest) (mapped_changes leaf change rows)

-- one leaf of the relation
own_leaf : (leaf : FragmentLeaf) (columns : List ℕ) (change : List Value → Change) (changed before after : List (List Value)) → leaf.columns ≡ columns → slice_get columns 0 ≡ Some 0 → Ascends changed → Ascends before → Ascends after → Lead change changed before after →
    leaf_writes leaf.name (content (unnamed leaf) before) (content (unnamed leaf) after) ≡ leaf_changes leaf (map change changed)
own_leaf leaf [] change changed before after is key order order_before order_after lead = absurd (cc)
own_leaf leaf (col ∷ columns) change changed before after is key order order_before order_after lead =
    let zero_is : col ≡ 0 = cc in
    let own : leaf.columns ≡ 0 ∷ columns = is ∙ ap (λ (c : ℕ). c ∷ columns) zero_is in
    let P : List ℕ → Type 0 = λ cs.
    leaf_writes leaf.name (content (record { conds = leaf.conds; columns = cs }) before) (content (record { conds = leaf.conds; columns = cs }) after)
    ≡ filter_map (λ row. written leaf.name (record { conds = leaf.conds; columns = cs }) (change row)) changed in
    subst P (sym own) (leaf_law leaf.name leaf.conds columns change changed before after order order_before order_after lead) ∙ sym (mapped_changes leaf change changed)

-- what a whole database has under the names of its relations, before a change of one of them and after it
pub record IsChange (name : List ℕ) (whole later : Relations) (before after : List (List Value)) : Type 0 where
  pub first : rows_of whole name ≡ before
  pub second : rows_of later name ≡ after
  pub others : (other : List ℕ) → other ≢ name → rows_of later other ≡ rows_of whole other

leaf_of_change : (leaf : FragmentLeaf) (name : List ℕ) (whole later : Relations) (change : List Value → Change) (changed before after : List (List Value)) → HasKey leaf → IsChange name whole later before after → Ascends changed → Ascends before → Ascends after → Lead change changed before after →
    leaf_writes leaf.name (content (unnamed leaf) (rows_of whole leaf.name.relation)) (content (unnamed leaf) (rows_of later leaf.name.relation))
    ≡ cond (pointwise nat_eq leaf.name.relation name) (leaf_changes leaf (map change changed)) []
leaf_of_change leaf name whole later change changed before after key is order order_before order_after lead =
    let relation = leaf.name.relation in
    elim (pointwise nat_eq relation name) as (λ t. pointwise nat_eq relation name ≡ t →
    leaf_writes leaf.name (content (unnamed leaf) (rows_of whole relation)) (content (unnamed leaf) (rows_of later relation)) ≡ cond t (leaf_changes leaf (map change changed)) []) [
      | true ↦ λ test.
          let same : relation ≡ name = same_text relation name (sym test) in
          ap₂ (λ (one two : List (List Value)). leaf_writes leaf.name (content (unnamed leaf) one) (content (unnamed leaf) two)) (ap (rows_of whole) same ∙ is.first) (ap (rows_of later) same ∙ is.second)
          ∙ own_leaf leaf leaf.columns change changed before after refl key order order_before order_after lead
      | false ↦ λ test.
          let stays = is.others relation (other_text relation name (sym test)) in
          let there = content (unnamed leaf) (rows_of whole relation) in
          ap (λ (two : List (List Value)). leaf_writes leaf.name there (content (unnamed leaf) two)) stays
          ∙ all_none (λ at. write_between leaf.name at (row_at at there) (row_at at there)) (map key_of (merged_rows there there)) (λ at. none_between leaf.name at (row_at at there))
    ] refl

flat_same : {A B : Type 0} (f g : A → List B) (items : List A) → AllByRecursion (λ item. f item ≡ g item) items → flat_map f items ≡ flat_map g items
flat_same f g [] same = refl
flat_same {A} {B} f g (item ∷ items) same = ap₂ (λ (one rest : List B). one ++ rest) same.0 (flat_same f g items same.1)

each_leaf : (P Q : FragmentLeaf → Type 0) (leaves : List FragmentLeaf) → ((leaf : FragmentLeaf) → P leaf → Q leaf) → AllByRecursion P leaves → AllByRecursion Q leaves
each_leaf P Q [] more all = tt
each_leaf P Q (leaf ∷ leaves) more all = (more leaf all.0, each_leaf P Q leaves more all.1)

-- the writes between whole databases that differ in one relation are those of the changes that lead from its rows to the later ones
pub writes_are : (catalogue : Catalogue) (name : List ℕ) (whole later : Relations) (change : List Value → Change) (changed before after : List (List Value)) → IsChange name whole later before after → Ascends changed → Ascends before → Ascends after → Lead change changed before after →
    writes_of name (map change changed) (catalogue_leaves catalogue) ≡ writes_between catalogue whole later
writes_are catalogue name whole later change changed before after is order order_before order_after lead =
    sym (flat_same (λ leaf. leaf_writes leaf.name (content (unnamed leaf) (rows_of whole leaf.name.relation)) (content (unnamed leaf) (rows_of later leaf.name.relation)))
    (λ leaf. cond (pointwise nat_eq leaf.name.relation name) (leaf_changes leaf (map change changed)) []) (catalogue_leaves catalogue)
    (each_leaf HasKey (λ leaf. leaf_writes leaf.name (content (unnamed leaf) (rows_of whole leaf.name.relation)) (content (unnamed leaf) (rows_of later leaf.name.relation))
    ≡ cond (pointwise nat_eq leaf.name.relation name) (leaf_changes leaf (map change changed)) []) (catalogue_leaves catalogue)
    (λ leaf key. leaf_of_change leaf name whole later change changed before after key is order order_before order_after lead) (relations_key catalogue.relations)))

no_writes : (leaves : List FragmentLeaf) (whole : Relations) → flat_map (λ leaf. leaf_writes leaf.name (content (unnamed leaf) (rows_of whole leaf.name.relation)) (content (unnamed leaf) (rows_of whole leaf.name.relation))) leaves ≡ []
no_writes [] whole = refl
no_writes (leaf ∷ leaves) whole =
    let there = content (unnamed leaf) (rows_of whole leaf.name.relation) in
    ap₂ (λ (one rest : List Write). one ++ rest)
    (all_none (λ at. write_between leaf.name at (row_at at there) (row_at at there)) (map key_of (merged_rows there there)) (λ at. none_between leaf.name at (row_at at there))) (no_writes leaves whole)

-- nothing is written where nothing is changed
pub nothing_between : (catalogue : Catalogue) (whole : Relations) → writes_between catalogue whole whole ≡ []
nothing_between catalogue whole = no_writes (catalogue_leaves catalogue) whole

-- a relation put in the place of another

pub put_change : (whole : Relations) (name : List ℕ) (rows : List (List Value)) → IsChange name whole (finite.insert whole name rows) (rows_of whole name) rows
put_change whole name rows = record {
  first = refl;
  second = ap (λ o. unwrap_or o []) (finite.get-insert nat_list_cmp_total whole name rows name ∙ ap (λ t. cond t (Some rows) (finite.get whole name)) ((eq_by_cmp_equiv nat_list_cmp_total).refl name));
  others = λ other apart. put_keeps whole name rows other (λ o. unwrap_or o [] ≡ rows_of whole other) (λ same. absurd (apart same)) refl;
}

pub replaced_change : (whole : Relations) (name : List ℕ) (rows : List (List Value)) → IsSome (finite.get whole name) → IsChange name whole (replaced whole name rows) (rows_of whole name) rows
replaced_change whole name rows there =
    let P : Bool → Type 0 = λ t. IsChange name whole (cond t (finite.insert whole name rows) whole) (rows_of whole name) rows in
    subst P (sym there) (put_change whole name rows)

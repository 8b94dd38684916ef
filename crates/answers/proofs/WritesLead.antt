-- The writes between two whole databases lead each leaf from what it has of the one to what it has of the other.
use Rattle.std.proofs.Common.{◌≡◌, ℤ, Bool, true, false, cond, List, [], ◌∷◌, flat_map, map, Option, Some, None, refl, ap, ap₂, sym, ◌∙◌}
use Rattle.std.specs.List.{AllByRecursion, list_any}
use Rattle.std.specs.Ordering.{int_eq}
use Rattle.terms.specs.declared.leaf.Leaf.{Leaf}
use Rattle.terms.specs.declared.value.Value.{Value}
use Rattle.terms.specs.declared.write.Write.{Write}
use Rattle.terms.specs.Row.{key_of}
use Rattle.meaning.specs.Relation.{Ascends}
use Rattle.meaning.specs.Whole.{Relations, rows_of}
use Rattle.catalog.specs.declared.fragment_leaf.FragmentLeaf.{FragmentLeaf}
use Rattle.catalog.specs.Catalogue.{Catalogue}
use Rattle.catalog.specs.Fragment.{content}
use Rattle.catalog.specs.FragmentLeaf.{catalogue_leaves, is_name_of, leaf_named, unnamed}
use Rattle.catalog.specs.Keyed.{row_at}
use Rattle.catalog.specs.Laws.{LeafNamesAreUnique}
use Rattle.catalog.proofs.FormedTrees.{all_both}
use Rattle.plan.specs.Contents.{AreParts, ContentsAscend}
use Rattle.plan.specs.Reduced.{same_leaf}
use Rattle.plan.specs.Stated.{kinds_in}
use Rattle.plan.proofs.CarriedConds.{and_true, both}
use Rattle.plan.proofs.Fetched.{one_leaf, one_name}
use Rattle.answers.specs.Merged.{merged_rows}
use Rattle.answers.specs.Writes.{WritesLead, applied, key_written, leaf_of, leaf_writes, part_in, write_between}
use Rattle.answers.proofs.Applied.{Leaves, all_given, any_back, any_front, between, comes, given_there, one_is_there, own_key, stays, touches, unchanged}
use Rattle.answers.proofs.LeavesWritten.{same_itself}
use Rattle.answers.proofs.Mapped.{found_key, one_key}
use Rattle.answers.proofs.Merged.{merged_at}

-- the writes to one leaf, and to leaves
abbrev writes_to : Relations → Relations → FragmentLeaf → List Write
writes_to before after leaf = leaf_writes leaf.name (content (unnamed leaf) (rows_of before leaf.name.relation)) (content (unnamed leaf) (rows_of after leaf.name.relation))

abbrev writes_in : Relations → Relations → List FragmentLeaf → List Write
writes_in before after leaves = flat_map (writes_to before after) leaves

abbrev IsUnique : List FragmentLeaf → FragmentLeaf → Type 0
IsUnique all leaf = leaf_named leaf.name all ≡ Some leaf

-- each write to a key of a leaf leaves the part after there
write_leaves : (all : List FragmentLeaf) (before after : Relations) (one leaf : FragmentLeaf) (key at : ℤ) (write : Write) → IsUnique all one → IsUnique all leaf → write_between one.name at (part_in before one at) (part_in after one at) ≡ Some write → Leaves leaf.name key (part_in after leaf key) write
write_leaves all before after one leaf key at write unique unique_leaf is touched =
    let made = between one.name at (part_in before one at) (part_in after one at) write (λ part there. found_key at (content (unnamed one) (rows_of after one.name.relation)) part there) is in
    let parts = both (same_leaf (leaf_of write) leaf.name) (int_eq (key_written write) key) touched in
    let name : one.name ≡ leaf.name = sym made.to ∙ one_name (leaf_of write) leaf.name parts.0 in
    let same : one ≡ leaf = one_leaf all one leaf unique unique_leaf name in
    let here : at ≡ key = sym made.there ∙ one_key (key_written write) key parts.1 in
    made.value ∙ ap₂ (λ (l : FragmentLeaf) (k : ℤ). part_in after l k) same here

each_write : (all : List FragmentLeaf) (before after : Relations) (leaf : FragmentLeaf) (key : ℤ) (leaves : List FragmentLeaf) → IsUnique all leaf → AllByRecursion (IsUnique all) leaves → AllByRecursion (Leaves leaf.name key (part_in after leaf key)) (writes_in before after leaves)
each_write all before after leaf key [] unique each = tt
each_write all before after leaf key (one ∷ leaves) unique each =
    let first = content (unnamed one) (rows_of before one.name.relation) in
    let second = content (unnamed one) (rows_of after one.name.relation) in
    all_both (Leaves leaf.name key (part_in after leaf key)) (writes_to before after one) (writes_in before after leaves)
    (all_given (Leaves leaf.name key (part_in after leaf key)) (λ at. write_between one.name at (row_at at first) (row_at at second)) (map key_of (merged_rows first second)) (λ at write is. write_leaves all before after one leaf key at write each.0 unique is))
    (each_write all before after leaf key leaves unique each.1)

-- where the parts differ, some write is to the key

pub own_touched : (leaf : Leaf) (first second : List (List Value)) (key : ℤ) (write : Write) → Ascends first → write_between leaf key (row_at key first) (row_at key second) ≡ Some write →
    list_any (touches leaf key) (leaf_writes leaf first second) ≡ true
own_touched leaf first second key write order is =
    let row = one_is_there leaf key (row_at key first) (row_at key second) write is in
    let made = between leaf key (row_at key first) (row_at key second) write (λ part there. found_key key second part there) is in
    given_there (touches leaf key) (λ at. write_between leaf at (row_at at first) (row_at at second)) key (merged_rows first second) row.0 write (merged_at key first second order ∙ row.1) is
    (and_true (same_leaf (leaf_of write) leaf) (int_eq (key_written write) key) (ap (λ (l : Leaf). same_leaf l leaf) made.to ∙ same_itself leaf) (ap (λ (k : ℤ). int_eq k key) made.there ∙ own_key key))

some_touched : (before after : Relations) (leaf : FragmentLeaf) (key : ℤ) (leaves : List FragmentLeaf) → leaf_named leaf.name leaves ≡ Some leaf → list_any (touches leaf.name key) (writes_to before after leaf) ≡ true → list_any (touches leaf.name key) (writes_in before after leaves) ≡ true
some_touched before after leaf key [] there touched = absurd (cc)
some_touched before after leaf key (one ∷ leaves) there touched = at (λ h. some_touched before after leaf key leaves h touched) (is_name_of leaf.name one) there
  where
    at : (leaf_named leaf.name leaves ≡ Some leaf → list_any (touches leaf.name key) (writes_in before after leaves) ≡ true) → (t : Bool) → cond t (Some one) (leaf_named leaf.name leaves) ≡ Some leaf → list_any (touches leaf.name key) (writes_in before after (one ∷ leaves)) ≡ true
    at more true is =
        let same : one ≡ leaf = cc in
        any_front (touches leaf.name key) (writes_to before after one) (writes_in before after leaves) (ap (λ (l : FragmentLeaf). list_any (touches leaf.name key) (writes_to before after l)) same ∙ touched)
    at more false is = any_back (touches leaf.name key) (writes_to before after one) (writes_in before after leaves) (more is)

leaf_leads : (all : List FragmentLeaf) (before after : Relations) (leaf : FragmentLeaf) (key : ℤ) → AllByRecursion (IsUnique all) all → IsUnique all leaf → Ascends (content (unnamed leaf) (rows_of before leaf.name.relation)) →
    applied leaf.name (writes_in before after all) (part_in before leaf) key ≡ part_in after leaf key
leaf_leads all before after leaf key each unique order = at (write_between leaf.name key (part_in before leaf key) (part_in after leaf key)) refl
  where
    writes : List Write
    writes = writes_in before after all

    leave : AllByRecursion (Leaves leaf.name key (part_in after leaf key)) writes
    leave = each_write all before after leaf key all unique each

    at : (o : Option Write) → write_between leaf.name key (part_in before leaf key) (part_in after leaf key) ≡ o → applied leaf.name writes (part_in before leaf) key ≡ part_in after leaf key
    at None is = stays leaf.name key (part_in after leaf key) writes (part_in before leaf) leave (unchanged leaf.name key (part_in before leaf key) (part_in after leaf key) is)
    at (Some write) is = comes leaf.name key (part_in after leaf key) writes (part_in before leaf) leave (some_touched before after leaf key all unique (own_touched leaf.name (content (unnamed leaf) (rows_of before leaf.name.relation)) (content (unnamed leaf) (rows_of after leaf.name.relation)) key write order is))

-- the contents of the leaves have parts that ascend by their keys, and so each leaf is led
abbrev HasParts : Catalogue → Relations → FragmentLeaf → Type 0
HasParts catalogue whole leaf = AreParts (kinds_in catalogue leaf.name.relation) leaf.columns (content (unnamed leaf) (rows_of whole leaf.name.relation))

each_leads : (catalogue : Catalogue) (all : List FragmentLeaf) (before after : Relations) (key : ℤ) (leaves : List FragmentLeaf) → AllByRecursion (IsUnique all) all → AllByRecursion (IsUnique all) leaves → AllByRecursion (HasParts catalogue before) leaves →
    AllByRecursion (λ leaf. applied leaf.name (writes_in before after all) (part_in before leaf) key ≡ part_in after leaf key) leaves
each_leads catalogue all before after key [] each unique parts = tt
each_leads catalogue all before after key (leaf ∷ leaves) each unique parts =
    (leaf_leads all before after leaf key each unique.0 parts.0.ascends, each_leads catalogue all before after key leaves each unique.1 parts.1)

pub writes_lead : LeafNamesAreUnique → ContentsAscend → WritesLead
writes_lead unique ascend catalogue before after key formed fit =
    let each = unique catalogue formed in
    each_leads catalogue (catalogue_leaves catalogue) before after key (catalogue_leaves catalogue) each each (ascend catalogue before formed fit)

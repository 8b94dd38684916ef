-- Writes: what leads from the contents before a change to those after it.
use Rattle.std.specs.Prelude.{◌≡◌, ◌&&◌, ℤ, Bool, true, false, if◌then◌else◌, List, [], ◌∷◌, Option, Some, None, flat_map, map, option_map}
use Rattle.std.specs.List.{AllByRecursion, filter_map, list_any}
use Rattle.std.specs.Ordering.{int_eq, is_eq}
use Rattle.terms.specs.declared.leaf.Leaf.{Leaf}
use Rattle.terms.specs.declared.value.Value.{Value}
use Rattle.terms.specs.declared.write.Write.{Write}
use Rattle.terms.specs.declared.write.Write.TheVariants.{Put, Del}
use Rattle.terms.specs.Row.{key_of}
use Rattle.terms.specs.Value.{value_cmp}
use Rattle.meaning.specs.Whole.{FitsSchema, Relations, rows_of}
use Rattle.catalog.specs.declared.fragment_leaf.FragmentLeaf.{FragmentLeaf}
use Rattle.catalog.specs.Catalogue.{Catalogue}
use Rattle.catalog.specs.Formed.{IsFormed}
use Rattle.catalog.specs.Fragment.{content}
use Rattle.catalog.specs.FragmentLeaf.{catalogue_leaves, schemas_of, unnamed}
use Rattle.catalog.specs.Keyed.{row_at}
use Rattle.plan.specs.Reduced.{same_leaf}
use Rattle.answers.specs.Merged.{merged_rows}

-- whether two parts have the same values
abbrev pub same_part : List Value → List Value → Bool
same_part [] [] = true
same_part [] (value ∷ values) = false
same_part (value ∷ values) [] = false
same_part (value ∷ values) (other ∷ others) = is_eq (value_cmp value other) && same_part values others

-- the write that leads from a leaf's part at a key to another part there: none where they are the same
abbrev pub write_between : Leaf → ℤ → Option (List Value) → Option (List Value) → Option Write
write_between leaf key before None = option_map (λ part. Del leaf key) before
write_between leaf key None (Some after) = Some (Put leaf after)
write_between leaf key (Some before) (Some after) = if same_part before after then None else Some (Put leaf after)

-- the writes to a leaf that lead from one content to another, by ascending keys
abbrev pub leaf_writes : Leaf → List (List Value) → List (List Value) → List Write
leaf_writes leaf before after = filter_map (λ key. write_between leaf key (row_at key before) (row_at key after)) (map key_of (merged_rows before after))

-- the writes that lead from one whole database to another, leaf by leaf
abbrev pub writes_between : Catalogue → Relations → Relations → List Write
writes_between catalogue before after =
    flat_map (λ leaf. leaf_writes leaf.name (content (unnamed leaf) (rows_of before leaf.name.relation)) (content (unnamed leaf) (rows_of after leaf.name.relation))) (catalogue_leaves catalogue)

-- the leaf of a write, and the key
abbrev pub leaf_of : Write → Leaf
leaf_of (Put leaf part) = leaf
leaf_of (Del leaf key) = leaf

abbrev pub key_written : Write → ℤ
key_written (Put leaf part) = key_of part
key_written (Del leaf key) = key

-- whether some leaf has this name
abbrev pub is_leaf_in : List FragmentLeaf → Leaf → Bool
is_leaf_in leaves name = list_any (λ leaf. same_leaf leaf.name name) leaves

-- the part that a write leaves at its key
abbrev pub part_written : Write → Option (List Value)
part_written (Put leaf part) = Some part
part_written (Del leaf key) = None

-- what a leaf has at each key after writes, one after another, of what it had there
abbrev pub applied : Leaf → List Write → (ℤ → Option (List Value)) → ℤ → Option (List Value)
applied leaf [] content key = content key
applied leaf (write ∷ writes) content key =
    applied leaf writes (λ at. if same_leaf (leaf_of write) leaf && int_eq (key_written write) at then part_written write else content at) key

-- the part that a whole database has in a leaf at a key
abbrev pub part_in : Relations → FragmentLeaf → ℤ → Option (List Value)
part_in whole leaf key = row_at key (content (unnamed leaf) (rows_of whole leaf.name.relation))

-- the writes between two whole databases lead in each leaf, at each key, from the part of the one to the part of the other
abbrev pub WritesLead : Type 0
WritesLead = (catalogue : Catalogue) (before after : Relations) (key : ℤ) → IsFormed catalogue → FitsSchema (schemas_of catalogue) before →
    AllByRecursion (λ leaf. applied leaf.name (writes_between catalogue before after) (part_in before leaf) key ≡ part_in after leaf key) (catalogue_leaves catalogue)

-- The moves at a place between what it has of rows are those of the rows, one by one.
use Rattle.std.proofs.Common.{◌≡◌, ℕ, ℤ, Bool, true, false, cond, List, [], ◌∷◌, ◌++◌, flat_map, length, map, Option, Some, None, option_and_then, option_map, Result, Ok, Err, IfOk, refl, ap, ap₂, sym, ◌∙◌, subst}
use Rattle.std.specs.List.{AllByRecursion, cons_option, filter_map, slice_get}
use Rattle.terms.specs.declared.leaf.Leaf.{Leaf}
use Rattle.terms.specs.declared.memory.Memory.{Memory}
use Rattle.terms.specs.declared.value.Value.{Value}
use Rattle.terms.specs.declared.write.Write.{Write}
use Rattle.terms.specs.Row.{key_of}
use Rattle.meaning.specs.declared.schema.RelationSchema.{RelationSchema}
use Rattle.meaning.specs.Relation.{Ascends}
use Rattle.meaning.specs.Schema.{relation_named}
use Rattle.meaning.specs.Whole.{FitsSchema, Relations, rows_of}
use Rattle.catalog.specs.declared.fragment_leaf.FragmentLeaf.{FragmentLeaf}
use Rattle.catalog.specs.Catalogue.{Catalogue}
use Rattle.catalog.specs.Fragment.{content, part}
use Rattle.catalog.specs.FragmentLeaf.{catalogue_leaves, is_name_of, leaf_named, schemas_of}
use Rattle.catalog.specs.Keyed.{row_at}
use Rattle.catalog.proofs.Keyed.{content-at}
use Rattle.plan.proofs.ContentParts.{content_ascends}
use Rattle.answers.specs.declared.moves.Move.{Move}
use Rattle.answers.specs.Laid.{Table}
use Rattle.answers.specs.Merged.{merged_rows}
use Rattle.answers.specs.Moved.{moves_by, part_held, rows_moved, site_moves}
use Rattle.answers.specs.Moves.{at_site, content_of, is_there, leaf_numbered, leaf_there, moves_between, numbers, place_moves}
use Rattle.answers.specs.Outcome.{rows_changed}
use Rattle.answers.specs.Writes.{leaf_writes, write_between}
use Rattle.answers.proofs.LeafByLeaf.{HasKey, relations_key}
use Rattle.answers.proofs.Mapped.{found_key}
use Rattle.answers.proofs.Merged.{merged_ascends, merged_at}
use Rattle.answers.proofs.WritesLaw.{between_at, mapped_twice, same_made}

-- a leaf, if there is one, has the key first
abbrev pub IsKeyed : Option FragmentLeaf → Type 0
IsKeyed None = Unit {0}
IsKeyed (Some leaf) = HasKey leaf

named_keyed : (name : Leaf) (leaves : List FragmentLeaf) → AllByRecursion HasKey leaves → IsKeyed (leaf_named name leaves)
named_keyed name [] all = tt
named_keyed name (leaf ∷ leaves) all = at (is_name_of name leaf) (named_keyed name leaves all.1)
  where
    at : (t : Bool) → IsKeyed (leaf_named name leaves) → IsKeyed (cond t (Some leaf) (leaf_named name leaves))
    at true more = all.0
    at false more = more

there_keyed : (catalogue : Catalogue) (site : List ℕ) (name : Leaf) → IsKeyed (leaf_there catalogue site name)
there_keyed catalogue site name = at (is_there catalogue site name)
  where
    at : (t : Bool) → IsKeyed (cond t (leaf_named name (catalogue_leaves catalogue)) None)
    at true = named_keyed name (catalogue_leaves catalogue) (relations_key catalogue.relations)
    at false = tt

-- the columns of a leaf with the key first
record HasOthers (columns : List ℕ) : Type 0 where
  others : List ℕ
  is : columns ≡ 0 ∷ others

others_of : (columns : List ℕ) → slice_get columns 0 ≡ Some 0 → HasOthers columns
others_of [] key = absurd (cc)
others_of (col ∷ columns) key = let zero_is : col ≡ 0 = cc in record { others = columns; is = ap (λ (c : ℕ). c ∷ columns) zero_is }

-- what a content has at a key
none_held : (row : Option (List Value)) → None ≡ option_and_then (part_held None) row
none_held None = refl
none_held (Some row) = refl

held_at : (leaf : Option FragmentLeaf) (key : ℤ) (rows : List (List Value)) → IsKeyed leaf → Ascends rows → row_at key (content_of leaf rows) ≡ option_and_then (part_held leaf) (row_at key rows)
held_at None key rows keyed order = none_held (row_at key rows)
held_at (Some leaf) key rows keyed order =
    let rest = others_of leaf.columns keyed in
    let P : List ℕ → Type 0 = λ cs.
    row_at key (content (record { conds = leaf.conds; columns = cs }) rows) ≡ option_and_then (part (record { conds = leaf.conds; columns = cs })) (row_at key rows) in
    subst P (sym rest.is) (content-at leaf.conds rest.others key rows order)

held_ascends : (leaf : Option FragmentLeaf) (rows : List (List Value)) → IsKeyed leaf → Ascends rows → Ascends (content_of leaf rows)
held_ascends None rows keyed order = tt
held_ascends (Some leaf) rows keyed order =
    let rest = others_of leaf.columns keyed in
    let P : List ℕ → Type 0 = λ cs. Ascends (content (record { conds = leaf.conds; columns = cs }) rows) in
    subst P (sym rest.is) (content_ascends leaf.conds rest.others rows order)

-- the write of a row from one leaf to another
abbrev row_write : Leaf → Option FragmentLeaf → Option FragmentLeaf → List Value → Option Write
row_write name before after row = write_between name (key_of row) (part_held before row) (part_held after row)

write_at : (name : Leaf) (before after : Option FragmentLeaf) (key : ℤ) (o : Option (List Value)) → ((row : List Value) → o ≡ Some row → key_of row ≡ key) →
    write_between name key (option_and_then (part_held before) o) (option_and_then (part_held after) o) ≡ option_and_then (row_write name before after) o
write_at name before after key None own = refl
write_at name before after key (Some row) own = ap (λ (k : ℤ). write_between name k (part_held before row) (part_held after row)) (sym (own row refl))

place_writes : (name : Leaf) (before after : Option FragmentLeaf) (rows : List (List Value)) → IsKeyed before → IsKeyed after → Ascends rows →
    leaf_writes name (content_of before rows) (content_of after rows) ≡ filter_map (row_write name before after) rows
place_writes name before after rows keyed keyed_after order =
    let first = content_of before rows in
    let second = content_of after rows in
    let ascends_first = held_ascends before rows keyed order in
    let ascends_second = held_ascends after rows keyed_after order in
    mapped_twice (λ key. write_between name key (row_at key first) (row_at key second)) (merged_rows first second)
    ∙ same_made (λ row. write_between name (key_of row) (row_at (key_of row) first) (row_at (key_of row) second)) (row_write name before after) (merged_rows first second) rows
    (merged_ascends first second ascends_first ascends_second) order
    (λ key.
    ap (option_and_then (λ row. write_between name (key_of row) (row_at (key_of row) first) (row_at (key_of row) second))) (merged_at key first second ascends_first)
    ∙ between_at name first second key (row_at key first) (row_at key second) refl refl
    ∙ ap₂ (write_between name key) (held_at before key rows keyed order) (held_at after key rows keyed_after order)
    ∙ write_at name before after key (row_at key rows) (λ row is. found_key key rows row is))

-- what is given and then mapped
mapped_option : {B C : Type 0} (f : B → C) (o : Option B) (rest : List B) → map f (cons_option o rest) ≡ cons_option (option_map f o) (map f rest)
mapped_option f None rest = refl
mapped_option f (Some b) rest = refl

mapped_given : {A B C : Type 0} (f : B → C) (give : A → Option B) (items : List A) → map f (filter_map give items) ≡ filter_map (λ item. option_map f (give item)) items
mapped_given f give [] = refl
mapped_given {A} {B} {C} f give (item ∷ items) = mapped_option f (give item) (filter_map give items) ∙ ap (λ (rest : List C). cons_option (option_map f (give item)) rest) (mapped_given f give items)

rows_are : (old new : Catalogue) (rows : List (List Value)) (site : List ℕ) (name : Leaf) → Ascends rows → rows_moved old new rows site name ≡ place_moves old new rows site name
rows_are old new rows site name order =
    let before = leaf_there old site name in
    let after = leaf_there new site name in
    sym (ap (map (at_site site)) (place_writes name before after rows (there_keyed old site name) (there_keyed new site name) order) ∙ mapped_given (at_site site) (row_write name before after) rows)

flat_all : {A B : Type 0} (f g : A → List B) (items : List A) → ((item : A) → f item ≡ g item) → flat_map f items ≡ flat_map g items
flat_all f g [] same = refl
flat_all {A} {B} f g (item ∷ items) same = ap₂ (λ (one rest : List B). one ++ rest) (same item) (flat_all f g items same)

-- the moves that the code makes of ascending rows are those between the contents
pub moves_are : (old new : Catalogue) (relation : List ℕ) (rows : List (List Value)) → Ascends rows → moves_by old new relation rows ≡ moves_between old new relation rows
moves_are old new relation rows order =
    flat_all (site_moves old new relation rows) (λ site. flat_map (λ number. place_moves old new rows site (leaf_numbered relation number)) numbers) old.sites
    (λ site.
    flat_all (λ number. rows_moved old new rows site (leaf_numbered relation number)) (λ number. place_moves old new rows site (leaf_numbered relation number)) numbers
    (λ number. rows_are old new rows site (leaf_numbered relation number) order))

pub moves_from : {V : Type 0} (result : Result V Memory) (items : V → List Move) (old new : Catalogue) (relation : List ℕ) (table : Table) (own : RelationSchema) (rows : List (List Value)) (schema : RelationSchema) → Some own ≡ relation_named relation (schemas_of old) →
    rows ≡ rows_changed (length own.columns) table → IfOk result (λ moves. items moves ≡ moves_by old new relation rows) → relation_named relation (schemas_of old) ≡ Some schema →
    IfOk result (λ moves. (whole : Relations) → FitsSchema (schemas_of old) whole → rows_changed (length schema.columns) table ≡ rows_of whole relation → items moves ≡ moves_between old new relation (rows_of whole relation))
moves_from (Ok moves) items old new relation table own rows schema named changed is there = λ whole fit shown.
    let same : own ≡ schema = cc in
    let all : rows ≡ rows_of whole relation = changed ∙ ap (λ (s : RelationSchema). rows_changed (length s.columns) table) same ∙ shown in
    is ∙ ap (moves_by old new relation) all ∙ moves_are old new relation (rows_of whole relation) (fit.fit relation schema there).ascends
moves_from (Err error) items old new relation table own rows schema named changed is there = tt

-- The database of a list of catalogues, each of which splits one relation otherwise than the one before it, is lawful: what moves where the next one comes into force leads each place from what it has under the one to what it has under the other.
use Rattle.std.proofs.Common.{◌≡◌, refl, sym, ap, ap₂, ◌∙◌, subst, ℕ, zero, suc, ℤ, nat_eq, Bool, true, false, cond, ◌==◌, ◌&&◌, if◌then◌else◌, List, [], ◌∷◌, ◌++◌, append-nil, map, filter, flat_map, Option, Some, None, arith}
use Rattle.std.proofs.lemmas.Bool.Decides.{nat_tests}
use Rattle.std.proofs.lemmas.Map.Text.{is_eq-slice_cmp}
use Rattle.std.specs.Cmp.{int_cmp_total}
use Rattle.std.specs.Cmp.Lexicographic.{nat_list_eq_equiv, pointwise, same_text, slice_cmp}
use Rattle.std.specs.declared.cmp.Ordering.TheVariants.{Less}
use Rattle.std.specs.FinMap as fin
use Rattle.std.specs.List.{AllByRecursion, filter_map, list_any, slice_get}
use Rattle.std.specs.List.Sorted.{IsStrictlySortedBy}
use Rattle.std.specs.Option.{option_and_then}
use Rattle.std.specs.Ordering.{int_cmp, int_eq, is_eq, nat_cmp}
use Rattle.terms.specs.declared.leaf.Leaf.{Leaf}
use Rattle.terms.specs.declared.value.Value.{Value}
use Rattle.terms.specs.declared.write.Write.{Write}
use Rattle.terms.specs.declared.write.Write.TheVariants.{Del, Put}
use Rattle.terms.specs.Leaf.{leaf_cmp}
use Rattle.terms.specs.Row.{key_of}
use Rattle.meaning.specs.declared.schema.RelationSchema.{RelationSchema}
use Rattle.meaning.specs.declared.statement.Statement.{Statement}
use Rattle.meaning.specs.declared.statement.Statement.TheVariants as statement
use Rattle.meaning.specs.Meaning.{meaning}
use Rattle.meaning.specs.Whole.{FitsSchema, Relations, rows_of}
use Rattle.meaning.proofs.Kept.{meaning_fits}
use Rattle.catalog.specs.declared.fragment_leaf.FragmentLeaf.{FragmentLeaf}
use Rattle.catalog.specs.declared.path.Path.{Path}
use Rattle.catalog.specs.declared.relation.SplitRelation as code
use Rattle.catalog.specs.Catalogue.{Catalogue, SplitRelation}
use Rattle.catalog.specs.Chain.{Follow, IsNext}
use Rattle.catalog.specs.Formed.{IsFormed, names_in}
use Rattle.catalog.specs.Fragment.{content}
use Rattle.catalog.specs.FragmentLeaf.{catalogue_leaves, is_name_of, leaf_named, leaves_from, leaves_of, schemas_of, unnamed}
use Rattle.catalog.specs.Keyed.{row_at}
use Rattle.catalog.specs.Path.{columns_beside_key, paths}
use Rattle.catalog.specs.Relation.{catalogue_of}
use Rattle.meaning.specs.Schema.{kinds_of}
use Rattle.plan.specs.Contents.{ContentsAscend}
use Rattle.plan.specs.Reduced.{same_leaf}
use Rattle.answers.specs.declared.moves.Move.{Move}
use Rattle.answers.specs.Moves.{MovesLead, MovesStay, at_site, content_of, is_moved, is_site, leaf_numbered, leaf_there, moves_between, numbers, part_there, writes_at}
use Rattle.answers.specs.Writes.{WritesLead, applied, key_written, leaf_of, leaf_writes, part_written, write_between, writes_between}
use Rattle.answers.proofs.WritesLaw.{none_between}
use Rattle.store.specs.Content.{Content, set_at}
use Rattle.protocol.specs.Catalogues.{IsLawfulList, then_in_force}
use Rattle.protocol.specs.Language.{written}
use Rattle.protocol.specs.Local.{local}
use Rattle.site.proofs.Lawful.{local_lawful}
use Rattle.desk.specs.CatalogueDatabase as of_catalogue
use Rattle.desk.specs.CatalogueDatabase.{all_moves, content_at, databases, found, is_home, numbered, stored}
use Rattle.desk.specs.Database.{Database, IsStated, language, statements}
use Rattle.desk.specs.Place.{Place, move_in, write_in}
use Rattle.world.proofs.DatabaseIsStored.{get_stored}
use Rattle.world.proofs.DatabaseIsWritten.{and_none, found_name, one_step, order, writes_right}

-- ---- what a catalogue and the next one have in common
same_mapped : {A B : Type 0} (f : A → B) (before after : List A) (one other : A) → f one ≡ f other → map f (before ++ one ∷ after) ≡ map f (before ++ other ∷ after)
same_mapped f [] after one other same = ap (λ x. x ∷ map f after) same
same_mapped f (first ∷ before) after one other same = ap (λ xs. f first ∷ xs) (same_mapped f before after one other same)

-- leaves that don't have a name are passed over where it is looked for
passed : (name : Leaf) (leaves others : List FragmentLeaf) → AllByRecursion (λ leaf. is_name_of name leaf ≡ false) leaves → leaf_named name (leaves ++ others) ≡ leaf_named name others
passed name [] others none = refl
passed name (leaf ∷ leaves) others none = rw (none.0) (passed name leaves others none.1)

behind : (name : Leaf) (leaves one other : List FragmentLeaf) → leaf_named name one ≡ leaf_named name other → leaf_named name (leaves ++ one) ≡ leaf_named name (leaves ++ other)
behind name [] one other same = same
behind name (leaf ∷ leaves) one other same = ap (λ (o : Option FragmentLeaf). if is_name_of name leaf then Some leaf else o) (behind name leaves one other same)

none_named : (name : Leaf) (relation columns : List ℕ) (number : ℕ) (ways : List Path) → pointwise nat_eq relation name.relation ≡ false → AllByRecursion (λ leaf. is_name_of name leaf ≡ false) (leaves_from relation columns number ways)
none_named name relation columns number [] other = tt
none_named name relation columns number (way ∷ ways) other = (ap (λ (b : Bool). b && (number == name.number)) other, none_named name relation columns (suc number) ways other)

same_found : (name : Leaf) (before after : List SplitRelation) (one other : SplitRelation) → pointwise nat_eq one.schema.name name.relation ≡ false → pointwise nat_eq other.schema.name name.relation ≡ false →
    leaf_named name (flat_map leaves_of (before ++ one ∷ after)) ≡ leaf_named name (flat_map leaves_of (before ++ other ∷ after))
same_found name [] after one other first second =
    passed name (leaves_of one) (flat_map leaves_of after) (none_named name one.schema.name (columns_beside_key (kinds_of one.schema)) 1 (paths one.tree) first)
    ∙ sym (passed name (leaves_of other) (flat_map leaves_of after) (none_named name other.schema.name (columns_beside_key (kinds_of other.schema)) 1 (paths other.tree) second))
same_found name (relation ∷ before) after one other first second = behind name (leaves_of relation) _ _ (same_found name before after one other first second)

-- ---- names that ascend differ
all_there : (P : List ℕ → Type 0) (before after : List SplitRelation) (one : SplitRelation) → AllByRecursion P (names_in (before ++ one ∷ after)) → P one.schema.name
all_there P [] after one all = all.0
all_there P (relation ∷ before) after one all = all_there P before after one all.1

apart : (one other : List ℕ) → slice_cmp nat_cmp one other ≡ Less → pointwise nat_eq one other ≡ false
apart one other less = sym (is_eq-slice_cmp one other) ∙ ap is_eq less

-- the relations before and behind one have other names
abbrev AreOthers : List ℕ → List SplitRelation → Type 0
AreOthers name relations = AllByRecursion (λ relation. pointwise nat_eq name relation.schema.name ≡ false) relations

others_behind : (name : List ℕ) (relations : List SplitRelation) → AllByRecursion (λ other. slice_cmp nat_cmp name other ≡ Less) (names_in relations) → AreOthers name relations
others_behind name [] all = tt
others_behind name (relation ∷ relations) all = (apart name relation.schema.name all.0, others_behind name relations all.1)

others_of : (before after : List SplitRelation) (one : SplitRelation) → IsStrictlySortedBy (slice_cmp nat_cmp) (names_in (before ++ one ∷ after)) → AreOthers one.schema.name before × AreOthers one.schema.name after
unfolding IsStrictlySortedBy
others_of [] after one sorted = (tt, others_behind one.schema.name after sorted.0)
others_of (relation ∷ before) after one sorted =
    let rest = others_of before after one sorted.1 in
    let less = all_there (λ (name : List ℕ). slice_cmp nat_cmp relation.schema.name name ≡ Less) before after one sorted.0 in
    ((nat_list_eq_equiv.symm one.schema.name relation.schema.name ∙ apart relation.schema.name one.schema.name less, rest.0), rest.1)

-- ---- nothing moves of a relation whose split stays
flat_none : {A B : Type 0} (f : A → List B) (items : List A) → ((x : A) → f x ≡ []) → flat_map f items ≡ []
flat_none f [] none = refl
flat_none f (item ∷ items) none = ap (λ xs. xs ++ flat_map f items) (none item) ∙ flat_none f items none

filtered_none : {A B : Type 0} (f : A → Option B) (items : List A) → ((x : A) → f x ≡ None) → filter_map f items ≡ []
filtered_none f [] none = refl
filtered_none f (item ∷ items) none = rw (none item) (filtered_none f items none)

unmoved : (leaf : Leaf) (parts : List (List Value)) → leaf_writes leaf parts parts ≡ []
unmoved leaf parts = filtered_none (λ key. write_between leaf key (row_at key parts) (row_at key parts)) _ (λ key. none_between leaf key (row_at key parts))

module _ (old new : Catalogue) (name : List ℕ) (next : IsNext old new name) where
  pub schemas_same : schemas_of old ≡ schemas_of new
  schemas_same = ap (map (λ (relation : SplitRelation). relation.schema)) next.relations.are ∙ same_mapped (λ relation. relation.schema) next.relations.before next.relations.after next.relations.one next.relations.other next.relations.same ∙ sym (ap (map (λ (relation : SplitRelation). relation.schema)) next.relations.become)

  -- a leaf of another relation is the same
  leaf_same : (leaf : Leaf) → pointwise nat_eq name leaf.relation ≡ false → leaf_named leaf (catalogue_leaves old) ≡ leaf_named leaf (catalogue_leaves new)
  leaf_same leaf other =
      let differ = next.relations in
      let first : pointwise nat_eq differ.one.schema.name leaf.relation ≡ false = ap (λ (n : List ℕ). pointwise nat_eq n leaf.relation) differ.named ∙ other in
      ap (λ (relations : List SplitRelation). leaf_named leaf (flat_map leaves_of relations)) differ.are
      ∙ same_found leaf differ.before differ.after differ.one differ.other first (ap (λ (schema : RelationSchema). pointwise nat_eq schema.name leaf.relation) (sym differ.same) ∙ first)
      ∙ sym (ap (λ (relations : List SplitRelation). leaf_named leaf (flat_map leaves_of relations)) differ.become)

  pub there_same : (site : List ℕ) (leaf : Leaf) → pointwise nat_eq name leaf.relation ≡ false → leaf_there old site leaf ≡ leaf_there new site leaf
  there_same site leaf other = ap₂ (λ (sites : List (List ℕ)) (o : Option FragmentLeaf). if is_site (option_and_then (λ (one : FragmentLeaf). slice_get sites one.site) o) site then o else None) next.sites (leaf_same leaf other)

  none_of : (relation : List ℕ) (rows : List (List Value)) → pointwise nat_eq name relation ≡ false → moves_between old new relation rows ≡ []
  none_of relation rows other = flat_none _ old.sites (λ site. flat_none _ numbers (λ number.
      let leaf = leaf_numbered relation number in
      ap (λ (o : Option FragmentLeaf). map (at_site site) (leaf_writes leaf (content_of (leaf_there old site leaf) rows) (content_of o rows))) (sym (there_same site leaf other))
      ∙ ap (map (at_site site)) (unmoved leaf (content_of (leaf_there old site leaf) rows))))

  module _ (whole : Relations) where
    abbrev moves_of : RelationSchema → List Move
    moves_of schema = moves_between old new schema.name (rows_of whole schema.name)

    none_behind : (relations : List SplitRelation) → AreOthers name relations → flat_map moves_of (map (λ (relation : SplitRelation). relation.schema) relations) ≡ []
    none_behind [] others = refl
    none_behind (relation ∷ relations) others = ap (λ (moves : List Move). moves ++ flat_map moves_of (map (λ (relation : SplitRelation). relation.schema) relations)) (none_of relation.schema.name (rows_of whole relation.schema.name) others.0) ∙ none_behind relations others.1

    those_of : (before after : List SplitRelation) (one : SplitRelation) → one.schema.name ≡ name → AreOthers name before → AreOthers name after → flat_map moves_of (map (λ (relation : SplitRelation). relation.schema) (before ++ one ∷ after)) ≡ moves_between old new name (rows_of whole name)
    those_of [] after one named first second =
        ap (λ (moves : List Move). moves_of one.schema ++ moves) (none_behind after second) ∙ append-nil (moves_of one.schema) ∙ ap (λ (n : List ℕ). moves_between old new n (rows_of whole n)) named
    those_of (relation ∷ before) after one named first second =
        ap (λ (moves : List Move). moves ++ flat_map moves_of (map (λ (relation : SplitRelation). relation.schema) (before ++ one ∷ after))) (none_of relation.schema.name (rows_of whole relation.schema.name) first.0) ∙ those_of before after one named first.1 second

    -- what moves is of the relation that is split otherwise
    pub all_of_one : IsFormed old → all_moves old new whole ≡ moves_between old new name (rows_of whole name)
    all_of_one formed =
        let differ = next.relations in
        let sorted = subst (λ (relations : List SplitRelation). IsStrictlySortedBy (slice_cmp nat_cmp) (names_in relations)) differ.are formed.ascending in
        let others = others_of differ.before differ.after differ.one sorted in
        ap (λ (relations : List SplitRelation). flat_map moves_of (map (λ (relation : SplitRelation). relation.schema) relations)) differ.are
        ∙ those_of differ.before differ.after differ.one differ.named (subst (λ (n : List ℕ). AreOthers n differ.before) differ.named others.0) (subst (λ (n : List ℕ). AreOthers n differ.after) differ.named others.1)

-- ---- moves, seen from a place
module _ (db : Database) (site : List ℕ) (leaf : Leaf) where
  abbrev put_by : Move → Content → Content
  put_by move kept = if pointwise nat_eq move.site site && is_eq (leaf_cmp (move_in move).0.1 leaf) then set_at (move_in move).1.0 (move_in move).1.1 kept else kept

  put_there : (write : Write) (kept : Content) (at : ℤ) → fin.get (put_by (record { site = site; write = write }) kept) at ≡ (if same_leaf (leaf_of write) leaf && int_eq (key_written write) at then part_written write else fin.get kept at)
  put_there (Put to part) kept at = ap (λ (b : Bool). fin.get (if b && is_eq (leaf_cmp to leaf) then set_at (key_of part) (Some part) kept else kept) at) (nat_list_eq_equiv.refl site) ∙ one_step leaf to at (key_of part) (Some part) kept
  put_there (Del to key) kept at = ap (λ (b : Bool). fin.get (if b && is_eq (leaf_cmp to leaf) then set_at key None kept else kept) at) (nat_list_eq_equiv.refl site) ∙ one_step leaf to at key None kept

  -- what stands there at a key after moves
  pub get_moved : (moves : List Move) (kept : Content) (key : ℤ) → fin.get (written (language db) (site, leaf) (map move_in moves) kept) key ≡ applied leaf (writes_at site moves) (fin.get kept) key
  get_moved [] kept key = refl
  get_moved (move ∷ moves) kept key = get_moved moves (put_by move kept) key ∙ go (pointwise nat_eq move.site site) refl
    where
      rest : List Move
      rest = filter (λ other. pointwise nat_eq other.site site) moves

      go : (b : Bool) → pointwise nat_eq move.site site ≡ b → applied leaf (writes_at site moves) (fin.get (put_by move kept)) key ≡ applied leaf (map (λ other. other.write) (cond b (move ∷ rest) rest)) (fin.get kept) key
      go true here = ap (λ (now : ℤ → Option (List Value)). applied leaf (writes_at site moves) now key) (λ i at. (ap (λ (s : List ℕ). fin.get (put_by (record { site = s; write = move.write }) kept) at) (same_text move.site site (sym here)) ∙ put_there move.write kept at) i)
      go false away = ap (λ (b : Bool). applied leaf (writes_at site moves) (fin.get (if b && is_eq (leaf_cmp (move_in move).0.1 leaf) then set_at (move_in move).1.0 (move_in move).1.1 kept else kept)) key) away

-- ---- what a place has of a catalogue, by keys
module _ (lead : WritesLead) (ascend : ContentsAscend) (catalogue : Catalogue) (formed : IsFormed catalogue) (whole : Relations) (fits : FitsSchema (schemas_of catalogue) whole) (site : List ℕ) (name : Leaf) where
  pub get_part : (key : ℤ) → fin.get (content_at catalogue (site, name) whole) key ≡ part_there catalogue site name (rows_of whole name.relation) key
  get_part key = go (found catalogue name) refl
    where
      none_there : fin.get (of_catalogue.content_of None whole) key ≡ None
      none_there = fin.get-empty int_cmp key

      here : (leaf : FragmentLeaf) → found catalogue name ≡ Some leaf → (o : Option (List ℕ)) → fin.get (if of_catalogue.is_site o site then of_catalogue.content_of (Some leaf) whole else fin.empty) key ≡ row_at key (content_of (if is_site o site then Some leaf else None) (rows_of whole name.relation))
      here leaf there None = none_there
      here leaf there (Some home) = at (pointwise nat_eq home site)
        where
          at : (b : Bool) → fin.get (if b then of_catalogue.content_of (Some leaf) whole else fin.empty) key ≡ row_at key (content_of (if b then Some leaf else None) (rows_of whole name.relation))
          at true = get_stored (content (unnamed leaf) (rows_of whole leaf.name.relation)) key (order lead ascend catalogue formed whole name leaf fits there) ∙ ap (λ (n : Leaf). row_at key (content (unnamed leaf) (rows_of whole n.relation))) (found_name name leaf (catalogue_leaves catalogue) there)
          at false = none_there

      go : (o : Option FragmentLeaf) → found catalogue name ≡ o → fin.get (content_at catalogue (site, name) whole) key ≡ part_there catalogue site name (rows_of whole name.relation) key
      go None none =
          ap (λ (o : Option FragmentLeaf). fin.get (if of_catalogue.is_site (option_and_then (λ (leaf : FragmentLeaf). slice_get catalogue.sites leaf.site) o) site then of_catalogue.content_of o whole else fin.empty) key) none
          ∙ none_there
          ∙ sym (ap (λ (o : Option FragmentLeaf). row_at key (content_of (if is_site (option_and_then (λ (leaf : FragmentLeaf). slice_get catalogue.sites leaf.site) o) site then o else None) (rows_of whole name.relation))) none)
      go (Some leaf) there =
          ap (λ (o : Option FragmentLeaf). fin.get (if of_catalogue.is_site (option_and_then (λ (leaf : FragmentLeaf). slice_get catalogue.sites leaf.site) o) site then of_catalogue.content_of o whole else fin.empty) key) there
          ∙ here leaf there (slice_get catalogue.sites leaf.site)
          ∙ sym (ap (λ (o : Option FragmentLeaf). row_at key (content_of (if is_site (option_and_then (λ (leaf : FragmentLeaf). slice_get catalogue.sites leaf.site) o) site then o else None) (rows_of whole name.relation))) there)

-- ---- where the next catalogue comes into force
module _ (lead : WritesLead) (moved : MovesLead) (stay : MovesStay) (ascend : ContentsAscend) (db : Database) (old new : Catalogue) (name : List ℕ) (next : IsNext old new name) (formed : IsFormed old) (formed_new : IsFormed new) (whole : Relations) (fits : FitsSchema (schemas_of old) whole) where
  pub moves_right : (place : Place) → written (language db) place (map move_in (all_moves old new whole)) (content_at old place whole) ≡ content_at new place whole
  moves_right place =
      ap (λ (moves : List Move). written (language db) place (map move_in moves) (content_at old place whole)) (all_of_one old new name next whole formed)
      ∙ fin.same_map int_cmp_total fin.int_cmp-IsAntisymmetric _ _ (λ key.
      get_moved db site leaf moves (content_at old place whole) key
      ∙ ap (λ (now : ℤ → Option (List Value)). applied leaf (writes_at site moves) now key) (λ i at. get_part lead ascend old formed whole fits site leaf at i)
      ∙ leads key
      ∙ sym (get_part lead ascend new formed_new whole (subst (λ (schemas : List RelationSchema). FitsSchema schemas whole) (schemas_same old new name next) fits) site leaf key))
    where
      site : List ℕ
      site = place.0

      leaf : Leaf
      leaf = place.1

      moves : List Move
      moves = moves_between old new name (rows_of whole name)

      leads : (key : ℤ) → applied leaf (writes_at site moves) (part_there old site leaf (rows_of whole leaf.relation)) key ≡ part_there new site leaf (rows_of whole leaf.relation) key
      leads key = go (pointwise nat_eq name leaf.relation) refl
        where
          go : (b : Bool) → pointwise nat_eq name leaf.relation ≡ b → applied leaf (writes_at site moves) (part_there old site leaf (rows_of whole leaf.relation)) key ≡ part_there new site leaf (rows_of whole leaf.relation) key
          go true same = subst (λ (n : List ℕ). applied (leaf_numbered n leaf.number) (writes_at site moves) (part_there old site (leaf_numbered n leaf.number) (rows_of whole n)) key ≡ part_there new site (leaf_numbered n leaf.number) (rows_of whole n) key)
              (same_text name leaf.relation (sym same)) (moved old new name site leaf.number whole key formed formed_new (sym next.sites) fits)
          go false other =
              let away : is_moved old name site leaf ≡ false = ap (λ (b : Bool). list_any (λ home. pointwise nat_eq home site) old.sites && (b && list_any (λ number. number == leaf.number) numbers)) (nat_list_eq_equiv.symm leaf.relation name ∙ other) ∙ and_none (list_any (λ home. pointwise nat_eq home site) old.sites) in
              stay old new name site leaf (rows_of whole name) (part_there old site leaf (rows_of whole leaf.relation)) key away
              ∙ ap (λ (o : Option FragmentLeaf). row_at key (content_of o (rows_of whole leaf.relation))) (there_same old new name next site leaf other)

-- ---- the list
pub schemas_all : (first : Catalogue) (rest : List Catalogue) → Follow first rest → (n : ℕ) → schemas_of first ≡ schemas_of (numbered first rest n)
schemas_all first [] follow n = refl
schemas_all first (next ∷ rest) follow zero = refl
schemas_all first (next ∷ rest) follow (suc zero) = refl
schemas_all first (next ∷ rest) follow (suc (suc n)) = schemas_same first next follow.0.0 follow.0.1 ∙ schemas_all next rest follow.1 (suc n)

pub same_number : (n : ℕ) → (n == n) ≡ true
same_number n = grind (arith, nat_tests)

pub next_number : (n : ℕ) → (n == suc n) ≡ false
next_number n = grind (arith, nat_tests)

module _ (lead : WritesLead) (moved : MovesLead) (stay : MovesStay) (ascend : ContentsAscend) (first : Catalogue) (rest : List Catalogue) (follow : Follow first rest) (formed : (n : ℕ) → IsFormed (numbered first rest n)) where
  -- what an ordinary statement writes
  ordinary_right : (n : ℕ) (before after : Relations) (place : Place) → FitsSchema (schemas_of first) before → FitsSchema (schemas_of first) after →
      written (language (databases first rest)) place ((databases first rest).writes n n before after) (content_at (numbered first rest n) place before) ≡ content_at (numbered first rest n) place after
  ordinary_right n before after place fits fits_after =
      ap (λ (b : Bool). written (language (databases first rest)) place (if b then map (write_in (numbered first rest n)) (writes_between (numbered first rest n) before after) else map move_in (all_moves (numbered first rest n) (numbered first rest n) before)) (content_at (numbered first rest n) place before)) (same_number n)
      ∙ writes_right lead ascend (numbered first rest n) (formed n) before after place
      (subst (λ (schemas : List RelationSchema). FitsSchema schemas before) (schemas_all first rest follow n) fits) (subst (λ (schemas : List RelationSchema). FitsSchema schemas after) (schemas_all first rest follow n) fits_after)

  -- what moves with a REFRAGMENT
  next_right : (n : ℕ) (name : List ℕ) (whole : Relations) (place : Place) → IsNext (numbered first rest n) (numbered first rest (suc n)) name → FitsSchema (schemas_of first) whole →
      written (language (databases first rest)) place ((databases first rest).writes n (suc n) whole whole) (content_at (numbered first rest n) place whole) ≡ content_at (numbered first rest (suc n)) place whole
  next_right n name whole place next fits =
      ap (λ (b : Bool). written (language (databases first rest)) place (if b then map (write_in (numbered first rest n)) (writes_between (numbered first rest n) whole whole) else map move_in (all_moves (numbered first rest n) (numbered first rest (suc n)) whole)) (content_at (numbered first rest n) place whole)) (next_number n)
      ∙ moves_right lead moved stay ascend (databases first rest) (numbered first rest n) (numbered first rest (suc n)) name next (formed n) (formed (suc n)) whole (subst (λ (schemas : List RelationSchema). FitsSchema schemas whole) (schemas_all first rest follow n) fits) place

  pub lawful_lists : IsLawfulList local (statements (databases first rest))
  lawful_lists = record {
    site = local_lawful;
    keeps_whole = λ n stated whole is fits. meaning_fits (schemas_of first) stated whole is.of_schemas fits;
    writes_right = right;
  }
    where
      right : (n : ℕ) (stated : Statement) (whole : Relations) (place : Place) → IsStated (databases first rest) n stated → FitsSchema (schemas_of first) whole →
          written (language (databases first rest)) place ((databases first rest).writes n (then_in_force local (statements (databases first rest)) n stated) whole (meaning stated whole).1) (content_at (numbered first rest n) place whole)
          ≡ content_at (numbered first rest (then_in_force local (statements (databases first rest)) n stated)) place (meaning stated whole).1
      right n (statement.Select select) whole place is fits = ordinary_right n whole _ place fits (meaning_fits (schemas_of first) (statement.Select select) whole is.of_schemas fits)
      right n (statement.Insert insert) whole place is fits = ordinary_right n whole _ place fits (meaning_fits (schemas_of first) (statement.Insert insert) whole is.of_schemas fits)
      right n (statement.Update update) whole place is fits = ordinary_right n whole _ place fits (meaning_fits (schemas_of first) (statement.Update update) whole is.of_schemas fits)
      right n (statement.Delete delete) whole place is fits = ordinary_right n whole _ place fits (meaning_fits (schemas_of first) (statement.Delete delete) whole is.of_schemas fits)
      right n (statement.Refragment refragment) whole place is fits = next_right n refragment.relation.name whole place (is.next refragment refl) fits

pub formed_all : (first : Catalogue) (rest : List Catalogue) → IsFormed first → AllByRecursion IsFormed rest → (n : ℕ) → IsFormed (numbered first rest n)
formed_all first [] formed all n = formed
formed_all first (next ∷ rest) formed all zero = formed
formed_all first (next ∷ rest) formed all (suc zero) = formed
formed_all first (next ∷ rest) formed all (suc (suc n)) = formed_all next rest all.0 all.1 (suc n)

pub each_formed : (catalogs : List (List (List ℕ) × List code.SplitRelation)) → AllByRecursion (λ catalog. IsFormed (catalogue_of catalog)) catalogs → AllByRecursion IsFormed (map catalogue_of catalogs)
each_formed [] all = tt
each_formed (catalog ∷ catalogs) all = (all.0, each_formed catalogs all.1)

-- so, where the catalogues are those that were read
pub lawful_chain : WritesLead → MovesLead → MovesStay → ContentsAscend → (catalogs : List (List (List ℕ) × List code.SplitRelation)) → AllByRecursion (λ catalog. IsFormed (catalogue_of catalog)) catalogs →
    (first : Catalogue) (rest : List Catalogue) → map catalogue_of catalogs ≡ first ∷ rest → Follow first rest → IsLawfulList local (statements (databases first rest))
lawful_chain lead moved stay ascend catalogs all first rest same follow =
    let formed : AllByRecursion IsFormed (first ∷ rest) = subst (AllByRecursion IsFormed) same (each_formed catalogs all) in
    lawful_lists lead moved stay ascend first rest follow (formed_all first rest formed.0 formed.1)

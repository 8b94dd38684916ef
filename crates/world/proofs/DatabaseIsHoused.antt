-- What statements of a catalogue's database read and write is at its sites, and keeps the parts of each leaf well formed.
use Rattle.std.proofs.Common.{◌≡◌, refl, sym, ap, ◌∙◌, subst, T, ℕ, suc, ℤ, ◌==◌, Bool, true, false, cond, not, if◌then◌else◌, List, [], ◌∷◌, ◌++◌, map, filter, flat_map, length, Option, Some, None, nat_eq, Ordering, Less, Equal, Greater, arith, int_lt}
use Rattle.std.proofs.lemmas.Bool.{eq-eqb}
use Rattle.std.proofs.lemmas.Int.{ints}
use Rattle.std.specs.Cmp.{eq_by_cmp_equiv, int_cmp_total}
use Rattle.std.specs.Cmp.Lexicographic.{pointwise}
use Rattle.std.specs.FinMap as fin
use Rattle.std.specs.FinMap.Entries as entries
use Rattle.std.specs.List.{AllByRecursion, list_all}
use Rattle.std.specs.Ordering.{eq_by_cmp, int_cmp, int_eq, is_lt}
use Rattle.terms.specs.declared.cond.Cond.{Cond}
use Rattle.terms.specs.declared.leaf.Leaf.{Leaf}
use Rattle.terms.specs.declared.value.Value.{Value}
use Rattle.terms.specs.declared.write.Write.{Write}
use Rattle.terms.specs.declared.write.Write.TheVariants.{Put, Del}
use Rattle.terms.specs.Cond.{conds_hold}
use Rattle.terms.specs.Row.{key_of}
use Rattle.meaning.specs.declared.statement.Statement.{Statement}
use Rattle.meaning.specs.Whole.{FitsSchema, Relations, rows_of}
use Rattle.meaning.proofs.Kept.{meaning_fits}
use Rattle.catalog.specs.declared.fragment_leaf.FragmentLeaf.{FragmentLeaf}
use Rattle.catalog.specs.Catalogue.{Catalogue, SplitRelation}
use Rattle.catalog.specs.Formed.{IsFormed}
use Rattle.catalog.specs.Fragment.{content}
use Rattle.catalog.specs.FragmentLeaf.{catalogue_leaves, leaves_in, leaves_of, relation_named, schemas_of, unnamed}
use Rattle.catalog.specs.Keyed.{row_at}
use Rattle.catalog.specs.Laws.{LeafNamesAreUnique}
use Rattle.catalog.proofs.FormedTrees.{all_both}
use Rattle.plan.specs.declared.need.Need.{Need}
use Rattle.plan.specs.declared.need.Needs.{Needs}
use Rattle.plan.specs.Contents.{AreParts, ContentsAscend}
use Rattle.plan.specs.Fetch.{fetch_of}
use Rattle.plan.specs.Need.{needs}
use Rattle.plan.specs.Picked.{fetches_by, fetches_from}
use Rattle.answers.specs.Evaluated.{is_above, parts_climb}
use Rattle.answers.specs.Merged.{merged_rows}
use Rattle.answers.specs.Writes.{leaf_of, leaf_writes, same_part, write_between, writes_between}
use Rattle.answers.proofs.Applied.{all_given}
use Rattle.store.specs.Content.{Content}
use Rattle.protocol.specs.StatementCourse.{AtSites}
use Rattle.protocol.specs.Fitting.{Suits}
use Rattle.protocol.specs.Parts.{In}
use Rattle.protocol.specs.WithoutRefusal.{IsHoused}
use Rattle.protocol.proofs.Basics.{both_true, either, every_in, left_true, right_true, some_is}
use Rattle.desk.specs.Database.{language}
use Rattle.desk.specs.Place.{Place, fetch_in, home_in, write_in}
use Rattle.desk.specs.CatalogueDatabase.{content_at, content_of, database, fits, found, is_home, is_part, width_of}
use Rattle.world.proofs.DatabaseSites.{leaf_at_sites}
use Rattle.world.proofs.DatabaseIsStored.{entries_stored, under}
use Rattle.world.proofs.DatabaseIsWritten.{found_has, to_leaf}

-- ---- lists
split_all : {A : Type 0} (P : A → Type 0) (xs ys : List A) → AllByRecursion P (xs ++ ys) → AllByRecursion P xs × AllByRecursion P ys
split_all P [] ys all = (tt, all)
split_all P (x ∷ xs) ys all = let rest = split_all P xs ys all.1 in ((all.0, rest.0), rest.1)

all_map : {A B : Type 0} (P : B → Type 0) (f : A → B) (xs : List A) → AllByRecursion (λ x. P (f x)) xs → AllByRecursion P (map f xs)
all_map P f [] all = tt
all_map P f (x ∷ xs) all = (all.0, all_map P f xs all.1)

all_filter : {A : Type 0} (P : A → Type 0) (test : A → Bool) (xs : List A) → AllByRecursion P xs → AllByRecursion P (filter test xs)
all_filter P test [] all = tt
all_filter P test (x ∷ xs) all = go (test x) (all_filter P test xs all.1)
  where
    go : (b : Bool) → AllByRecursion P (filter test xs) → AllByRecursion P (if b then x ∷ filter test xs else filter test xs)
    go true rest = (all.0, rest)
    go false rest = rest

all_flat : {A B : Type 0} (Q : A → Type 0) (P : B → Type 0) (f : A → List B) (xs : List A) → ((x : A) → Q x → AllByRecursion P (f x)) → AllByRecursion Q xs → AllByRecursion P (flat_map f xs)
all_flat Q P f [] to all = tt
all_flat Q P f (x ∷ xs) to all = all_both P (f x) (flat_map f xs) (to x all.0) (all_flat Q P f xs to all.1)

all_two : {A : Type 0} (P Q : A → Type 0) (xs : List A) → AllByRecursion P xs → AllByRecursion Q xs → AllByRecursion (λ x. P x × Q x) xs
all_two P Q [] one other = tt
all_two P Q (x ∷ xs) one other = ((one.0, other.0), all_two P Q xs one.1 other.1)

-- ---- parts under their keys
is_own : (key : ℤ) → int_eq key key ≡ true
is_own key = grind (arith, ints)

apart_from : (key other : ℤ) → int_eq key other ≡ true → key ≡ other
apart_from key other same = grind (arith, ints)

tied : (key other : ℤ) → int_cmp key other ≡ Equal → int_eq key other ≡ true
tied key other same = grind (arith, ints)

rises : (key other : ℤ) → is_lt (int_cmp key other) ≡ true → int_lt key other ≡ true
rises key other less = grind (arith, ints)

true_of : (b : Bool) → T b → b ≡ true
true_of true t = refl
true_of false t = absurd t

to_T : (b : Bool) → b ≡ true → T b
to_T true e = tt
to_T false e = cc

abbrev AreIn : ℕ → List (ℤ × List Value) → Type 0
AreIn width es = list_all (is_part width) es ≡ true

under_are_in : (width : ℕ) (parts : List (List Value)) → AllByRecursion (λ part. length part ≡ width) parts → AreIn width (under parts)
under_are_in width [] wide = refl
under_are_in width (part ∷ parts) wide = both_true _ _ (both_true _ _ (eq-eqb (length part) width wide.0) (is_own (key_of part))) (under_are_in width parts wide.1)

put_is_in : (width : ℕ) (part : List Value) (es : List (ℤ × List Value)) → length part ≡ width → AreIn width es → AreIn width (entries.put int_cmp (key_of part) part es)
put_is_in width part [] wide all = both_true _ _ (both_true _ _ (eq-eqb (length part) width wide) (is_own (key_of part))) refl
put_is_in width part (e ∷ es) wide all = go (int_cmp (key_of part) e.0) refl (put_is_in width part es wide (right_true (is_part width e) (list_all (is_part width) es) all))
  where
    go : (o : Ordering) → int_cmp (key_of part) e.0 ≡ o → AreIn width (entries.put int_cmp (key_of part) part es) → AreIn width (entries.by_order o ((key_of part, part) ∷ e ∷ es) ((e.0, part) ∷ es) (e ∷ entries.put int_cmp (key_of part) part es))
    go Less is rest = both_true _ _ (both_true _ _ (eq-eqb (length part) width wide) (is_own (key_of part))) all
    go Equal is rest = both_true _ _ (both_true _ _ (eq-eqb (length part) width wide) (tied (key_of part) e.0 is)) (right_true (is_part width e) (list_all (is_part width) es) all)
    go Greater is rest = both_true _ _ (left_true (is_part width e) (list_all (is_part width) es) all) rest

fewer_are_in : (width : ℕ) (test : ℤ → Bool) (es : List (ℤ × List Value)) → AreIn width es → AreIn width (entries.where_key int_cmp test es)
fewer_are_in width test [] all = refl
fewer_are_in width test (e ∷ es) all = go (test e.0) (fewer_are_in width test es (right_true (is_part width e) (list_all (is_part width) es) all))
  where
    go : (b : Bool) → AreIn width (entries.where_key int_cmp test es) → AreIn width (if b then e ∷ entries.where_key int_cmp test es else entries.where_key int_cmp test es)
    go true rest = both_true _ _ (left_true (is_part width e) (list_all (is_part width) es) all) rest
    go false rest = rest

-- what is left where a key goes
removed : (kept : Content) (key : ℤ) → fin.entries (fin.remove kept key) ≡ entries.where_key int_cmp (λ x. not (eq_by_cmp int_cmp key x)) (fin.entries kept)
removed kept key =
    let test : ℤ → Bool = λ x. not (eq_by_cmp int_cmp key x) in
    let es = entries.where_key int_cmp test (fin.entries kept) in
    let sorted : T (fin.is_sorted int_cmp es) = entries.is_sorted-where_key int_cmp test (fin.entries kept) (fin.entries_sorted kept) in
    ap (λ (c : Content). fin.entries c) (fin.same_map int_cmp_total fin.int_cmp-IsAntisymmetric (fin.remove kept key) (fin.from_sorted es) (λ at.
    fin.get-remove int_cmp_total kept key at
    ∙ one (eq_by_cmp int_cmp at key) (fin.get kept at)
    ∙ ap (λ (b : Bool). cond (not b) (fin.get kept at) None) ((eq_by_cmp_equiv int_cmp_total).symm at key)
    ∙ ap (λ (o : Option (List Value)). cond (test at) o None) (fin.get-entries kept at)
    ∙ sym (entries.find-where_key int_cmp test at (λ x same. ap not (sym_alike x at same)) (fin.entries kept))
    ∙ sym (fin.get-from_sorted int_cmp es at sorted)))
    ∙ fin.entries-from_sorted int_cmp es sorted
  where
    one : (b : Bool) (o : Option (List Value)) → cond b None o ≡ cond (not b) o None
    one true o = refl
    one false o = refl

    sym_alike : (x at : ℤ) → int_cmp at x ≡ Equal → eq_by_cmp int_cmp key x ≡ eq_by_cmp int_cmp key at
    sym_alike x at same = ap (eq_by_cmp int_cmp key) (sym (apart_from at x (tied at x same)))

-- the parts of a content that meet conditions, by ascending keys
abbrev AreAbove : Option ℤ → List (ℤ × List Value) → Type 0
AreAbove None es = Unit {0}
AreAbove (Some last) es = entries.below_all int_cmp last es ≡ true

they_climb : (width : ℕ) (test : List Value → Bool) (last : Option ℤ) (es : List (ℤ × List Value)) → AreIn width es → entries.is_sorted int_cmp es ≡ true → AreAbove last es → parts_climb width last (filter test (map (λ e. e.1) es)) ≡ true
they_climb width test last [] all up above = refl
they_climb width test last (e ∷ es) all up above = go (test e.1) (λ o over. they_climb width test o es rest later over)
  where
    part : is_part width e ≡ true
    part = left_true (is_part width e) (list_all (is_part width) es) all

    rest : AreIn width es
    rest = right_true (is_part width e) (list_all (is_part width) es) all

    own : key_of e.1 ≡ e.0
    own = apart_from (key_of e.1) e.0 (right_true (length e.1 == width) (int_eq (key_of e.1) e.0) part)

    below : entries.below_all int_cmp e.0 es ≡ true
    below = left_true (entries.below_all int_cmp e.0 es) (entries.is_sorted int_cmp es) up

    first_above : (o : Option ℤ) → AreAbove o (e ∷ es) → is_above o (key_of e.1) ≡ true
    first_above None a = refl
    first_above (Some k) a = ap (int_lt k) own ∙ rises k e.0 (left_true (is_lt (int_cmp k e.0)) (entries.below_all int_cmp k es) a)

    still_above : (o : Option ℤ) → AreAbove o (e ∷ es) → AreAbove o es
    still_above None a = tt
    still_above (Some k) a = right_true (is_lt (int_cmp k e.0)) (entries.below_all int_cmp k es) a

    later : entries.is_sorted int_cmp es ≡ true
    later = right_true (entries.below_all int_cmp e.0 es) (entries.is_sorted int_cmp es) up

    go : (b : Bool) → ((o : Option ℤ) → AreAbove o es → parts_climb width o (filter test (map (λ e. e.1) es)) ≡ true) → parts_climb width last (if b then e.1 ∷ filter test (map (λ e. e.1) es) else filter test (map (λ e. e.1) es)) ≡ true
    go true more = both_true _ _ (left_true (length e.1 == width) (int_eq (key_of e.1) e.0) part) (both_true _ _ (first_above last above) (more (Some (key_of e.1)) (ap (λ k. entries.below_all int_cmp k es) own ∙ below)))
    go false more = more last (still_above last above)

-- the row at a key is one of the rows
row_has : (P : List Value → Type 0) (key : ℤ) (rows : List (List Value)) (part : List Value) → AllByRecursion P rows → row_at key rows ≡ Some part → P part
row_has P key [] part all there = cc
row_has P key (row ∷ rows) part all there = go (int_eq (key_of row) key) there (row_has P key rows part all.1)
  where
    go : (b : Bool) → (if b then Some row else row_at key rows) ≡ Some part → (row_at key rows ≡ Some part → P part) → P part
    go true is more = subst P (some_is is) all.0
    go false is more = more is

-- a part that is put where parts change is one of those after
put_part : (P : Write → Type 0) (leaf : Leaf) (key : ℤ) (before after : Option (List Value)) (write : Write) → ((at : ℤ) → P (Del leaf at)) → ((part : List Value) → after ≡ Some part → P (Put leaf part)) → write_between leaf key before after ≡ Some write → P write
put_part P leaf key None None write del put is = cc
put_part P leaf key (Some part) None write del put is = subst P (some_is is) (del key)
put_part P leaf key None (Some after) write del put is = subst P (some_is is) (put after refl)
put_part P leaf key (Some before) (Some after) write del put is = go (same_part before after) is
  where
    go : (b : Bool) → (if b then None else Some (Put leaf after)) ≡ Some write → P write
    go true is = cc
    go false is = subst P (some_is is) (put after refl)

-- ---- the catalogue
module _ (catalogue : Catalogue) (formed : IsFormed catalogue) (unique : LeafNamesAreUnique) (ascend : ContentsAscend) where
  abbrev L : Rattle.protocol.specs.Language.Lang
  L = language (database catalogue)

  -- a leaf of this name is at a site
  abbrev IsSited : Leaf → Type 0
  IsSited name = In (home_in catalogue name) catalogue.sites

  abbrev IsAtSite : Place → Type 0
  IsAtSite place = In place.0 catalogue.sites

  all_sited : AllByRecursion (λ leaf. IsSited leaf.name) (catalogue_leaves catalogue)
  all_sited = leaf_at_sites catalogue formed unique ascend

  at_sites : (places : List Place) → AllByRecursion IsAtSite places → AtSites L places
  at_sites places all place here = every_in IsAtSite places place all here

  named_sited : (name : List ℕ) (relations : List SplitRelation) → AllByRecursion (λ leaf. IsSited leaf.name) (flat_map leaves_of relations) → AllByRecursion (λ leaf. IsSited leaf.name) (leaves_in (relation_named name relations))
  named_sited name [] all = tt
  named_sited name (relation ∷ relations) all =
      let both = split_all (λ leaf. IsSited leaf.name) (leaves_of relation) (flat_map leaves_of relations) all in
      go (pointwise nat_eq relation.schema.name name) both.0 (named_sited name relations both.1)
    where
      go : (b : Bool) → AllByRecursion (λ leaf. IsSited leaf.name) (leaves_of relation) → AllByRecursion (λ leaf. IsSited leaf.name) (leaves_in (relation_named name relations)) →
          AllByRecursion (λ leaf. IsSited leaf.name) (leaves_in (if b then Some relation else relation_named name relations))
      go true here later = here
      go false here later = later

  picked_sited : (need : Need) (test : FragmentLeaf → Bool) (name : List ℕ) → AllByRecursion (λ fetch. IsSited fetch.leaf) (map (fetch_of need) (filter test (leaves_in (relation_named name catalogue.relations))))
  picked_sited need test name = all_map (λ fetch. IsSited fetch.leaf) (fetch_of need) _ (all_filter (λ leaf. IsSited leaf.name) test _ (named_sited name catalogue.relations all_sited))

  fetches_sited : (wanted : Needs) (number : ℕ) (later : List Need) → AllByRecursion (λ fetch. IsSited fetch.leaf) (fetches_from catalogue wanted number later)
  fetches_sited wanted number [] = tt
  fetches_sited wanted number (need ∷ later) = all_both (λ fetch. IsSited fetch.leaf) _ _ (picked_sited need _ need.relation) (fetches_sited wanted (suc number) later)

  fetched : (statement : Statement) → AtSites L (map (λ f. f.0) (map (fetch_in catalogue) (fetches_by catalogue statement)))
  fetched statement = at_sites _ (all_map IsAtSite (λ f. f.0) _ (all_map (λ f. IsAtSite f.0) (fetch_in catalogue) (fetches_by catalogue statement) (fetches_sited (needs statement) 0 (needs statement).relations)))

  -- what writes between whole databases are
  abbrev writes : Relations → Relations → FragmentLeaf → List Write
  writes before after leaf = leaf_writes leaf.name (content (unnamed leaf) (rows_of before leaf.name.relation)) (content (unnamed leaf) (rows_of after leaf.name.relation))

  leaf_sited : (before after : Relations) (leaf : FragmentLeaf) → IsSited leaf.name → AllByRecursion (λ write. IsSited (leaf_of write)) (writes before after leaf)
  leaf_sited before after leaf is =
      let first = content (unnamed leaf) (rows_of before leaf.name.relation) in
      let second = content (unnamed leaf) (rows_of after leaf.name.relation) in
      all_given (λ write. IsSited (leaf_of write)) (λ key. write_between leaf.name key (row_at key first) (row_at key second)) (map key_of (merged_rows first second))
      (λ key write made. subst IsSited (sym (to_leaf leaf.name key (row_at key first) (row_at key second) write made)) is)

  same_leaf_of : (write : Write) → IsSited (leaf_of write) → IsAtSite (write_in catalogue write).0
  same_leaf_of (Put leaf part) is = is
  same_leaf_of (Del leaf key) is = is

  all_more : {A : Type 0} (P Q : A → Type 0) (xs : List A) → ((x : A) → P x → Q x) → AllByRecursion P xs → AllByRecursion Q xs
  all_more P Q [] to all = tt
  all_more P Q (x ∷ xs) to all = (to x all.0, all_more P Q xs to all.1)

  written : (before after : Relations) → AtSites L (map (λ x. x.0) (map (write_in catalogue) (writes_between catalogue before after)))
  written before after = at_sites _ (all_map IsAtSite (λ x. x.0) _ (all_map (λ x. IsAtSite x.0) (write_in catalogue) (writes_between catalogue before after)
      (all_more (λ write. IsSited (leaf_of write)) (λ write. IsAtSite (write_in catalogue write).0) _ same_leaf_of (all_flat (λ leaf. IsSited leaf.name) (λ write. IsSited (leaf_of write)) (writes before after) (catalogue_leaves catalogue) (leaf_sited before after) all_sited))))

  -- contents fit
  abbrev fit : Place → Content → Bool
  fit = fits catalogue

  contents : (whole : Relations) → FitsSchema (schemas_of catalogue) whole → (place : Place) → fit place (content_at catalogue place whole) ≡ true
  contents whole is place = either (λ (kept : Content). fit place kept ≡ true) (is_home catalogue place) (content_of (found catalogue name) whole) fin.empty
      (go (found catalogue name) refl) (ap (list_all (is_part (width_of (found catalogue name)))) (entries_stored [] tt))
    where
      name : Leaf
      name = place.1

      go : (o : Option FragmentLeaf) → found catalogue name ≡ o → list_all (is_part (width_of o)) (fin.entries (content_of o whole)) ≡ true
      go None none = ap (list_all (is_part 0)) (entries_stored [] tt)
      go (Some leaf) there =
          let parts = content (unnamed leaf) (rows_of whole leaf.name.relation) in
          let are = found_has _ name leaf (catalogue_leaves catalogue) (ascend catalogue whole formed is) there in
          ap (list_all (is_part (length leaf.columns))) (entries_stored parts are.ascends) ∙ under_are_in (length leaf.columns) parts are.long

  pub parts_fit : (n : ℕ) (place : Place) (conds : List Cond) (kept : Content) → fit place kept ≡ true → (database catalogue).well_formed n place (L.parts conds kept) ≡ true
  parts_fit n place conds kept is = they_climb (width_of (found catalogue place.1)) (conds_hold conds) None (fin.entries kept) is (true_of _ (fin.entries_sorted kept)) tt

  -- writes keep them fitting
  one_suits : (before after : Relations) (leaf : FragmentLeaf) → found catalogue leaf.name ≡ Some leaf → AllByRecursion (λ part. length part ≡ length leaf.columns) (content (unnamed leaf) (rows_of after leaf.name.relation)) →
      AllByRecursion (λ write. Suits L fit (write_in catalogue write)) (writes before after leaf)
  one_suits before after leaf there wide =
      let first = content (unnamed leaf) (rows_of before leaf.name.relation) in
      let second = content (unnamed leaf) (rows_of after leaf.name.relation) in
      all_given (λ write. Suits L fit (write_in catalogue write)) (λ key. write_between leaf.name key (row_at key first) (row_at key second)) (map key_of (merged_rows first second))
      (λ key write made. put_part (λ write. Suits L fit (write_in catalogue write)) leaf.name key (row_at key first) (row_at key second) write
      (λ at kept is. ap (list_all (is_part (width_of (found catalogue leaf.name)))) (removed kept at) ∙ fewer_are_in (width_of (found catalogue leaf.name)) (λ x. not (eq_by_cmp int_cmp at x)) (fin.entries kept) is)
      (λ part last kept is. ap (list_all (is_part (width_of (found catalogue leaf.name)))) (fin.entries-insert int_cmp_total kept (key_of part) part)
      ∙ put_is_in (width_of (found catalogue leaf.name)) part (fin.entries kept) (row_has (λ part. length part ≡ length leaf.columns) key second part wide last ∙ sym (ap width_of there)) is) made)

  suits : (before after : Relations) → FitsSchema (schemas_of catalogue) after → AllByRecursion (Suits L fit) (map (write_in catalogue) (writes_between catalogue before after))
  suits before after is = all_map (Suits L fit) (write_in catalogue) (writes_between catalogue before after) (all_flat (λ leaf. (found catalogue leaf.name ≡ Some leaf) × AreParts _ leaf.columns (content (unnamed leaf) (rows_of after leaf.name.relation)))
      (λ write. Suits L fit (write_in catalogue write)) (writes before after) (catalogue_leaves catalogue) (λ leaf both. one_suits before after leaf both.0 both.1.long)
      (all_two (λ leaf. found catalogue leaf.name ≡ Some leaf) _ (catalogue_leaves catalogue) (unique catalogue formed) (ascend catalogue after formed is)))

  pub housed : (n : ℕ) → IsHoused L n fit
  housed n = record {
    fetched = λ statement is. fetched statement.1;
    written = λ statement whole is fits tag. written whole.1 _;
    suits = λ statement whole is fits tag version low. suits whole.1 _ (meaning_fits (schemas_of catalogue) statement.1 whole.1 is.of_schemas fits);
    contents = λ whole is version. contents whole.1 is;
    rows = λ statement tag. parts_fit statement.0;
  }

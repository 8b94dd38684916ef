-- The moves between two catalogues lead each place of the relation, and leave every other as it is.
use Rattle.std.proofs.Common.{◌≡◌, ℕ, ℤ, Bool, true, false, cond, ◌==◌, ◌&&◌, ◌||◌, List, [], ◌∷◌, filter, flat_map, map, nat_eq, Option, Some, None, refl, ap, ap₂, sym, ◌∙◌, subst}
use Rattle.std.specs.Cmp.Lexicographic.{nat_list_eq_equiv, pointwise, same_text}
use Rattle.std.specs.List.{AllByRecursion, list_any}
use Rattle.std.specs.Ordering.{int_eq}
use Rattle.std.proofs.lemmas.Bool.{eqb-true}
use Rattle.terms.specs.declared.leaf.Leaf.{Leaf}
use Rattle.terms.specs.declared.value.Value.{Value}
use Rattle.terms.specs.declared.write.Write.{Write}
use Rattle.terms.specs.Row.{key_of}
use Rattle.meaning.specs.Relation.{Ascends}
use Rattle.meaning.specs.Whole.{Relations, rows_of}
use Rattle.catalog.specs.declared.fragment_leaf.FragmentLeaf.{FragmentLeaf}
use Rattle.catalog.specs.Catalogue.{Catalogue}
use Rattle.catalog.specs.Fragment.{content}
use Rattle.catalog.specs.FragmentLeaf.{catalogue_leaves, leaf_named, unnamed}
use Rattle.catalog.specs.Keyed.{row_at}
use Rattle.catalog.proofs.Counts.{any-map}
use Rattle.catalog.proofs.FormedTrees.{all_both}
use Rattle.plan.specs.Contents.{AreParts, ContentsAscend}
use Rattle.plan.specs.Reduced.{same_leaf}
use Rattle.plan.specs.Stated.{kinds_in}
use Rattle.plan.proofs.CarriedConds.{and_true, both}
use Rattle.plan.proofs.Covered.{or_second}
use Rattle.plan.proofs.Fetched.{one_name}
use Rattle.answers.specs.declared.moves.Move.{Move}
use Rattle.answers.specs.Merged.{merged_rows}
use Rattle.answers.specs.Moves.{MovesLead, MovesStay, at_site, content_of, content_there, is_moved, is_there, leaf_numbered, moves_between, numbers, part_there, place_moves, writes_at}
use Rattle.answers.specs.Writes.{applied, key_written, leaf_of, leaf_writes, write_between}
use Rattle.answers.proofs.Applied.{Leaves, all_given, any_back, any_front, between, comes, stays, touches, unchanged}
use Rattle.answers.proofs.EachMoved.{all_flat}
use Rattle.answers.proofs.LeafNumbers.{found_leaf, nowhere}
use Rattle.answers.proofs.LeavesWritten.{one_leaf}
use Rattle.answers.proofs.Mapped.{found_key, one_key}
use Rattle.answers.proofs.WritesLead.{own_touched}

-- the writes of moves at a site

writes_each : (Q : Write → Type 0) (site : List ℕ) (moves : List Move) → AllByRecursion (λ move. pointwise nat_eq move.site site ≡ true → Q move.write) moves → AllByRecursion Q (writes_at site moves)
writes_each Q site [] all = tt
writes_each Q site (move ∷ moves) all = at (pointwise nat_eq move.site site) refl (writes_each Q site moves all.1)
  where
    rest : List Move
    rest = filter (λ other. pointwise nat_eq other.site site) moves

    at : (t : Bool) → pointwise nat_eq move.site site ≡ t → AllByRecursion Q (writes_at site moves) → AllByRecursion Q (map (λ other. other.write) (cond t (move ∷ rest) rest))
    at true is more = (all.0 is, more)
    at false is more = more

writes_any : (test : Write → Bool) (site : List ℕ) (moves : List Move) → list_any (λ move. pointwise nat_eq move.site site && test move.write) moves ≡ true → list_any test (writes_at site moves) ≡ true
writes_any test site [] some = absurd (cc)
writes_any test site (move ∷ moves) some = at (pointwise nat_eq move.site site) (test move.write) refl (writes_any test site moves) some
  where
    rest : List Move
    rest = filter (λ other. pointwise nat_eq other.site site) moves

    later : Bool
    later = list_any (λ other. pointwise nat_eq other.site site && test other.write) moves

    at : (t u : Bool) → test move.write ≡ u → (later ≡ true → list_any test (writes_at site moves) ≡ true) → ((t && u) || later) ≡ true → list_any test (map (λ other. other.write) (cond t (move ∷ rest) rest)) ≡ true
    at true true passes more h = ap (λ (t : Bool). t || list_any test (writes_at site moves)) passes
    at true false passes more h = ap (λ (t : Bool). t || list_any test (writes_at site moves)) passes ∙ more h
    at false u passes more h = more h

all_mapped : {A B : Type 0} (P : B → Type 0) (f : A → B) (items : List A) → AllByRecursion (λ item. P (f item)) items → AllByRecursion P (map f items)
all_mapped P f [] all = tt
all_mapped P f (item ∷ items) all = (all.0, all_mapped P f items all.1)

-- each write of a place leads it there

IsLed : Catalogue → List ℕ → Leaf → List (List Value) → ℤ → Move → Type 0
IsLed new site name rows key move = pointwise nat_eq move.site site ≡ true → Leaves name key (part_there new site name rows key) move.write

write_leads : (old new : Catalogue) (rows : List (List Value)) (home site : List ℕ) (leaf name : Leaf) (key at : ℤ) (write : Write) →
    write_between leaf at (part_there old home leaf rows at) (part_there new home leaf rows at) ≡ Some write → IsLed new site name rows key (at_site home write)
unfolding IsLed
write_leads old new rows home site leaf name key at write is = λ same touched.
    let second = content_there new home leaf rows in
    let made = between leaf at (part_there old home leaf rows at) (part_there new home leaf rows at) write (λ part there. found_key at second part there) is in
    let parts = both (same_leaf (leaf_of write) name) (int_eq (key_written write) key) touched in
    let one : leaf ≡ name = sym made.to ∙ one_name (leaf_of write) name parts.0 in
    let here : at ≡ key = sym made.there ∙ one_key (key_written write) key parts.1 in
    made.value ∙ ap (λ (h : List ℕ). part_there new h leaf rows at) (same_text home site (sym same)) ∙ ap₂ (λ (l : Leaf) (k : ℤ). part_there new site l rows k) one here

place_leads : (old new : Catalogue) (rows : List (List Value)) (home site : List ℕ) (leaf name : Leaf) (key : ℤ) → AllByRecursion (IsLed new site name rows key) (place_moves old new rows home leaf)
place_leads old new rows home site leaf name key =
    let first = content_there old home leaf rows in
    let second = content_there new home leaf rows in
    all_mapped (IsLed new site name rows key) (at_site home) (leaf_writes leaf first second)
    (all_given (λ write. IsLed new site name rows key (at_site home write)) (λ at. write_between leaf at (row_at at first) (row_at at second)) (map key_of (merged_rows first second)) (λ at write is. write_leads old new rows home site leaf name key at write is))

all_lead : (old new : Catalogue) (relation site : List ℕ) (name : Leaf) (rows : List (List Value)) (key : ℤ) → AllByRecursion (Leaves name key (part_there new site name rows key)) (writes_at site (moves_between old new relation rows))
unfolding IsLed
all_lead old new relation site name rows key =
    let P : Move → Type 0 = IsLed new site name rows key in
    writes_each (Leaves name key (part_there new site name rows key)) site (moves_between old new relation rows)
    (all_flat P (λ home. flat_map (λ number. place_moves old new rows home (leaf_numbered relation number)) numbers) old.sites
    (λ home.
    all_flat P (λ number. place_moves old new rows home (leaf_numbered relation number)) numbers
    (λ number. place_leads old new rows home site (leaf_numbered relation number) name key)))

-- where the parts differ, some write comes

any_flat : {A B : Type 0} (test : B → Bool) (passes : A → Bool) (f : A → List B) (items : List A) → list_any passes items ≡ true → ((item : A) → passes item ≡ true → list_any test (f item) ≡ true) → list_any test (flat_map f items) ≡ true
any_flat test passes f [] some each = absurd (cc)
any_flat test passes f (item ∷ items) some each = at (passes item) refl (λ h. any_flat test passes f items h each) some
  where
    at : (t : Bool) → passes item ≡ t → (list_any passes items ≡ true → list_any test (flat_map f items) ≡ true) → (t || list_any passes items) ≡ true → list_any test (flat_map f (item ∷ items)) ≡ true
    at true is more h = any_front test (f item) (flat_map f items) (each item is)
    at false is more h = any_back test (f item) (flat_map f items) (more h)

place_touched : (old new : Catalogue) (rows : List (List Value)) (site : List ℕ) (name : Leaf) (key : ℤ) (write : Write) → Ascends (content_there old site name rows) →
    write_between name key (part_there old site name rows key) (part_there new site name rows key) ≡ Some write →
    list_any (λ move. pointwise nat_eq move.site site && touches name key move.write) (place_moves old new rows site name) ≡ true
place_touched old new rows site name key write order is =
    let writes = leaf_writes name (content_there old site name rows) (content_there new site name rows) in
    any-map (λ move. pointwise nat_eq move.site site && touches name key move.write) (at_site site) writes
    ∙ ap (λ (t : Bool). list_any (λ one. t && touches name key one) writes) (nat_list_eq_equiv.refl site)
    ∙ own_touched name (content_there old site name rows) (content_there new site name rows) key write order is

some_touched : (old new : Catalogue) (relation site : List ℕ) (number : ℕ) (rows : List (List Value)) (key : ℤ) (write : Write) → is_moved old relation site (leaf_numbered relation number) ≡ true → Ascends (content_there old site (leaf_numbered relation number) rows) →
    write_between (leaf_numbered relation number) key (part_there old site (leaf_numbered relation number) rows key) (part_there new site (leaf_numbered relation number) rows key) ≡ Some write →
    list_any (touches (leaf_numbered relation number) key) (writes_at site (moves_between old new relation rows)) ≡ true
some_touched old new relation site number rows key write moved order is =
    let name = leaf_numbered relation number in
    let test : Move → Bool = λ move. pointwise nat_eq move.site site && touches name key move.write in
    let sites = both (list_any (λ home. pointwise nat_eq home site) old.sites) (pointwise nat_eq relation relation && list_any (λ other. other == number) numbers) moved in
    let counts = both (pointwise nat_eq relation relation) (list_any (λ other. other == number) numbers) sites.1 in
    writes_any (touches name key) site (moves_between old new relation rows)
    (any_flat test (λ home. pointwise nat_eq home site) (λ home. flat_map (λ other. place_moves old new rows home (leaf_numbered relation other)) numbers) old.sites sites.0
    (λ home at_home.
    any_flat test (λ other. other == number) (λ other. place_moves old new rows home (leaf_numbered relation other)) numbers counts.1
    (λ other at_number.
    ap₂ (λ (h : List ℕ) (n : ℕ). list_any test (place_moves old new rows h (leaf_numbered relation n))) (same_text home site (sym at_home)) (eqb-true other number at_number)
    ∙ place_touched old new rows site name key write order is)))

-- every other place stays

all_members : {A B : Type 0} (P : B → Type 0) (f : A → List B) (test : A → Bool) (items : List A) → ((item : A) → (test item ≡ true → list_any test items ≡ true) → AllByRecursion P (f item)) → AllByRecursion P (flat_map f items)
all_members P f test [] each = tt
all_members P f test (item ∷ items) each =
    all_both P (f item) (flat_map f items) (each item (λ is. ap (λ (t : Bool). t || list_any test items) is))
    (all_members P f test items (λ other more. each other (λ is. or_second (test item) (list_any test items) (more is))))

place_stays : (old new : Catalogue) (rows : List (List Value)) (relation home site : List ℕ) (number : ℕ) (name : Leaf) (key : ℤ) (value : Option (List Value)) →
    (pointwise nat_eq home site ≡ true → list_any (λ other. pointwise nat_eq other site) old.sites ≡ true) → ((number == name.number) ≡ true → list_any (λ other. other == name.number) numbers ≡ true) → is_moved old relation site name ≡ false →
    AllByRecursion (λ move. pointwise nat_eq move.site site ≡ true → Leaves name key value move.write) (place_moves old new rows home (leaf_numbered relation number))
place_stays old new rows relation home site number name key value of_sites of_numbers not_moved =
    let leaf = leaf_numbered relation number in
    let first = content_there old home leaf rows in
    let second = content_there new home leaf rows in
    all_mapped (λ move. pointwise nat_eq move.site site ≡ true → Leaves name key value move.write) (at_site home) (leaf_writes leaf first second)
    (all_given (λ write. pointwise nat_eq home site ≡ true → Leaves name key value write) (λ at. write_between leaf at (row_at at first) (row_at at second)) (map key_of (merged_rows first second))
    (λ at write is same touched.
    let parts = both (same_leaf (leaf_of write) name) (int_eq (key_written write) key) touched in
    let named : same_leaf leaf name ≡ true = ap (λ (l : Leaf). same_leaf l name) (sym (one_leaf leaf at (row_at at first) (row_at at second) write is)) ∙ parts.0 in
    let apart = both (pointwise nat_eq relation name.relation) (number == name.number) named in
    let back : pointwise nat_eq name.relation relation ≡ true = ap (λ (r : List ℕ). pointwise nat_eq r relation) (sym (same_text relation name.relation (sym apart.0))) ∙ nat_list_eq_equiv.refl relation in
    let moved = and_true (list_any (λ other. pointwise nat_eq other site) old.sites) (pointwise nat_eq name.relation relation && list_any (λ other. other == name.number) numbers) (of_sites same)
    (and_true (pointwise nat_eq name.relation relation) (list_any (λ other. other == name.number) numbers) back (of_numbers apart.1)) in
    absurd (let both_ways : true ≡ false = sym moved ∙ not_moved in cc)))

pub moves_stay : MovesStay
moves_stay old new relation site name rows before key not_moved =
    let P : Move → Type 0 = λ move. pointwise nat_eq move.site site ≡ true → Leaves name key (before key) move.write in
    stays name key (before key) (writes_at site (moves_between old new relation rows)) before
    (writes_each (Leaves name key (before key)) site (moves_between old new relation rows)
    (all_members P (λ home. flat_map (λ number. place_moves old new rows home (leaf_numbered relation number)) numbers) (λ home. pointwise nat_eq home site) old.sites
    (λ home of_sites.
    all_members P (λ number. place_moves old new rows home (leaf_numbered relation number)) (λ number. number == name.number) numbers
    (λ number of_numbers. place_stays old new rows relation home site number name key (before key) of_sites of_numbers not_moved))))
    refl

-- what a place has of a whole database ascends

HasParts : Catalogue → Relations → FragmentLeaf → Type 0
HasParts catalogue whole leaf = AreParts (kinds_in catalogue leaf.name.relation) leaf.columns (content (unnamed leaf) (rows_of whole leaf.name.relation))

there_ascends : (catalogue : Catalogue) (whole : Relations) (site : List ℕ) (name : Leaf) → AllByRecursion (HasParts catalogue whole) (catalogue_leaves catalogue) → Ascends (content_there catalogue site name (rows_of whole name.relation))
unfolding HasParts
there_ascends catalogue whole site name parts = at (is_there catalogue site name) (leaf_named name (catalogue_leaves catalogue)) refl
  where
    at : (t : Bool) (o : Option FragmentLeaf) → leaf_named name (catalogue_leaves catalogue) ≡ o → Ascends (content_of (cond t o None) (rows_of whole name.relation))
    at true None is = tt
    at true (Some leaf) is =
        let found = found_leaf (HasParts catalogue whole) name (catalogue_leaves catalogue) leaf parts is in
        let parts_named = both (pointwise nat_eq leaf.name.relation name.relation) (leaf.name.number == name.number) found.named in
        let P : List ℕ → Type 0 = λ relation. Ascends (content (unnamed leaf) (rows_of whole relation)) in
        subst P (same_text leaf.name.relation name.relation (sym parts_named.0)) found.good.ascends
    at false o is = tt

pub moves_lead : ContentsAscend → MovesLead
unfolding HasParts
moves_lead ascend old new relation site number whole key formed formed_new same fit = at (write_between name key before after) refl
  where
    name : Leaf
    name = leaf_numbered relation number

    rows : List (List Value)
    rows = rows_of whole relation

    before : Option (List Value)
    before = part_there old site name rows key

    after : Option (List Value)
    after = part_there new site name rows key

    writes : List Write
    writes = writes_at site (moves_between old new relation rows)

    lead : AllByRecursion (Leaves name key after) writes
    lead = all_lead old new relation site name rows key

    of_relation : pointwise nat_eq relation relation ≡ true
    of_relation = nat_list_eq_equiv.refl relation

    moved_new : is_moved new relation site name ≡ is_moved old relation site name
    moved_new = ap (λ (sites : List (List ℕ)). list_any (λ home. pointwise nat_eq home site) sites && (pointwise nat_eq relation relation && list_any (λ other. other == number) numbers)) same

    by : (m : Bool) → is_moved old relation site name ≡ m → (write : Write) → write_between name key before after ≡ Some write → applied name writes (part_there old site name rows) key ≡ after
    by true is write some = comes name key after writes (part_there old site name rows) lead (some_touched old new relation site number rows key write is (there_ascends old whole site name (ascend old whole formed fit)) some)
    by false is write some =
        let none = nowhere old relation site name formed of_relation is in
        let none_new = nowhere new relation site name formed_new of_relation (moved_new ∙ is) in
        let nothing : write_between name key None None ≡ Some write =
        ap₂ (λ (one two : Option FragmentLeaf). write_between name key (row_at key (content_of one rows)) (row_at key (content_of two rows))) (sym none) (sym none_new) ∙ some in
        absurd (cc)

    at : (o : Option Write) → write_between name key before after ≡ o → applied name writes (part_there old site name rows) key ≡ after
    at None is = stays name key after writes (part_there old site name rows) lead (unchanged name key before after is)
    at (Some write) is = by (is_moved old relation site name) refl write is

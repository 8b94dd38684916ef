-- What the settled fragments bring to the SELECT of all columns of a relation, and what it answers.
use Rattle.std.proofs.Common.{◌≡◌, ◌<◌, ◌≤◌, refl, sym, ap, ap₂, ◌∙◌, subst, ℕ, zero, suc, ◌+◌, nat_eq, Bool, true, false, ◌||◌, List, [], ◌∷◌, map, filter, length, Option, Some, None, is_some, unwrap_or, option_map, arith}
use Rattle.std.specs.Cmp.Lexicographic.{pointwise}
use Rattle.std.specs.FinMap as fin
use Rattle.std.specs.List.{AllByRecursion, list_any, range_with_len, slice_get}
use Rattle.std.specs.Option.{option_and_then}
use Rattle.std.proofs.lemmas.List.{length-map}
use Rattle.std.proofs.lemmas.List.FromFn.{length-range_with_len}
use Rattle.terms.specs.declared.cond.Cond.{Cond}
use Rattle.terms.specs.declared.leaf.Leaf.{Leaf}
use Rattle.terms.specs.declared.value.Kind.{Kind}
use Rattle.terms.specs.declared.value.Value.{Value}
use Rattle.terms.specs.Cond.{conds_hold}
use Rattle.terms.specs.Row.{FitsKinds}
use Rattle.meaning.specs.declared.answer.Answer.{Answer}
use Rattle.meaning.specs.declared.answer.Answer.TheVariants as answer
use Rattle.meaning.specs.declared.schema.RelationSchema.{RelationSchema}
use Rattle.meaning.specs.declared.statement.Statement.{Statement}
use Rattle.meaning.specs.declared.statement.Statement.TheVariants as statement
use Rattle.meaning.specs.Listed.{listed}
use Rattle.meaning.specs.Meaning.{meaning}
use Rattle.meaning.specs.Schema.{kinds_of, names_of, relation_named}
use Rattle.meaning.specs.Statement.{IsStatementOf, is_refragment}
use Rattle.meaning.specs.Whole.{FitsSchema, Relations, rows_of}
use Rattle.meaning.proofs.ListedLemmas.{listed_all}
use Rattle.catalog.specs.declared.fragment_leaf.FragmentLeaf.{FragmentLeaf}
use Rattle.catalog.specs.Catalogue.{Catalogue, SplitRelation}
use Rattle.catalog.specs.Formed.{IsFormed, IsFormedRelation}
use Rattle.catalog.specs.FragmentLeaf.{catalogue_leaves, leaf_named, schemas_of}
use Rattle.catalog.specs.Laws.{LeafNamesAreUnique}
use Rattle.plan.specs.declared.fetch.Fetch.{Fetch}
use Rattle.plan.specs.declared.nodes.ReducedNodes.{ReducedNodes}
use Rattle.plan.specs.Given.{AreBrought}
use Rattle.plan.specs.Need.{places_to}
use Rattle.plan.specs.Reduced.{FindsAll}
use Rattle.plan.specs.Postfix.{plan_of}
use Rattle.plan.specs.Stated.{AreFetchesOf}
use Rattle.plan.proofs.JoinFound.{fits_long}
use Rattle.answers.specs.FetchRows.{FetchRows}
use Rattle.answers.specs.Table.{given}
use Rattle.store.specs.declared.name.Txn.{Txn}
use Rattle.store.specs.Content.{Content, parts}
use Rattle.protocol.specs.Serial.{Gives}
use Rattle.protocol.proofs.Basics.{some_is}
use Rattle.desk.specs.declared.fetches.Ask.{Ask}
use Rattle.desk.specs.Fetches.{brought}
use Rattle.desk.specs.Database.{Database, language, statements}
use Rattle.desk.specs.Place.{fetch_in, home_in, placed_in, site_in}
use Rattle.desk.specs.Planned.{IsOfPlan, asked}
use Rattle.desk.specs.ReducedPlan.{ReducedPlan}
use Rattle.desk.specs.Transaction.{ask_of}
use Rattle.desk.proofs.AtHomes.{found_so}
use Rattle.desk.proofs.Explaining.{are_brought, stated_plainly}
use Rattle.desk.specs.CatalogueDatabase.{IsBase, content_at, database}
use Rattle.world.specs.Machines.{Machines}
use Rattle.world.specs.Sites.{Seat, seat_of, states_of}
use Rattle.world.specs.Settled.{AreDecided, HasSitesOf, SettlesTo, brought_of, everything, parts_kept, settled_at, settled_in}
use Rattle.world.proofs.DatabasePlaces.{content_nowhere, home_there}
use Rattle.world.proofs.DatabaseIsStored.{values_stored}
use Rattle.world.proofs.Seating.{name_is, name_self, seat_there}
use Rattle.world.proofs.SettledSites.{kept_there}

-- ---- the site of a leaf of the catalogue is there
named_there : (sites : List (List ℕ)) (number : ℕ) (site : List ℕ) → slice_get sites number ≡ Some site → list_any (λ other. pointwise nat_eq other site) sites ≡ true
named_there [] number site there = absurd cc
named_there (first ∷ sites) zero site there =
    let same : first ≡ site = cc in
    ap (λ b. b || list_any (λ other. pointwise nat_eq other site) sites) (subst (λ s. pointwise nat_eq s site ≡ true) (sym same) (name_self site))
named_there (first ∷ sites) (suc number) site there = go (pointwise nat_eq first site) (named_there sites number site there)
  where
    go : (b : Bool) → list_any (λ other. pointwise nat_eq other site) sites ≡ true → (b || list_any (λ other. pointwise nat_eq other site) sites) ≡ true
    go true later = refl
    go false later = later

-- where the machines fit a catalogue, there is a seat for the site that it has of a leaf
pub site_seated : (catalogue : Catalogue) (machines : Machines) (leaf : Leaf) (place : List ℕ) → HasSitesOf catalogue machines → site_in catalogue leaf ≡ Some place → (seat : Seat) × (seat_of place machines.seats ≡ Some seat)
site_seated catalogue machines leaf place fit is = go (leaf_named leaf (catalogue_leaves catalogue)) is
  where
    go : (o : Option FragmentLeaf) → option_and_then (λ (l : FragmentLeaf). slice_get catalogue.sites l.site) o ≡ Some place → (seat : Seat) × (seat_of place machines.seats ≡ Some seat)
    go None none = absurd cc
    go (Some there) is = seat_there place machines.seats (subst (λ names. list_any (λ other. pointwise nat_eq other place) names ≡ true) (sym fit.names) (named_there catalogue.sites there.site place is))

module _ (catalogue : Catalogue) (formed : IsFormed catalogue) where
  seated : (machines : Machines) (leaf : Leaf) (there : FragmentLeaf) → HasSitesOf catalogue machines → leaf_named leaf (catalogue_leaves catalogue) ≡ Some there → (seat : Seat) × (seat_of (home_in catalogue leaf) machines.seats ≡ Some seat)
  seated machines leaf there fit is =
      let site = home_in catalogue leaf in
      seat_there site machines.seats (subst (λ names. list_any (λ other. pointwise nat_eq other site) names ≡ true) (sym fit.names) (named_there catalogue.sites there.site site (home_there catalogue formed leaf there is)))

  -- what the code finds of a leaf, and what is kept or settled there
  abbrev pub Found : Machines → List Txn → Leaf → Option (List (List Value)) → Type 0
  Found machines decided leaf shown = shown ≡ option_and_then (λ place. option_map (λ content. fin.values content) (settled_at decided leaf machines.seats place)) (site_in catalogue leaf)

  at_home : (machines : Machines) (decided : List Txn) (leaf : Leaf) (there : FragmentLeaf) (shown : Option (List (List Value))) → HasSitesOf catalogue machines → leaf_named leaf (catalogue_leaves catalogue) ≡ Some there → Found machines decided leaf shown →
      (content : Content) × (settled_at decided leaf machines.seats (home_in catalogue leaf) ≡ Some content) × (shown ≡ Some (fin.values content))
  at_home machines decided leaf there shown fit is so =
      let one = seated machines leaf there fit is in
      let settled_so = ap (option_map (settled_in decided leaf)) one.1 in (
        settled_in decided leaf one.0,
        settled_so,
        so ∙ ap (option_and_then (λ place. option_map (λ content. fin.values content) (settled_at decided leaf machines.seats place))) (ap (option_and_then (λ (l : FragmentLeaf). slice_get catalogue.sites l.site)) is ∙ home_there catalogue formed leaf there is)
            ∙ ap (option_map (λ (content : Content). fin.values content)) settled_so,
      )

  not_there : (machines : Machines) (decided : List Txn) (leaf : Leaf) (shown : Option (List (List Value))) → leaf_named leaf (catalogue_leaves catalogue) ≡ None → Found machines decided leaf shown → shown ≡ None
  not_there machines decided leaf shown is so = so ∙ ap (option_and_then (λ place. option_map (λ content. fin.values content) (settled_at decided leaf machines.seats place))) (ap (option_and_then (λ (l : FragmentLeaf). slice_get catalogue.sites l.site)) is)

  -- the parts that are kept
  pub kept_is : (db : Database) (machines : Machines) (leaf : Leaf) (shown : Option (List (List Value))) → db.catalogue machines.table.version ≡ catalogue → HasSitesOf catalogue machines → Found machines [] leaf shown → shown ≡ parts_kept db machines leaf
  kept_is db machines leaf shown in_force fit so = go (leaf_named leaf (catalogue_leaves catalogue)) refl ∙ sym (ap (λ (c : Catalogue). shows (site_in c leaf)) in_force)
    where
      shows : Option (List ℕ) → Option (List (List Value))
      shows place = option_map (λ site. fin.values ((states_of (statements db) machines.seats site).kept (site, leaf))) place

      go : (o : Option FragmentLeaf) → leaf_named leaf (catalogue_leaves catalogue) ≡ o → shown ≡ shows (site_in catalogue leaf)
      go None is = not_there machines [] leaf shown is so ∙ sym (ap shows (ap (option_and_then (λ (l : FragmentLeaf). slice_get catalogue.sites l.site)) is))
      go (Some there) is =
          let one = at_home machines [] leaf there shown fit is so in
          let kept = kept_there db machines leaf (home_in catalogue leaf) one.0 one.1 in
          one.2 ∙ ap (λ (content : Content). Some (fin.values content)) (sym kept) ∙ sym (ap shows (ap (option_and_then (λ (l : FragmentLeaf). slice_get catalogue.sites l.site)) is ∙ home_there catalogue formed leaf there is))

  -- what a fetch brings
  pub brought_is : (machines : Machines) (whole : Relations) (decided : List Txn) (leaf : Leaf) (conds : List Cond) (shown : Option (List (List Value))) → HasSitesOf catalogue machines → SettlesTo catalogue machines whole → AreDecided machines.table decided → Found machines decided leaf shown →
      filter (conds_hold conds) (unwrap_or shown []) ≡ parts conds (content_at catalogue (placed_in catalogue leaf) whole)
  brought_is machines whole decided leaf conds shown fit those are so = go (leaf_named leaf (catalogue_leaves catalogue)) refl
    where
      go : (o : Option FragmentLeaf) → leaf_named leaf (catalogue_leaves catalogue) ≡ o → filter (conds_hold conds) (unwrap_or shown []) ≡ parts conds (content_at catalogue (placed_in catalogue leaf) whole)
      go None is =
          ap (λ (o : Option (List (List Value))). filter (conds_hold conds) (unwrap_or o [])) (not_there machines decided leaf shown is so)
          ∙ ap (filter (conds_hold conds)) (sym (values_stored [] tt))
          ∙ sym (ap (parts conds) (content_nowhere catalogue (home_in catalogue leaf) leaf whole is))
      go (Some there) is =
          let one = at_home machines decided leaf there shown fit is so in
          ap (λ (o : Option (List (List Value))). filter (conds_hold conds) (unwrap_or o [])) one.2
          ∙ ap (filter (conds_hold conds)) (those decided leaf one.0 are (ap is_some is) one.1)

-- ---- a plan's fetches bring what they are to bring
module _ (db : Database) (n : ℕ) (whole : Relations) where
  abbrev ghost_ask : Fetch → Ask
  ghost_ask fetch = record { leaf = fetch.leaf; site = home_in (db.catalogue n) fetch.leaf; conds = fetch.conds; number = None; rows = Some (parts fetch.conds (db.content n (placed_in (db.catalogue n) fetch.leaf) whole)) }

  in_order : (fetches : List Fetch) → map asked (map ghost_ask fetches) ≡ map (fetch_in (db.catalogue n)) fetches
  in_order [] = refl
  in_order (fetch ∷ fetches) = ap (λ rest. fetch_in (db.catalogue n) fetch ∷ rest) (in_order fetches)

  all_given : (fetches : List Fetch) → Gives {L = language db} (n, whole) (map (ask_of db) (map ghost_ask fetches))
  all_given [] = tt
  all_given (fetch ∷ fetches) = (refl, all_given fetches)

  all_brought : (fetches : List Fetch) → brought (map ghost_ask fetches) ≡ map (λ fetch. record { leaf = fetch.leaf; parts = parts fetch.conds (db.content n (placed_in (db.catalogue n) fetch.leaf) whole) }) fetches
  all_brought [] = refl
  all_brought (fetch ∷ fetches) = ap (λ rest. record { leaf = fetch.leaf; parts = parts fetch.conds (db.content n (placed_in (db.catalogue n) fetch.leaf) whole) } ∷ rest) (all_brought fetches)

pub are_all_brought : (catalogue : Catalogue) → IsBase (database catalogue) → LeafNamesAreUnique → (stated : Statement) (reduced : ReducedNodes) (whole : Relations) → IsStatementOf (schemas_of catalogue) stated → is_refragment stated ≡ false → AreFetchesOf catalogue stated reduced.fetches.items → FindsAll catalogue stated reduced.fetches.items (plan_of reduced.nodes.items) →
    FitsSchema (schemas_of catalogue) whole → (rows : List FetchRows) → rows ≡ map (brought_of catalogue whole) reduced.fetches.items → AreBrought catalogue whole reduced.fetches.items (given rows)
are_all_brought catalogue base unique stated reduced whole of stays fetches finds fits rows are =
    let db = database catalogue in
    let asks = map (ghost_ask db 0 whole) reduced.fetches.items in
    let plan : ReducedPlan = record { nodes = reduced.nodes.items; fetches = reduced.fetches.items } in
    let planned : IsOfPlan db 0 stated plan asks = record { statement = stated_plainly db 0 stated (record { of_schemas = of; stays = stays }); fetches = fetches; finds = finds; in_order = in_order db 0 whole reduced.fetches.items } in
    subst (λ rs. AreBrought catalogue whole reduced.fetches.items (given rs)) (all_brought db 0 whole reduced.fetches.items ∙ sym are)
    (are_brought db base.of_catalogue 0 unique stated plan asks planned whole fits (all_given db 0 whole reduced.fetches.items))

-- ---- the SELECT of all columns
below : (first n : ℕ) → AllByRecursion (λ col. col < first + n) (range_with_len first n)
below first zero = tt
below first (suc n) = (omega arith, subst (λ m. AllByRecursion (λ col. col < m) (range_with_len (first + 1) n)) same (below (first + 1) n))
  where
    same : first + 1 + n ≡ first + suc n
    same = omega arith

all_schemas : (P : RelationSchema → Type 0) (sites : List (List ℕ)) (relations : List SplitRelation) → ((relation : SplitRelation) → IsFormedRelation sites relation → P relation.schema) → AllByRecursion (IsFormedRelation sites) relations → AllByRecursion P (map (λ relation. relation.schema) relations)
all_schemas P sites [] makes all = tt
all_schemas P sites (relation ∷ relations) makes all = (makes relation all.0, all_schemas P sites relations makes all.1)

-- it is one of the schema
pub everything_fits : (catalogue : Catalogue) → IsFormed catalogue → (name : List ℕ) (relation : RelationSchema) → relation_named name (schemas_of catalogue) ≡ Some relation → IsStatementOf (schemas_of catalogue) (statement.Select (everything relation))
everything_fits catalogue formed name relation there =
    let schemas = schemas_of catalogue in
    let one = found_so (λ r. length r.columns ≤ 16) (λ r. pointwise nat_eq r.name name) schemas relation (all_schemas (λ r. length r.columns ≤ 16) catalogue.sites catalogue.relations (λ r is. is.few) formed.relations) there in
    let same = name_is relation.name name one.1 in
    let long = length-range_with_len 0 (length relation.columns) in
    let wide : length (kinds_of relation) ≡ length relation.columns = length-map relation.columns (λ c. c.kind) in
    let few = one.0 in
    record {
      relation = relation;
      types = kinds_of relation;
      there = subst (λ n. relation_named n schemas ≡ Some relation) (sym same) there;
      names = refl;
      few_joins = omega arith;
      joins = refl;
      few_columns = omega (arith, long, few);
      columns = subst (λ m. AllByRecursion (λ col. col < m) (places_to (length relation.columns))) (omega (arith, wide)) (below 0 (length relation.columns));
      few_conds = omega arith;
      conds = tt;
    }

keeps_all : (rows : List (List Value)) → filter (conds_hold []) rows ≡ rows
keeps_all [] = refl
keeps_all (row ∷ rows) = ap (λ rest. row ∷ rest) (keeps_all rows)

lists_all : (kinds : List Kind) (width : ℕ) (rows : List (List Value)) → length kinds ≡ width → AllByRecursion (FitsKinds kinds) rows → map (listed (places_to width)) rows ≡ rows
lists_all kinds width [] long fit = refl
lists_all kinds width (row ∷ rows) long fit =
    let wide : length row ≡ width = fits_long kinds row fit.0 ∙ long in
    let one : listed (places_to width) row ≡ row = ap (λ (n : ℕ). listed (range_with_len 0 n) row) (sym wide) ∙ listed_all row in
    ap₂ (λ (first : List Value) (rest : List (List Value)). first ∷ rest) one (lists_all kinds width rows long fit.1)

-- it answers the rows of the relation
pub answers_rows : (schemas : List RelationSchema) (whole : Relations) (name : List ℕ) (relation : RelationSchema) → FitsSchema schemas whole → relation_named name schemas ≡ Some relation →
    (meaning (statement.Select (everything relation)) whole).0 ≡ answer.Rows (listed (places_to (length relation.columns)) (names_of relation)) (rows_of whole name)
answers_rows schemas whole name relation fits there =
    let same = name_is relation.name name (found_so (λ r. Unit {0}) (λ r. pointwise nat_eq r.name name) schemas relation (all_units schemas) there).1 in
    ap (answer.Rows (listed (places_to (length relation.columns)) (names_of relation)))
    (ap (map (listed (places_to (length relation.columns)))) (keeps_all (rows_of whole relation.name) ∙ ap (rows_of whole) same)
    ∙ lists_all (kinds_of relation) (length relation.columns) (rows_of whole name) (length-map relation.columns (λ c. c.kind)) (fits.fit name relation there).fit)
  where
    all_units : (all : List RelationSchema) → AllByRecursion (λ r. Unit {0}) all
    all_units [] = tt
    all_units (first ∷ rest) = (tt, all_units rest)

-- what the code shows of a relation, where there is one
pub shows_rows : (schemas : List RelationSchema) (whole : Relations) (name : List ℕ) (found : Option Statement) (stated : Statement) (told : Answer) (items : List (List Value)) → FitsSchema schemas whole → found ≡ option_map (λ relation. statement.Select (everything relation)) (relation_named name schemas) → found ≡ Some stated →
    told ≡ (meaning stated whole).0 → ((names : List (List ℕ)) (rows : List (List Value)) → told ≡ answer.Rows names rows → items ≡ rows) → Some items ≡ option_map (λ relation. rows_of whole name) (relation_named name schemas)
shows_rows schemas whole name found stated told items fits found_is is answered shows = go (relation_named name schemas) refl
  where
    go : (o : Option RelationSchema) → relation_named name schemas ≡ o → Some items ≡ option_map (λ relation. rows_of whole name) o
    go None there = let none : Some stated ≡ None = sym is ∙ found_is ∙ ap (option_map (λ (relation : RelationSchema). statement.Select (everything relation))) there in absurd cc
    go (Some relation) there =
        let same : stated ≡ statement.Select (everything relation) = some_is (sym is ∙ found_is ∙ ap (option_map (λ (relation : RelationSchema). statement.Select (everything relation))) there) in
        ap (λ (rows : List (List Value)). Some rows) (shows (listed (places_to (length relation.columns)) (names_of relation)) (rows_of whole name) (answered ∙ ap (λ (s : Statement). (meaning s whole).0) same ∙ answers_rows schemas whole name relation fits there))

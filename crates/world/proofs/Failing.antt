-- Why what is kept can't be shown: what is said of a call holds of the calls that it is part of.
use Rattle.std.proofs.Common.{◌≡◌, sym, ap, ◌∙◌, subst, ℕ, List, [], ◌∷◌, map, Some, Result, Ok, Err, IfErr, inl, inr, ⊎_elim, refl}
use Rattle.std.specs.Result.{IsErrAnd}
use Rattle.std.specs.List.{AllByRecursion}
use Rattle.terms.specs.declared.leaf.Leaf.{Leaf}
use Rattle.terms.specs.declared.value.Value.{Value}
use Rattle.meaning.specs.declared.statement.Statement.{Statement}
use Rattle.meaning.specs.Statement.{IsStatementOf}
use Rattle.meaning.specs.Whole.{FitsSchema, Relations}
use Rattle.catalog.specs.declared.relation.SplitRelation.{SplitRelation}
use Rattle.catalog.specs.Catalogue.{Catalogue}
use Rattle.catalog.specs.FragmentLeaf.{catalogue_leaves, is_name_of, leaf_named, schemas_of}
use Rattle.catalog.specs.Laws.{LeafNamesAreUnique}
use Rattle.catalog.specs.Relation.{catalogue_of}
use Rattle.plan.specs.declared.fetch.Fetch.{Fetch}
use Rattle.plan.specs.declared.need.Need.{Need}
use Rattle.plan.specs.Contents.{ContentsAscend}
use Rattle.plan.specs.Given.{AreBrought, brought}
use Rattle.plan.specs.Rows.{met}
use Rattle.plan.specs.Stated.{AreFetchesOf}
use Rattle.answers.specs.FetchRows.{FetchRows}
use Rattle.answers.specs.Table.{AreParts}
use Rattle.store.specs.declared.name.Txn.{Txn}
use Rattle.store.specs.Content.{parts}
use Rattle.desk.specs.declared.refusal.Refusal.TheVariants.{Memory}
use Rattle.desk.specs.OfCatalogue.{FormsParts, HasContent}
use Rattle.desk.proofs.AtHomes.{found_so}
use Rattle.desk.proofs.Located.{IsOfSome, IsFetchOf, are_of}
use Rattle.world.specs.declared.fault.Fault.{Fault}
use Rattle.world.specs.declared.fault.Fault.TheVariants as fault
use Rattle.desk.specs.CatalogueDatabase.{IsBase, database}
use Rattle.world.specs.Counted.{HaveRefused, NoFewer}
use Rattle.world.specs.Fault.{FailsFor, is_memory}
use Rattle.world.specs.Machines.{Machines}
use Rattle.world.specs.Settled.{AreDecided, HasSitesOf, SettlesTo, brought_of}
use Rattle.desk.specs.Place.{Place, home_in}
use Rattle.world.proofs.DatabasePlaces.{home_there}
use Rattle.world.proofs.DatabaseIsHoused.{housed, parts_fit}
use Rattle.world.proofs.Counting.{refused_since}

-- where refusals of some counts are refusals of others
pub fails_so : (a b c d : List ℕ) → (HaveRefused a b → HaveRefused c d) → (told : Fault) → FailsFor a b told → FailsFor c d told
fails_so a b c d to told = ⊎_elim (λ memory. inl memory) (λ refused. inr (refused.0, to refused.1))

-- why a call fails after another one is why both together do
pub fails_since : (first second third : List ℕ) → NoFewer first second → (told : Fault) → FailsFor second third told → FailsFor first third told
fails_since first second third one = fails_so second third first third (λ refused. refused_since first second third one refused)

-- a fault that is want of memory needs no other reason
pub memory_fails : (before after : List ℕ) (told : Fault) → told ≡ fault.Desk Memory → FailsFor before after told
memory_fails before after told is = inl (ap is_memory is)

-- what a call tells is told on
pub fails_on : {T : Type 0} (result : Result T Fault) (told : Fault) (before after : List ℕ) → IsErrAnd result (λ now. now ≡ told) → FailsFor before after told → IfErr result (FailsFor before after)
fails_on (Ok done) told before after is why = tt
fails_on (Err now) told before after is why = subst (FailsFor before after) (sym is) why

-- machines that are the same have the same sites
pub fit_still : (x y : List (List ℕ) × List SplitRelation) (one other : Machines) → y ≡ x → other ≡ one → HasSitesOf (catalogue_of x) one → HasSitesOf (catalogue_of y) other
fit_still x y one other catalog same fit = subst (λ z. HasSitesOf (catalogue_of z) other) (sym catalog) (subst (HasSitesOf (catalogue_of x)) (sym same) fit)

-- what came of fetches at the later ones is what they are to bring at the earlier ones
pub came_so : (x y : List (List ℕ) × List SplitRelation) (one other : Machines) (whole : Relations) (decided : List Txn) (came : List FetchRows) (fetches : List Fetch) → y ≡ x → other ≡ one →
    (HasSitesOf (catalogue_of y) other → SettlesTo (catalogue_of y) other whole → AreDecided other.table decided → came ≡ map (brought_of (catalogue_of y) whole) fetches) →
    HasSitesOf (catalogue_of x) one → SettlesTo (catalogue_of x) one whole → AreDecided one.table decided → came ≡ map (brought_of (catalogue_of x) whole) fetches
came_so x y one other whole decided came fetches catalog same brings =
    let Brings : List (List ℕ) × List SplitRelation → Machines → Type 0 = λ z machines. HasSitesOf (catalogue_of z) machines → SettlesTo (catalogue_of z) machines whole → AreDecided machines.table decided → came ≡ map (brought_of (catalogue_of z) whole) fetches in
    subst (Brings x) same (subst (λ z. Brings z other) catalog brings)

-- ---- what fetches bring
module _ (catalogue : Catalogue) (base : IsBase (database catalogue)) (unique : LeafNamesAreUnique) (ascend : ContentsAscend) (whole : Relations) (fits : FitsSchema (schemas_of catalogue) whole) where
  -- what a fetch brings of a whole database is parts of its columns
  one_fits : (need : Need) (fetch : Fetch) → IsFetchOf (catalogue_leaves catalogue) need fetch → AreParts fetch.columns (brought whole fetch (leaf_named fetch.leaf (catalogue_leaves catalogue)))
  one_fits need fetch is =
      let db = database catalogue in
      let all = catalogue_leaves catalogue in
      let leaf = is.leaf in
      let home = home_in catalogue leaf.name in
      let place : Place = (home, leaf.name) in
      let house = housed catalogue (base.of_catalogue.formed 0) unique ascend 0 in
      let there : leaf_named fetch.leaf all ≡ Some leaf = ap (λ (f : Fetch). leaf_named f.leaf all) is.is ∙ is.here.unique in
      let own : leaf_named leaf.name all ≡ Some leaf = is.here.unique in
      let has = (found_so (HasContent db 0 whole) (is_name_of fetch.leaf) all leaf (base.of_catalogue.content 0 whole fits) there).0 home (home_there catalogue (base.of_catalogue.formed 0) leaf.name leaf own) in
      let forms = (found_so (FormsParts db 0) (is_name_of fetch.leaf) all leaf (base.of_catalogue.well_formed 0) there).0 home in
      let well = parts_fit catalogue (base.of_catalogue.formed 0) unique ascend 0 place fetch.conds (db.content 0 place whole) (house.contents (0, whole) fits refl place) in
      subst (λ (columns : List ℕ). AreParts columns (brought whole fetch (leaf_named fetch.leaf all))) (sym (ap (λ (f : Fetch). f.columns) is.is))
      (subst (AreParts leaf.columns) (ap (met fetch.conds) has ∙ sym (ap (brought whole fetch) there)) ((forms (parts fetch.conds (db.content 0 place whole))).0 well))

  -- so of each of some fetches
  all_fit : (needs : List Need) (contents : Leaf → List (List Value)) (fetches : List Fetch) → AllByRecursion (IsOfSome (catalogue_leaves catalogue) needs) fetches → AreBrought catalogue whole fetches contents → AllByRecursion (λ read. AreParts read.columns (contents read.leaf)) fetches
  all_fit needs contents [] of came = tt
  all_fit needs contents (fetch ∷ fetches) of came = (
    subst (AreParts fetch.columns) (sym came.0) (one_fits of.0.need fetch of.0.of),
    all_fit needs contents fetches of.1 came.1,
  )

  -- what the fetches of a statement bring is parts of their columns
  pub parts_come : (stated : Statement) (contents : Leaf → List (List Value)) (fetches : List Fetch) → IsStatementOf (schemas_of catalogue) stated → AreFetchesOf catalogue stated fetches → AreBrought catalogue whole fetches contents → AllByRecursion (λ read. AreParts read.columns (contents read.leaf)) fetches
  parts_come stated contents fetches of are came =
      let known = are_of catalogue unique (base.of_catalogue.formed 0) stated fetches of are in
      all_fit known.needs contents fetches known.each came

-- The settled fragments of machines are those of a whole database, leaf by leaf of the catalogue in force.
use Rattle.std.proofs.Common.{◌≡◌, refl, sym, ap, ◌∙◌, subst, ℕ, true, List, Some, None, Option, option_map, is_some, Result, IfOk}
use Rattle.std.specs.FinMap as fin
use Rattle.terms.specs.declared.leaf.Leaf.{Leaf}
use Rattle.terms.specs.declared.value.Value.{Value}
use Rattle.meaning.specs.declared.schema.RelationSchema.{RelationSchema}
use Rattle.meaning.specs.Schema.{relation_named}
use Rattle.meaning.specs.Whole.{FitsSchema, Relations, rows_of}
use Rattle.catalog.specs.declared.fragment_leaf.FragmentLeaf.{FragmentLeaf}
use Rattle.catalog.specs.Catalogue.{Catalogue}
use Rattle.catalog.specs.Fragment.{content}
use Rattle.catalog.specs.FragmentLeaf.{catalogue_leaves, is_name_of, leaf_named, unnamed}
use Rattle.plan.proofs.Fetched.{one_name}
use Rattle.desk.specs.CatalogueDatabase.{database, found}
use Rattle.desk.specs.Database.{Database}
use Rattle.desk.specs.OfCatalogue.{HasContent, IsOfCatalogue}
use Rattle.desk.specs.Place.{home_in, placed_in}
use Rattle.desk.proofs.AtHomes.{found_so, site_is}
use Rattle.world.specs.Machines.{AreFit, Machines}
use Rattle.world.specs.Listed.{FitsList}
use Rattle.world.specs.Settled.{AreThoseOf, HasSitesOf, SettlesTo, rows_shown}
use Rattle.world.proofs.SettledSites.{settled_there}

-- at its site a leaf has the parts that the fragment has of its relation
values_at : (db : Database) (n : ℕ) (whole : Relations) (leaf : Leaf) (there : FragmentLeaf) → IsOfCatalogue db → FitsSchema db.schemas whole → leaf_named leaf (catalogue_leaves (db.catalogue n)) ≡ Some there →
    fin.values (db.content n (placed_in (db.catalogue n) leaf) whole) ≡ content (unnamed there) (rows_of whole there.name.relation)
values_at db n whole leaf there of fits is =
    let home = home_in (db.catalogue n) leaf in
    let has = found_so (HasContent db n whole) (is_name_of leaf) (catalogue_leaves (db.catalogue n)) there (of.content n whole fits) is in
    ap (λ (name : Leaf). fin.values (db.content n (home, name) whole)) (sym (one_name there.name leaf has.1)) ∙ has.0 home (site_is db of n leaf there is)

-- what the database of a list of catalogues has under one of them, its own database has
settles : (db : Database) (n : ℕ) (machines : Machines) (whole : Relations) → IsOfCatalogue db → IsOfCatalogue (database (db.catalogue n)) → machines.table.version ≡ n → FitsSchema db.schemas whole → AreThoseOf db machines whole → SettlesTo (db.catalogue n) machines whole
settles db n machines whole of own version fits those decided leaf parts are known settled = go (found (db.catalogue n) leaf) known refl
  where
    go : (o : Option FragmentLeaf) → is_some o ≡ true → found (db.catalogue n) leaf ≡ o → fin.values parts ≡ fin.values ((database (db.catalogue n)).content n (placed_in (db.catalogue n) leaf) whole)
    go None some is = absurd cc
    go (Some there) some is =
        let place = placed_in (db.catalogue n) leaf in
        ap fin.values (sym (settled_there db machines decided place parts are settled) ∙ those place ∙ ap (λ (m : ℕ). db.content m place whole) version)
        ∙ values_at db n whole leaf there of fits is
        ∙ sym (values_at (database (db.catalogue n)) n whole leaf there own (subst (λ schemas. FitsSchema schemas whole) (of.schemas n) fits) is)

pub settles_to : (db : Database) (catalogue : Catalogue) (machines : Machines) (whole : Relations) → IsOfCatalogue db → IsOfCatalogue (database catalogue) → db.catalogue machines.table.version ≡ catalogue → FitsSchema db.schemas whole → AreThoseOf db machines whole → SettlesTo catalogue machines whole
settles_to db catalogue machines whole of own in_force fits those =
    subst (λ c. SettlesTo c machines whole) in_force (settles db machines.table.version machines whole of (subst (λ c. IsOfCatalogue (database c)) (sym in_force) own) refl fits those)

-- the sites of machines that fit one catalogue are those that it names
pub sites_of_fit : (catalogue : Catalogue) (machines : Machines) → AreFit (database catalogue) machines → HasSitesOf catalogue machines
sites_of_fit catalogue machines fit = record { names = fit.names; seated = fit.sites; rows = fit.desk.rows }

-- so over a list of them, of the one in force
pub sites_of_list : (db : Database) (catalogue : Catalogue) (machines : Machines) → IsOfCatalogue db → db.catalogue machines.table.version ≡ catalogue → FitsList db machines → HasSitesOf catalogue machines
sites_of_list db catalogue machines of in_force fit = record {
  names = fit.names ∙ of.sites machines.table.version ∙ ap (λ (c : Catalogue). c.sites) in_force;
  seated = fit.sites;
  rows = fit.desk.rows;
}

-- the rows of a relation are looked up by the relations that the catalogue in force splits
pub rows_so : {T E : Type 0} (db : Database) (schemas : List RelationSchema) (result : Result T E) (items : T → Option (List (List Value))) (whole : Relations) (name : List ℕ) → db.schemas ≡ schemas →
    IfOk result (λ shown. items shown ≡ option_map (λ relation. rows_of whole name) (relation_named name schemas)) → IfOk result (λ shown. items shown ≡ rows_shown db whole name)
rows_so db schemas result items whole name same = subst (λ all. IfOk result (λ shown. items shown ≡ option_map (λ relation. rows_of whole name) (relation_named name all))) (sym same)

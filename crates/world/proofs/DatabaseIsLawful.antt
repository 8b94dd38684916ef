-- The database of a catalogue is that of the catalogue, and its language is lawful.
use Rattle.std.proofs.Common.{◌≡◌, refl, sym, ap, ◌∙◌, ℕ, List, [], ◌∷◌, ◌++◌, map, Option, Some, None}
use Rattle.std.specs.FinMap as fin
use Rattle.std.specs.List.{AllByRecursion, slice_get}
use Rattle.meaning.specs.Whole.{FitsSchema, Relations, rows_of}
use Rattle.meaning.proofs.Kept.{meaning_fits}
use Rattle.catalog.specs.declared.fragment_leaf.FragmentLeaf.{FragmentLeaf}
use Rattle.catalog.specs.Catalogue.{Catalogue, IsValidCatalogue, SplitRelation}
use Rattle.catalog.specs.Formed.{IsFormed}
use Rattle.catalog.specs.Fragment.{content}
use Rattle.catalog.specs.FragmentLeaf.{catalogue_leaves, leaf_named, schemas_of, unnamed}
use Rattle.catalog.specs.Laws.{LeafNamesAreUnique}
use Rattle.plan.specs.Contents as contents
use Rattle.plan.specs.Picked.{FetchesAreTold, OneListOfFetches, fetches_by}
use Rattle.answers.specs.Evaluated.{parts_climb}
use Rattle.answers.specs.Writes.{WritesLead}
use Rattle.answers.proofs.Climbing.{parts_are}
use Rattle.store.specs.Content.{Content}
use Rattle.protocol.specs.Catalogues.{IsLawfulList}
use Rattle.protocol.specs.Local.{local}
use Rattle.site.proofs.Lawful.{local_lawful}
use Rattle.desk.specs.Database.{statements}
use Rattle.desk.specs.OfCatalogue.{FormsParts, HasContent}
use Rattle.desk.specs.CatalogueDatabase.{IsBase, database, found, width_of}
use Rattle.desk.specs.Place.{fetch_in, home_in}
use Rattle.world.proofs.DatabaseIsStored.{values_stored}
use Rattle.world.proofs.DatabaseIsWritten.{writes_right}
use Rattle.world.proofs.DatabasePlaces.{content_none, content_there, home_there}
use Rattle.catalog.specs.Chain.{DifferIn}

-- what holds of each leaf that its own name finds holds of all
each_found : (P Q : FragmentLeaf → Type 0) (leaves all : List FragmentLeaf) → ((leaf : FragmentLeaf) → leaf_named leaf.name leaves ≡ Some leaf → P leaf → Q leaf) →
    AllByRecursion (λ leaf. leaf_named leaf.name leaves ≡ Some leaf) all → AllByRecursion P all → AllByRecursion Q all
each_found P Q leaves [] makes own each = tt
each_found P Q leaves (leaf ∷ all) makes own each = (makes leaf own.0 each.0, each_found P Q leaves all makes own.1 each.1)

-- a catalogue splits no relation otherwise than itself
same_middle : {A : Type 0} (before after : List A) (one other : A) → before ++ one ∷ after ≡ before ++ other ∷ after → one ≡ other
same_middle [] after one other e = cc
same_middle (first ∷ before) after one other e = same_middle before after one other (cc)

no_next : (catalogue : Catalogue) (name : List ℕ) → DifferIn catalogue.relations catalogue.relations name → ⊥
no_next catalogue name differ = differ.split (ap (λ (relation : SplitRelation). relation.tree) (same_middle differ.before differ.after differ.one differ.other (sym differ.are ∙ differ.become)))

module _ (catalogue : Catalogue) (formed : IsFormed catalogue) (unique : LeafNamesAreUnique) (ascend : contents.ContentsAscend) where
  own : AllByRecursion (λ leaf. found catalogue leaf.name ≡ Some leaf) (catalogue_leaves catalogue)
  own = unique catalogue formed

  pub homes : AllByRecursion (λ leaf. slice_get catalogue.sites leaf.site ≡ Some (home_in catalogue leaf.name)) (catalogue_leaves catalogue)
  homes = each_found (λ leaf. found catalogue leaf.name ≡ Some leaf) _ (catalogue_leaves catalogue) (catalogue_leaves catalogue) (λ leaf there again. home_there catalogue formed leaf.name leaf there) own own

  forms : (n : ℕ) → AllByRecursion (FormsParts (database catalogue) n) (catalogue_leaves catalogue)
  forms n = each_found (λ leaf. found catalogue leaf.name ≡ Some leaf) _ (catalogue_leaves catalogue) (catalogue_leaves catalogue)
      (λ leaf there again site rows. parts_are leaf.columns rows (parts_climb (width_of (found catalogue leaf.name)) None rows) (ap (λ (o : Option FragmentLeaf). parts_climb (width_of o) None rows) there))
      own own

  has_content : (n : ℕ) (whole : Relations) → FitsSchema (schemas_of catalogue) whole → AllByRecursion (HasContent (database catalogue) n whole) (catalogue_leaves catalogue)
  has_content n whole fits = each_found _ _ (catalogue_leaves catalogue) (catalogue_leaves catalogue)
      (λ leaf there parts site at. ap (λ (kept : Content). fin.values kept) (content_there catalogue site leaf.name whole leaf there at) ∙ values_stored (content (unnamed leaf) (rows_of whole leaf.name.relation)) parts.ascends)
      own (ascend catalogue whole formed fits)

  pub is_base : IsValidCatalogue catalogue → FetchesAreTold → OneListOfFetches → IsBase (database catalogue)
  is_base valid told one = record {
    of_catalogue = record {
      formed = λ n. formed;
      schemas = λ n. refl;
      sites = λ n. refl;
      well_formed = forms;
      content = has_content;
      fetches = λ n statement fetches is are. ap (map (fetch_in catalogue)) (one catalogue statement (fetches_by catalogue statement) fetches (told catalogue statement formed valid is) are);
      writes = λ n before after. refl;
      moves = λ n name whole next. absurd (no_next catalogue name next.relations);
    };
    nowhere = λ n place whole none. content_none catalogue place.0 place.1 whole none;
  }

pub lawful_list : (catalogue : Catalogue) → IsFormed catalogue → contents.ContentsAscend → WritesLead → IsLawfulList local (statements (database catalogue))
lawful_list catalogue formed ascend lead = record {
  site = local_lawful;
  keeps_whole = λ n statement whole is fits. meaning_fits (schemas_of catalogue) statement whole is.of_schemas fits;
  writes_right = λ n statement whole place is fits. writes_right lead ascend catalogue formed whole _ place fits (meaning_fits (schemas_of catalogue) statement whole is.of_schemas fits);
}

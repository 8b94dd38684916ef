-- What holds of the relations of a catalogue that a statement names.
use Rattle.std.proofs.Common.{◌≡◌, ◌≤◌, ℕ, Bool, true, false, cond, List, [], ◌∷◌, Option, Some, None, find, length, map, nat_eq, refl, ap, ◌∙◌, subst, arith}
use Rattle.std.proofs.lemmas.List.{length-map}
use Rattle.std.specs.List.{AllByRecursion}
use Rattle.std.specs.Cmp.Lexicographic.{pointwise}
use Rattle.terms.specs.declared.value.Kind.{Kind}
use Rattle.terms.specs.Cond.{IsCondOf}
use Rattle.meaning.specs.declared.schema.RelationSchema.{RelationSchema}
use Rattle.meaning.specs.Schema as meaning
use Rattle.meaning.specs.Schema.{kinds_of}
use Rattle.catalog.specs.declared.fragment_leaf.FragmentLeaf.{FragmentLeaf}
use Rattle.catalog.specs.Catalogue.{Catalogue, SplitRelation, IsValidCatalogue, IsValidRelation}
use Rattle.catalog.specs.Formed.{IsFormed, IsFormedRelation, IsLeafOver}
use Rattle.catalog.specs.FragmentLeaf as catalog
use Rattle.catalog.specs.FragmentLeaf.{leaves_in, relation_named, schemas_of}
use Rattle.plan.specs.Stated.{kinds_in, kinds_found, leaves_of}

found_step : (P : SplitRelation → Type 0) (t : Bool) (first : SplitRelation) (rest : Option SplitRelation) (relation : SplitRelation) → P first → (rest ≡ Some relation → P relation) → cond t (Some first) rest ≡ Some relation → P relation
found_step P true first rest relation here more is = let one : first ≡ relation = cc in subst P one here
found_step P false first rest relation here more is = more is

-- what holds of each of some relations holds of the one that a test finds
found_all : (P : SplitRelation → Type 0) (test : SplitRelation → Bool) (relations : List SplitRelation) (relation : SplitRelation) → AllByRecursion P relations → find test relations ≡ Some relation → P relation
found_all P test [] relation all is = absurd (cc)
found_all P test (first ∷ rest) relation all is = found_step P (test first) first (find test rest) relation all.0 (found_all P test rest relation all.1) is

-- a relation of the catalogue, by its name
pub record IsIn (catalogue : Catalogue) (name : List ℕ) (schema : RelationSchema) : Type 0 where
  pub relation : SplitRelation
  pub there : relation_named name catalogue.relations ≡ Some relation
  pub same : relation.schema ≡ schema
  pub formed : IsFormedRelation catalogue.sites relation
  pub valid : IsValidRelation relation

-- a relation that the schema of a catalogue has is one of the catalogue
schema_step : (t : Bool) (first : SplitRelation) (rest : Option SplitRelation) (schemas : Option RelationSchema) (schema : RelationSchema) →
    (schemas ≡ Some schema → (relation : SplitRelation) × (rest ≡ Some relation) × (relation.schema ≡ schema)) → cond t (Some first.schema) schemas ≡ Some schema →
    (relation : SplitRelation) × (cond t (Some first) rest ≡ Some relation) × (relation.schema ≡ schema)
schema_step true first rest schemas schema more is = (first, refl, cc)
schema_step false first rest schemas schema more is = more is

schema_found : (name : List ℕ) (relations : List SplitRelation) (schema : RelationSchema) → meaning.relation_named name (map (λ relation. relation.schema) relations) ≡ Some schema →
    (relation : SplitRelation) × (relation_named name relations ≡ Some relation) × (relation.schema ≡ schema)
schema_found name [] schema is = absurd (cc)
schema_found name (first ∷ rest) schema is =
    schema_step (pointwise nat_eq first.schema.name name) first (relation_named name rest) (meaning.relation_named name (map (λ relation. relation.schema) rest)) schema (schema_found name rest schema) is

pub is_in : (catalogue : Catalogue) (name : List ℕ) (schema : RelationSchema) → IsFormed catalogue → IsValidCatalogue catalogue → meaning.relation_named name (schemas_of catalogue) ≡ Some schema → IsIn catalogue name schema
is_in catalogue name schema formed valid is =
    let found = schema_found name catalogue.relations schema is in
    let test : SplitRelation → Bool = λ relation. pointwise nat_eq relation.schema.name name in
    record {
      relation = found.0;
      there = found.1;
      same = found.2;
      formed = found_all (IsFormedRelation catalogue.sites) test catalogue.relations found.0 formed.relations found.1;
      valid = found_all IsValidRelation test catalogue.relations found.0 valid found.1;
    }

-- its types are those of the schema, and its leaves those of its tree
pub kinds_are : (catalogue : Catalogue) (name : List ℕ) (schema : RelationSchema) → IsIn catalogue name schema → kinds_in catalogue name ≡ kinds_of schema
kinds_are catalogue name schema found = ap kinds_found found.there ∙ ap kinds_of found.same

pub leaves_are : (catalogue : Catalogue) (name : List ℕ) (schema : RelationSchema) (found : IsIn catalogue name schema) → leaves_of catalogue name ≡ catalog.leaves_of found.relation
leaves_are catalogue name schema found = ap leaves_in found.there

conds_of_leaves : (sites : List (List ℕ)) (types : List Kind) (leaves : List FragmentLeaf) → AllByRecursion (IsLeafOver sites types) leaves → AllByRecursion (λ leaf. AllByRecursion (IsCondOf types) leaf.conds) leaves
conds_of_leaves sites types [] all = tt
conds_of_leaves sites types (leaf ∷ leaves) all = (all.0.conds, conds_of_leaves sites types leaves all.1)

-- the conditions of the leaves of a name fit the columns of that name
pub leaves_fit : (catalogue : Catalogue) (name : List ℕ) → IsFormed catalogue → AllByRecursion (λ leaf. AllByRecursion (IsCondOf (kinds_in catalogue name)) leaf.conds) (leaves_of catalogue name)
leaves_fit catalogue name formed = at (relation_named name catalogue.relations) (found_all (IsFormedRelation catalogue.sites) (λ relation. pointwise nat_eq relation.schema.name name) catalogue.relations)
  where
    at : (found : Option SplitRelation) → ((relation : SplitRelation) → AllByRecursion (IsFormedRelation catalogue.sites) catalogue.relations → found ≡ Some relation → IsFormedRelation catalogue.sites relation) →
        AllByRecursion (λ leaf. AllByRecursion (IsCondOf (kinds_found found)) leaf.conds) (leaves_in found)
    at None each = tt
    at (Some relation) each = conds_of_leaves catalogue.sites (kinds_of relation.schema) (catalog.leaves_of relation) (each relation formed.relations refl).leaves

-- the leaves of a name are formed over the columns of that name, which are few
pub leaves_over : (catalogue : Catalogue) (name : List ℕ) → IsFormed catalogue → AllByRecursion (IsLeafOver catalogue.sites (kinds_in catalogue name)) (leaves_of catalogue name) × (length (kinds_in catalogue name) ≤ 16)
leaves_over catalogue name formed = at (relation_named name catalogue.relations) (found_all (IsFormedRelation catalogue.sites) (λ relation. pointwise nat_eq relation.schema.name name) catalogue.relations)
  where
    at : (found : Option SplitRelation) → ((relation : SplitRelation) → AllByRecursion (IsFormedRelation catalogue.sites) catalogue.relations → found ≡ Some relation → IsFormedRelation catalogue.sites relation) →
        AllByRecursion (IsLeafOver catalogue.sites (kinds_found found)) (leaves_in found) × (length (kinds_found found) ≤ 16)
    at None each = (tt, omega arith)
    at (Some relation) each =
        let is = each relation formed.relations refl in
        let same = length-map relation.schema.columns (λ c. c.kind) in
        let few = is.few in (is.leaves, omega (arith, same, few))

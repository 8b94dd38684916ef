-- A need of a relation of a catalogue, over a whole database that fits its schema.
use Rattle.std.proofs.Common.{◌≡◌, ℕ, ℤ, ◌<◌, Bool, List, [], ◌∷◌, length, Some, option_and_then, ap, ◌∙◌, subst}
use Rattle.std.specs.List.{AllByRecursion}
use Rattle.terms.specs.declared.leaf.Leaf.{Leaf}
use Rattle.terms.specs.declared.value.Kind.{Kind}
use Rattle.terms.specs.declared.value.Value.{Value}
use Rattle.meaning.specs.declared.schema.RelationSchema.{RelationSchema}
use Rattle.meaning.specs.Schema.{kinds_of}
use Rattle.meaning.specs.Schema as meaning
use Rattle.meaning.specs.Whole.{FitsSchema, Relations, rows_of}
use Rattle.catalog.specs.declared.fragment_leaf.FragmentLeaf.{FragmentLeaf}
use Rattle.catalog.specs.Catalogue.{Catalogue}
use Rattle.catalog.specs.Cover.{OneServes, SomeServes}
use Rattle.catalog.specs.Formed.{IsLeafOver}
use Rattle.catalog.specs.FragmentLeaf.{schemas_of}
use Rattle.catalog.specs.Keyed.{row_at}
use Rattle.catalog.specs.Valid.{IsValid}
use Rattle.plan.specs.declared.need.Need.{Need}
use Rattle.plan.specs.Found.{found_of}
use Rattle.plan.specs.Located.{IsByColumns, IsOfNeed, once}
use Rattle.plan.specs.Reduced.{GivesNeed, reduced}
use Rattle.plan.specs.Rows.{rows}
use Rattle.plan.specs.Shape.{Shape, Filter}
use Rattle.plan.specs.Stated.{IsStated, IsStatedBy, kinds_in, leaves_of}
use Rattle.plan.proofs.InCatalogue.{IsIn, kinds_are, leaves_are}
use Rattle.plan.proofs.LeafReads.{GivesLeaf}
use Rattle.plan.proofs.OneFound.{AreMarked, one_found}
use Rattle.plan.proofs.OneSide.{AreSeen, IsSide, side_leaves}

-- the leaves of a relation of the catalogue
abbrev pub leaves_at : (catalogue : Catalogue) (name : List ℕ) (schema : RelationSchema) → IsIn catalogue name schema → List FragmentLeaf
leaves_at catalogue name schema found = side_leaves (kinds_of schema) found.relation.tree found.relation.schema.name

pub leaves_same : (catalogue : Catalogue) (name : List ℕ) (schema : RelationSchema) (found : IsIn catalogue name schema) → leaves_of catalogue name ≡ leaves_at catalogue name schema found
leaves_same catalogue name schema found =
    leaves_are catalogue name schema found ∙ ap (λ (s : RelationSchema). side_leaves (kinds_of s) found.relation.tree found.relation.schema.name) found.same

columns_of_leaves : (sites : List (List ℕ)) (types : List Kind) (leaves : List FragmentLeaf) → AllByRecursion (IsLeafOver sites types) leaves → AllByRecursion (λ leaf. AllByRecursion (λ col. col < length types) leaf.columns) leaves
columns_of_leaves sites types [] all = tt
columns_of_leaves sites types (leaf ∷ leaves) all = (all.0.columns, columns_of_leaves sites types leaves all.1)

pub side_of : (catalogue : Catalogue) (schema : RelationSchema) (need : Need) (found : IsIn catalogue need.relation schema) (passes : Leaf → Bool) (contents : Leaf → List (List Value)) (whole : Relations) → FitsSchema (schemas_of catalogue) whole →
    meaning.relation_named need.relation (schemas_of catalogue) ≡ Some schema → AllByRecursion (λ col. col < length (kinds_of schema)) need.columns → GivesNeed catalogue whole passes contents need →
    IsSide (kinds_of schema) found.relation.tree need found.relation.schema.name passes contents (rows_of whole need.relation)
side_of catalogue schema need found passes contents whole fit there needed given =
    let tree = found.relation.tree in
    let name = found.relation.schema.name in
    let Valid : RelationSchema → Type 0 = λ s. IsValid (kinds_of s) tree in
    let Columns : RelationSchema → Type 0 = λ s. AllByRecursion (λ leaf. AllByRecursion (λ col. col < length (kinds_of s)) leaf.columns) (side_leaves (kinds_of s) tree name) in
    let Given : List FragmentLeaf → Type 0 = λ leaves. AllByRecursion (GivesLeaf passes contents need (rows_of whole need.relation)) leaves in
    record {
      valid = subst Valid found.same found.valid;
      whole = fit.fit need.relation schema there;
      needed = needed;
      columns = subst Columns found.same (columns_of_leaves catalogue.sites (kinds_of found.relation.schema) (side_leaves (kinds_of found.relation.schema) tree name) found.formed.leaves);
      given = subst Given (leaves_same catalogue need.relation schema found) given;
    }

-- a need without ONs
alone_marks : (catalogue : Catalogue) (need : Need) (passes : Leaf → Bool) (leaves : List FragmentLeaf) → AreMarked (IsStatedBy catalogue need []) passes leaves → AreMarked (IsStated (kinds_in catalogue need.relation) need) passes leaves
alone_marks catalogue need passes [] marks = tt
alone_marks catalogue need passes (leaf ∷ leaves) marks = (λ stated. marks.0 (record { serves = stated; meets = tt }), alone_marks catalogue need passes leaves marks.1)

pub one_need : (catalogue : Catalogue) (schema : RelationSchema) (need : Need) (found : IsIn catalogue need.relation schema) (passes : Leaf → Bool) (contents : Leaf → List (List Value)) (whole : Relations) (key : ℤ) (plan : Shape) → SomeServes → OneServes →
    IsOfNeed catalogue need plan → FitsSchema (schemas_of catalogue) whole → meaning.relation_named need.relation (schemas_of catalogue) ≡ Some schema → AllByRecursion (λ col. col < length (kinds_of schema)) need.columns → AreSeen need.columns need.conds →
    AreMarked (IsStatedBy catalogue need []) passes (leaves_of catalogue need.relation) → GivesNeed catalogue whole passes contents need →
    rows (reduced passes (Filter need.conds plan)) contents key ≡ option_and_then (found_of need.conds need.columns) (row_at key (rows_of whole need.relation))
one_need catalogue schema need found passes contents whole key plan cover one is fit there needed seen marks given =
    let Marks : List Kind → List FragmentLeaf → Type 0 = λ types leaves. AreMarked (IsStated types need) passes leaves in
    let same = leaves_same catalogue need.relation schema found in
    let own_marks = alone_marks catalogue need passes (leaves_of catalogue need.relation) marks in
    let marks_here = subst (λ types. Marks types (leaves_at catalogue need.relation schema found)) (kinds_are catalogue need.relation schema found) (subst (λ leaves. Marks (kinds_in catalogue need.relation) leaves) same own_marks) in
    let Plans : List FragmentLeaf → Type 0 = λ leaves. IsByColumns need leaves (once need.columns) plan in
    one_found (kinds_of schema) found.relation.tree need found.relation.schema.name passes contents (rows_of whole need.relation) key plan cover one (subst Plans same is)
    (side_of catalogue schema need found passes contents whole fit there needed given) seen marks_here

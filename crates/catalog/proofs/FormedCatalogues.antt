-- What a document says of a catalogue holds of the catalogue itself.
use Rattle.std.proofs.Common.{◌≡◌, ◌≢◌, ◌<◌, ℕ, List, [], ◌∷◌, Some, length, map, flat_map, refl, sym, ap₂, subst, arith, codes, String, Global, string_bytes}
use Rattle.std.proofs.lemmas.List.{length-map}
use Rattle.std.specs.List.{AllByRecursion, slice_get}
use Rattle.std.specs.List.Sorted.{IsStrictlySortedBy}
use Rattle.std.specs.Map.{keys_of}
use Rattle.std.specs.Ordering.{nat_cmp}
use Rattle.std.specs.Cmp.Lexicographic.{slice_cmp}
use Rattle.std.specs.declared.cmp.Ordering.TheVariants.{Less}
use Rattle.toml.specs.Data.{Data}
use Rattle.toml.specs.View.{members_view}
use Rattle.terms.specs.declared.value.Kind.{Kind}
use Rattle.terms.specs.declared.value.Kind.TheVariants as kinds
use Rattle.meaning.specs.declared.schema.Column.{Column}
use Rattle.meaning.specs.declared.schema.RelationSchema.{RelationSchema}
use Rattle.meaning.specs.Schema.{kinds_of}
use Rattle.reader.specs.Conds.{CondsOfTextFit}
use Rattle.reader.specs.Printable.{AreNamed}
use Rattle.reader.specs.Tokens.{IsName}
use Rattle.catalog.specs.Catalogue.{SplitRelation, Catalogue, IsColumnText, IsRelationIn, IsDocumentOf, IsValidRelation, IsValidCatalogue, entries}
use Rattle.catalog.specs.Describes.{Each, Frame}
use Rattle.catalog.specs.Formed.{IsFormed, IsFormedRelation, IsLeafOver, names_in}
use Rattle.catalog.specs.declared.fragment_leaf.FragmentLeaf.{FragmentLeaf}
use Rattle.catalog.specs.FragmentLeaf.{leaves_of, catalogue_leaves, schemas_of}
use Rattle.catalog.specs.Path.{columns_beside_key, paths}
use Rattle.catalog.proofs.Entries.{Entry}
use Rattle.catalog.proofs.FormedTrees.{all_both, beside_key, key_below, leaves_over, paths_over}
use Rattle.catalog.proofs.NumberedLeaves.{leaves_length}

-- there is a column where there is a key
filled : (columns : List Column) → slice_get (map (λ column. column.kind) columns) 0 ≡ Some kinds.Int → columns ≢ []
filled [] key = λ none. cc
filled (column ∷ columns) key = λ none. cc

-- the names of columns that texts say are names
columns_named : (texts : List (List ℕ)) (columns : List Column) → Each IsColumnText texts columns → AllByRecursion IsName (map (λ column. column.name) columns)
columns_named [] [] each = tt
columns_named [] (column ∷ columns) each = absurd each
columns_named (text ∷ texts) [] each = absurd each
columns_named (text ∷ texts) (column ∷ columns) each = (each.0.name, columns_named texts columns each.1)

relation_formed : CondsOfTextFit → (sites : List (List ℕ)) (entry : List ℕ × Data) (relation : SplitRelation) → IsRelationIn sites entry relation → IsValidRelation relation → IsFormedRelation sites relation
relation_formed law sites entry relation is valid =
    let kinds = kinds_of relation.schema in
    let frame : Frame = record { sites = sites; columns = relation.schema.columns } in
    let columns = columns_beside_key kinds in
    let same = leaves_length relation.schema.name columns 1 (paths relation.tree) in
    let types = length-map relation.schema.columns (λ (column : Column). column.kind) in record {
      named = record {
        name = subst IsName (sym is.named) is.name;
        filled = filled relation.schema.columns is.key;
        columns = columns_named is.texts relation.schema.columns is.columns;
        distinct = is.distinct;
      };
      few = is.few;
      key = is.key;
      leaves = leaves_over frame relation.schema.name 1 columns (paths relation.tree) (key_below kinds is.key) (omega (arith, types, is.few))
          (paths_over law frame 4 [] columns (codes "columns") entry.1 relation.tree is.describes (beside_key kinds));
      few_leaves = omega (arith, same, is.few_leaves);
    }

relations_formed : CondsOfTextFit → (sites : List (List ℕ)) (said : List (List ℕ × Data)) (relations : List SplitRelation) → Each (IsRelationIn sites) said relations →
    AllByRecursion IsValidRelation relations → AllByRecursion (IsFormedRelation sites) relations
relations_formed law sites [] [] each valid = tt
relations_formed law sites [] (relation ∷ relations) each valid = absurd each
relations_formed law sites (entry ∷ said) [] each valid = absurd each
relations_formed law sites (entry ∷ said) (relation ∷ relations) each valid =
    (relation_formed law sites entry relation each.0 valid.0, relations_formed law sites said relations each.1 valid.1)

-- ---- the order of names

names_said : (sites : List (List ℕ)) (es : List Entry) (relations : List SplitRelation) → Each (IsRelationIn sites) (entries (members_view es)) relations →
    names_in relations ≡ map string_bytes (keys_of es)
names_said sites [] [] each = refl
names_said sites [] (relation ∷ relations) each = absurd each
names_said sites (e ∷ es) [] each = absurd each
names_said sites (e ∷ es) (relation ∷ relations) each =
    ap₂ (λ (name : List ℕ) (names : List (List ℕ)). name ∷ names) each.0.named (names_said sites es relations each.1)

all_less : (key : String Global) (keys : List (String Global)) → AllByRecursion (λ other. slice_cmp nat_cmp (string_bytes key) (string_bytes other) ≡ Less) keys →
    AllByRecursion (λ other. slice_cmp nat_cmp (string_bytes key) other ≡ Less) (map string_bytes keys)
all_less key [] all = tt
all_less key (other ∷ keys) all = (all.0, all_less key keys all.1)

sorted_bytes : (keys : List (String Global)) → IsStrictlySortedBy (λ one other. slice_cmp nat_cmp (string_bytes one) (string_bytes other)) keys → IsStrictlySortedBy (slice_cmp nat_cmp) (map string_bytes keys)
unfolding IsStrictlySortedBy
sorted_bytes [] sorted = tt
sorted_bytes (key ∷ keys) sorted = (all_less key keys sorted.0, sorted_bytes keys sorted.1)

names_ascend : (sites : List (List ℕ)) (es : List Entry) (relations : List SplitRelation) → Each (IsRelationIn sites) (entries (members_view es)) relations →
    IsStrictlySortedBy (λ one other. slice_cmp nat_cmp (string_bytes one) (string_bytes other)) (keys_of es) → IsStrictlySortedBy (slice_cmp nat_cmp) (names_in relations)
names_ascend sites es relations each sorted =
    subst (IsStrictlySortedBy (slice_cmp nat_cmp)) (sym (names_said sites es relations each)) (sorted_bytes (keys_of es) sorted)

-- a catalogue of sites and relations that a document says in the order of their names
pub formed : CondsOfTextFit → (document : Data) (es : List Entry) (catalogue : Catalogue) → IsDocumentOf document catalogue → IsValidCatalogue catalogue → Each (IsRelationIn catalogue.sites) (entries (members_view es)) catalogue.relations →
    IsStrictlySortedBy (λ one other. slice_cmp nat_cmp (string_bytes one) (string_bytes other)) (keys_of es) → IsFormed catalogue
formed law document es catalogue is valid each sorted = record {
  site_names = is.site_names;
  distinct = is.distinct;
  few_sites = is.few_sites;
  some = is.some;
  few_relations = is.few_relations;
  ascending = names_ascend catalogue.sites es catalogue.relations each sorted;
  relations = relations_formed law catalogue.sites (entries is.members) catalogue.relations is.relations valid;
}

-- the schemas of such relations have names for their relations and columns
schemas_named : (sites : List (List ℕ)) (relations : List SplitRelation) → AllByRecursion (IsFormedRelation sites) relations → AreNamed (map (λ relation. relation.schema) relations)
schemas_named sites [] formed = tt
schemas_named sites (relation ∷ relations) formed = (formed.0.named, schemas_named sites relations formed.1)

pub named : (catalogue : Catalogue) (schemas : List RelationSchema) → schemas ≡ schemas_of catalogue → IsFormed catalogue → AreNamed schemas
named catalogue schemas same formed = subst AreNamed (sym same) (schemas_named catalogue.sites catalogue.relations formed.relations)

-- every leaf is at a site there is
leaves_sited : (sites : List (List ℕ)) (kinds : List Kind) (leaves : List FragmentLeaf) → AllByRecursion (IsLeafOver sites kinds) leaves → AllByRecursion (λ leaf. leaf.site < length sites) leaves
leaves_sited sites kinds [] over = tt
leaves_sited sites kinds (leaf ∷ leaves) over = (over.0.site, leaves_sited sites kinds leaves over.1)

relations_sited : (sites : List (List ℕ)) (relations : List SplitRelation) → AllByRecursion (IsFormedRelation sites) relations → AllByRecursion (λ leaf. leaf.site < length sites) (flat_map leaves_of relations)
relations_sited sites [] formed = tt
relations_sited sites (relation ∷ relations) formed =
    all_both (λ leaf. leaf.site < length sites) (leaves_of relation) (flat_map leaves_of relations)
    (leaves_sited sites (kinds_of relation.schema) (leaves_of relation) formed.0.leaves) (relations_sited sites relations formed.1)

pub sited : (catalogue : Catalogue) (leaves : List FragmentLeaf) → leaves ≡ catalogue_leaves catalogue → IsFormed catalogue → AllByRecursion (λ leaf. leaf.site < length catalogue.sites) leaves
sited catalogue leaves same formed =
    subst (AllByRecursion (λ leaf. leaf.site < length catalogue.sites)) (sym same) (relations_sited catalogue.sites catalogue.relations formed.relations)

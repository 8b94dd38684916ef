-- The content of each leaf of a catalogue has parts that fit the leaf's columns, and ascends.
use Rattle.std.proofs.Common.{◌≡◌, ℕ, ℤ, zero, suc, ◌<◌, ◌<ℤ◌, Bool, true, false, cond, List, [], ◌∷◌, length, filter, flat_map, map, nat_eq, Some, refl, ap, sym, ◌∙◌, subst, arith}
use Rattle.std.specs.Cmp.Lexicographic.{nat_list_eq_equiv, pointwise, slice_cmp}
use Rattle.std.specs.List.{AllByRecursion, slice_get}
use Rattle.std.specs.List.Sorted.{IsStrictlySortedBy}
use Rattle.std.specs.Ordering.{is_eq, nat_cmp}
use Rattle.std.specs.declared.cmp.Ordering.TheVariants.{Less}
use Rattle.std.proofs.lemmas.Map.Text.{is_eq-slice_cmp}
use Rattle.terms.specs.declared.cond.Cond.{Cond}
use Rattle.terms.specs.declared.value.Kind.{Kind}
use Rattle.terms.specs.declared.value.Value.{Value}
use Rattle.terms.specs.Cond.{conds_hold}
use Rattle.terms.specs.Row.{FitsKinds, key_of}
use Rattle.terms.specs.Value.{Fits, kind_of}
use Rattle.meaning.specs.Listed.{listed}
use Rattle.meaning.specs.Relation.{Ascends, IsRelation}
use Rattle.meaning.specs.Schema as meaning
use Rattle.meaning.specs.Schema.{kinds_of}
use Rattle.meaning.specs.Whole.{FitsSchema, Relations, rows_of}
use Rattle.meaning.proofs.Rows.{Ascends-passed}
use Rattle.catalog.specs.declared.fragment_leaf.FragmentLeaf.{FragmentLeaf}
use Rattle.catalog.specs.declared.path.Path.{Path}
use Rattle.catalog.specs.Catalogue.{Catalogue, SplitRelation}
use Rattle.catalog.specs.Formed.{IsFormedRelation, IsLeafOver, names_in}
use Rattle.catalog.specs.Fragment.{content}
use Rattle.catalog.specs.FragmentLeaf.{leaves_from, leaves_of, relation_named, schemas_of, unnamed}
use Rattle.catalog.specs.Path.{columns_beside_key, path_columns, path_conds, paths}
use Rattle.plan.specs.Contents.{AreParts, ContentsAscend}
use Rattle.plan.specs.Stated.{kinds_found, kinds_in}
use Rattle.plan.proofs.AtKey.{key-listed}
use Rattle.plan.proofs.NeedsFit.{all_both}

-- the value of a row in a column, and the column's type
record HasAt (types : List Kind) (row : List Value) (col : ℕ) : Type 0 where
  kind : Kind
  value : Value
  in_types : slice_get types col ≡ Some kind
  in_row : slice_get row col ≡ Some value
  of : kind_of value ≡ kind
  good : Fits value

has_at : (types : List Kind) (row : List Value) (col : ℕ) → FitsKinds types row → col < length types → HasAt types row col
has_at [] row col fits within = absurd (omega arith)
has_at (kind ∷ types) [] col fits within = absurd fits
has_at (kind ∷ types) (value ∷ row) zero fits within = record { kind = kind; value = value; in_types = refl; in_row = refl; of = fits.0; good = fits.1 }
has_at (kind ∷ types) (value ∷ row) (suc col) fits within =
    let found = has_at types row col fits.2 (omega arith) in
    record { kind = found.kind; value = found.value; in_types = found.in_types; in_row = found.in_row; of = found.of; good = found.good }

-- a row's part
part_long : (types : List Kind) (row : List Value) (columns : List ℕ) → FitsKinds types row → AllByRecursion (λ col. col < length types) columns → length (listed columns row) ≡ length columns
part_long types row [] fits within = refl
part_long types row (col ∷ columns) fits within =
    let found = has_at types row col fits within.0 in
    rw (found.in_row) (ap suc (part_long types row columns fits within.1))

part_fits : (types : List Kind) (row : List Value) (columns : List ℕ) → FitsKinds types row → AllByRecursion (λ col. col < length types) columns → FitsKinds (listed columns types) (listed columns row)
part_fits types row [] fits within = tt
part_fits types row (col ∷ columns) fits within =
    let found = has_at types row col fits within.0 in
    rw (found.in_types) (rw (found.in_row) (found.of, found.good, part_fits types row columns fits within.1))

parts_of : (P : List Value → Type 0) (Q : List Value → Type 0) (columns : List ℕ) (test : List Value → Bool) (rows : List (List Value)) → ((row : List Value) → P row → Q (listed columns row)) → AllByRecursion P rows → AllByRecursion Q (map (listed columns) (filter test rows))
parts_of P Q columns test [] each all = tt
parts_of P Q columns test (row ∷ rows) each all =
    let rest = parts_of P Q columns test rows each all.1 in
    elim (test row) as (λ t. AllByRecursion Q (map (listed columns) (cond t (row ∷ filter test rows) (filter test rows)))) [
      | true ↦ (each row all.0, rest)
      | false ↦ rest
    ]

-- with the key first, parts ascend as their rows
later_parts : (columns : List ℕ) (key : ℤ) (rows : List (List Value)) → AllByRecursion (λ later. key <ℤ key_of later) rows → AllByRecursion (λ later. key <ℤ key_of later) (map (listed (0 ∷ columns)) rows)
later_parts columns key [] below = tt
later_parts columns key (row ∷ rows) below = (subst (λ (k : ℤ). key <ℤ k) (sym (key-listed columns row)) below.0, later_parts columns key rows below.1)

parts_ascend : (columns : List ℕ) (rows : List (List Value)) → Ascends rows → Ascends (map (listed (0 ∷ columns)) rows)
parts_ascend columns [] order = tt
parts_ascend columns (row ∷ rows) order =
    let Below : ℤ → Type 0 = λ key. AllByRecursion (λ later. key <ℤ key_of later) (map (listed (0 ∷ columns)) rows) in
    (subst Below (sym (key-listed columns row)) (later_parts columns (key_of row) rows order.0), parts_ascend columns rows order.1)

pub content_ascends : (conds : List Cond) (columns : List ℕ) (rows : List (List Value)) → Ascends rows → Ascends (content (record { conds = conds; columns = 0 ∷ columns }) rows)
content_ascends conds columns rows order = parts_ascend columns (filter (conds_hold conds) rows) (Ascends-passed (conds_hold conds) rows order)

are_parts : (types : List Kind) (conds : List Cond) (columns : List ℕ) (rows : List (List Value)) → AllByRecursion (λ col. col < length types) (0 ∷ columns) → IsRelation types rows →
    AreParts types (0 ∷ columns) (content (record { conds = conds; columns = 0 ∷ columns }) rows)
are_parts types conds columns rows within is = record {
  long = parts_of (FitsKinds types) (λ part. length part ≡ length (0 ∷ columns)) (0 ∷ columns) (conds_hold conds) rows (λ row fits. part_long types row (0 ∷ columns) fits within) is.fit;
  fit = parts_of (FitsKinds types) (FitsKinds (listed (0 ∷ columns) types)) (0 ∷ columns) (conds_hold conds) rows (λ row fits. part_fits types row (0 ∷ columns) fits within) is.fit;
  ascends = content_ascends conds columns rows is.ascends;
}

-- each relation of a catalogue is the one that its name finds
name_apart : (one other : List ℕ) → slice_cmp nat_cmp one other ≡ Less → pointwise nat_eq one other ≡ false
name_apart one other less = sym (is_eq-slice_cmp one other) ∙ ap is_eq less

abbrev IsNamed : List SplitRelation → SplitRelation → Type 0
IsNamed relations relation = relation_named relation.schema.name relations ≡ Some relation

passed : (first : SplitRelation) (all rest : List SplitRelation) → AllByRecursion (λ name. slice_cmp nat_cmp first.schema.name name ≡ Less) (names_in rest) → AllByRecursion (IsNamed all) rest → AllByRecursion (IsNamed (first ∷ all)) rest
passed first all [] less named = tt
passed first all (relation ∷ rest) less named = (rw (name_apart first.schema.name relation.schema.name less.0) named.0, passed first all rest less.1 named.1)

all_named : (relations : List SplitRelation) → IsStrictlySortedBy (slice_cmp nat_cmp) (names_in relations) → AllByRecursion (IsNamed relations) relations
unfolding IsStrictlySortedBy
all_named [] sorted = tt
all_named (relation ∷ relations) sorted =
    (rw (nat_list_eq_equiv.refl relation.schema.name) refl, passed relation relations relations sorted.0 (all_named relations sorted.1))

schema_named : (name : List ℕ) (relations : List SplitRelation) (relation : SplitRelation) → relation_named name relations ≡ Some relation → meaning.relation_named name (map (λ r. r.schema) relations) ≡ Some relation.schema
schema_named name [] relation is = absurd (cc)
schema_named name (first ∷ relations) relation is = at (schema_named name relations relation) (pointwise nat_eq first.schema.name name) is
  where
    at : (relation_named name relations ≡ Some relation → meaning.relation_named name (map (λ r. r.schema) relations) ≡ Some relation.schema) → (t : Bool) → cond t (Some first) (relation_named name relations) ≡ Some relation → cond t (Some first.schema) (meaning.relation_named name (map (λ r. r.schema) relations)) ≡ Some relation.schema
    at more true h = let same : first ≡ relation = cc in ap (λ (r : SplitRelation). Some r.schema) same
    at more false h = more h

-- the leaves of one relation
abbrev HasParts : Catalogue → Relations → FragmentLeaf → Type 0
HasParts catalogue whole leaf = AreParts (kinds_in catalogue leaf.name.relation) leaf.columns (content (unnamed leaf) (rows_of whole leaf.name.relation))

numbered_parts : (catalogue : Catalogue) (whole : Relations) (name beside : List ℕ) (types : List Kind) (number : ℕ) (ways : List Path) → kinds_in catalogue name ≡ types → IsRelation types (rows_of whole name) →
    AllByRecursion (IsLeafOver catalogue.sites types) (leaves_from name beside number ways) → AllByRecursion (HasParts catalogue whole) (leaves_from name beside number ways)
numbered_parts catalogue whole name beside types number [] kinds_are is over = tt
numbered_parts catalogue whole name beside types number (way ∷ ways) kinds_are is over =
    let columns = path_columns beside way.steps in
    let Parts : List Kind → Type 0 = λ all. AreParts all (0 ∷ columns) (content (record { conds = path_conds way.steps; columns = 0 ∷ columns }) (rows_of whole name)) in
    (subst Parts (sym kinds_are) (are_parts types (path_conds way.steps) columns (rows_of whole name) over.0.columns is), numbered_parts catalogue whole name beside types (suc number) ways kinds_are is over.1)

relations_parts : (catalogue : Catalogue) (whole : Relations) (relations : List SplitRelation) → FitsSchema (schemas_of catalogue) whole → AllByRecursion (IsFormedRelation catalogue.sites) relations → AllByRecursion (IsNamed catalogue.relations) relations →
    AllByRecursion (HasParts catalogue whole) (flat_map leaves_of relations)
relations_parts catalogue whole [] fit formed named = tt
relations_parts catalogue whole (relation ∷ relations) fit formed named =
    let name = relation.schema.name in
    let types = kinds_of relation.schema in
    let is = fit.fit name relation.schema (schema_named name catalogue.relations relation named.0) in
    all_both (HasParts catalogue whole) (leaves_of relation) (flat_map leaves_of relations)
    (numbered_parts catalogue whole name (columns_beside_key types) types 1 (paths relation.tree) (ap kinds_found named.0) is formed.0.leaves) (relations_parts catalogue whole relations fit formed.1 named.1)

pub contents_ascend : ContentsAscend
contents_ascend catalogue whole formed fit = relations_parts catalogue whole catalogue.relations fit formed.relations (all_named catalogue.relations formed.ascending)

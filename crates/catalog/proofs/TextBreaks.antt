-- What the refusal of sites and of columns says of their texts, by its rule.
use Rattle.std.proofs.Common.{◌≡◌, ◌⊎◌, ◌<◌, ℕ, zero, suc, true, false, List, [], ◌∷◌, ◌++◌, Option, Some, None, length, map, take, drop, get_or, inl, inr, refl, sym, ap, ◌∙◌, subst, arith}
use Rattle.std.proofs.Common.{append_assoc, is_some, option_and_then, String, Global}
use Rattle.toml.specs.declared.value.Value.{Value}
use Rattle.std.specs.Prelude.{codes, unwrap_or}
use Rattle.toml.specs.Data.{Data, string, integer, float, boolean, datetime, array, table, as_str, as_table, get}
use Rattle.toml.specs.Parse.{parse_document}
use Rattle.toml.specs.View.{members_view}
use Rattle.meaning.specs.declared.schema.Column.{Column}
use Rattle.reader.specs.Breaks.{SomeOf}
use Rattle.catalog.specs.declared.fault.Rule.{Rule}
use Rattle.catalog.specs.declared.fault.Rule.TheVariants.{Limit, Toml, Field, Name, Twice, NoSite, KeyType, ColumnTwice, ColumnLost, ColumnAbsent, WrongType, Gap, Overlap, Memory}
use Rattle.catalog.specs.Breaks.{SitesBreak, ColumnsBreak, HasNoName, RelationBreaks, DocumentBreaks, CatalogueTextBreaks, listed_texts, text_before, texts_before}
use Rattle.catalog.specs.Catalogue.{IsColumnText, IsSiteName, document_parts}
use Rattle.catalog.specs.Columns.{HasNoForm, IsColumnFault, IsFitFault}
use Rattle.catalog.specs.Describes.{Each}
use Rattle.catalog.specs.Node.{form_of, some_items, texts_at}
use Rattle.catalog.specs.NodeBreaks.{NodeBreaks}
use Rattle.catalog.specs.Path.{columns_beside_key}
use Rattle.catalog.specs.Refuses.{is_of_text}
use Rattle.catalog.specs.Sites.{IsSiteFault, has_name}
use Rattle.catalog.proofs.CatalogueTexts.{entry_count}
use Rattle.catalog.proofs.Distinct.{new_at}
use Rattle.catalog.proofs.Entries.{each_last}
use Rattle.catalog.proofs.NodeBreaks.{some_taken}

-- a site behind those before it
pub site_break : {A : Type 0} (view : A → List ℕ) (texts : List A) (i : ℕ) (d x : A) (before : List (List ℕ)) (rule : Rule) → x ≡ get_or texts i d → i < length texts →
    before ≡ map view (take i texts) → IsSiteFault before (view x) rule → is_of_text rule ≡ true → SitesBreak rule (map view texts)
site_break view texts i d x before Name is inside so_far fault of_text = inl (refl, some_taken (λ text. IsSiteName text → ⊥) view texts i d x is inside fault)
site_break {A} view texts i d x before Twice is inside so_far fault of_text =
    let P : A → Type 0 = λ y. has_name before (view y) ≡ true in
    let Q : List (List ℕ) → Type 0 = λ names. has_name names (view (get_or texts i d)) ≡ true in
    let there : has_name (map view (take i texts)) (view (get_or texts i d)) ≡ true = subst Q so_far (subst P is fault.1) in
    inr (inl (refl, λ distinct. let both : true ≡ false = sym there ∙ new_at view texts i d inside distinct in cc))
site_break view texts i d x before Memory is inside so_far fault of_text = absurd cc
site_break view texts i d x before Toml is inside so_far fault of_text = absurd fault
site_break view texts i d x before Field is inside so_far fault of_text = absurd fault
site_break view texts i d x before NoSite is inside so_far fault of_text = absurd fault
site_break view texts i d x before KeyType is inside so_far fault of_text = absurd fault
site_break view texts i d x before ColumnTwice is inside so_far fault of_text = absurd fault
site_break view texts i d x before ColumnLost is inside so_far fault of_text = absurd fault
site_break view texts i d x before ColumnAbsent is inside so_far fault of_text = absurd fault
site_break view texts i d x before WrongType is inside so_far fault of_text = absurd fault
site_break view texts i d x before (Gap cell) is inside so_far fault of_text = absurd fault
site_break view texts i d x before (Overlap cell) is inside so_far fault of_text = absurd fault
site_break view texts i d x before Limit is inside so_far fault of_text = absurd fault

-- a list about one of its items
around : {A B : Type 0} (view : A → B) (items : List A) (i : ℕ) (d : A) → i < length items → map view items ≡ map view (take i items) ++ view (get_or items i d) ∷ map view (drop (suc i) items)
around view [] i d inside = absurd (omega arith)
around view (item ∷ items) zero d inside = refl
around {A} {B} view (item ∷ items) (suc i) d inside = ap (λ (rest : List B). view item ∷ rest) (around view items i d (omega arith))

-- a column behind those before it
some_in : {A : Type 0} (P : A → Type 0) (front : List A) (x : A) (after : List A) → P x → SomeOf P (front ++ x ∷ after)
some_in P [] x after here = inl here
some_in P (y ∷ front) x after here = inr (some_in P front x after here)

pub column_in : (front : List (List ℕ)) (text : List ℕ) (after : List (List ℕ)) (before columns : List Column) (rule : Rule) →
    before ≡ columns → Each IsColumnText front columns → IsColumnFault before text rule → is_of_text rule ≡ true → ColumnsBreak rule (front ++ text ∷ after)
column_in front text after before columns Field same said fault of_text = inl (refl, inr (some_in HasNoForm front text after fault))
column_in front text after before columns Name same said fault of_text =
    inr (inl (refl, some_in HasNoName front text after (record { name = fault.0; kind = fault.1; spelled = fault.2; none = fault.3 })))
column_in front text after before columns Twice same said fault of_text =
    inr (inr (inl (refl, record { before = front; text = text; after = after; place = refl; columns = before; said = subst (Each IsColumnText front) (sym same) said; column = fault.0; says = fault.1; again = fault.2 })))
column_in front text after before columns Memory same said fault of_text = absurd cc
column_in front text after before columns Toml same said fault of_text = absurd fault
column_in front text after before columns NoSite same said fault of_text = absurd fault
column_in front text after before columns KeyType same said fault of_text = absurd fault
column_in front text after before columns ColumnTwice same said fault of_text = absurd fault
column_in front text after before columns ColumnLost same said fault of_text = absurd fault
column_in front text after before columns ColumnAbsent same said fault of_text = absurd fault
column_in front text after before columns WrongType same said fault of_text = absurd fault
column_in front text after before columns (Gap cell) same said fault of_text = absurd fault
column_in front text after before columns (Overlap cell) same said fault of_text = absurd fault
column_in front text after before columns Limit same said fault of_text = absurd fault

pub column_break : {A : Type 0} (view : A → List ℕ) (texts : List A) (i : ℕ) (d x : A) (before columns : List Column) (rule : Rule) → x ≡ get_or texts i d → i < length texts →
    before ≡ columns → Each IsColumnText (map view (take i texts)) columns → IsColumnFault before (view x) rule → is_of_text rule ≡ true → ColumnsBreak rule (map view texts)
column_break {A} view texts i d x before columns rule is inside same so_far fault of_text =
    let P : A → Type 0 = λ y. IsColumnFault before (view y) rule in
    let Q : List (List ℕ) → Type 0 = ColumnsBreak rule in
    subst Q (sym (around view texts i d inside)) (column_in (map view (take i texts)) (view (get_or texts i d)) (map view (drop (suc i) texts)) before columns rule same so_far (subst P is fault) of_text)

-- columns that are none of a relation
each_length : (texts : List (List ℕ)) (columns : List Column) → Each IsColumnText texts columns → length columns ≡ length texts
each_length [] [] each = refl
each_length [] (column ∷ columns) each = absurd each
each_length (text ∷ texts) [] each = absurd each
each_length (text ∷ texts) (column ∷ columns) each = ap suc (each_length texts columns each.1)

no_texts : (texts : List (List ℕ)) (columns : List Column) → Each IsColumnText texts columns → columns ≡ [] → texts ≡ []
no_texts [] columns each none = refl
no_texts (text ∷ texts) [] each none = absurd each
no_texts (text ∷ texts) (column ∷ columns) each none = absurd cc

pub fit_break : (texts : List (List ℕ)) (columns : List Column) (rule : Rule) → Each IsColumnText texts columns → IsFitFault columns rule → ColumnsBreak rule texts
fit_break texts columns Limit each many = let same = each_length texts columns each in inr (inr (inr (inl (refl, omega (arith, same, many)))))
fit_break texts columns KeyType each text = inr (inr (inr (inr (refl, columns, each, text))))
fit_break texts columns Field each none = inl (refl, inl (no_texts texts columns each none))
fit_break texts columns Toml each fault = absurd fault
fit_break texts columns Name each fault = absurd fault
fit_break texts columns Twice each fault = absurd fault
fit_break texts columns NoSite each fault = absurd fault
fit_break texts columns ColumnTwice each fault = absurd fault
fit_break texts columns ColumnLost each fault = absurd fault
fit_break texts columns ColumnAbsent each fault = absurd fault
fit_break texts columns WrongType each fault = absurd fault
fit_break texts columns (Gap cell) each fault = absurd fault
fit_break texts columns (Overlap cell) each fault = absurd fault
fit_break texts columns Memory each fault = absurd fault

-- ---- items that are not all texts

-- the texts from an item on, where it is one
pub texts_step : {A : Type 0} (view : A → Data) (items : List A) (i : ℕ) (d x : A) (text : List ℕ) → x ≡ get_or items i d → i < length items → as_str (view x) ≡ Some text →
    texts_before (map view (drop i items)) ≡ text ∷ texts_before (map view (drop (suc i) items))
texts_step view [] i d x text is inside found = absurd (omega arith)
texts_step {A} view (item ∷ items) zero d x text is inside found =
    let P : A → Type 0 = λ y. as_str (view y) ≡ Some text in
    ap (λ (o : Option (List ℕ)). text_before o (texts_before (map view items))) (subst P is found)
texts_step view (item ∷ items) (suc i) d x text is inside found = texts_step view items i d x text is (omega arith) found

-- one column more
pub texts_more : {A : Type 0} (view : A → Data) (items : List A) (i : ℕ) (d x : A) (text : List ℕ) (columns all : List Column) (column : Column) → x ≡ get_or items i d → i < length items → as_str (view x) ≡ Some text → all ≡ columns ++ column ∷ [] → IsColumnText text column →
    ((texts : List (List ℕ)) × (texts_before (map view items) ≡ texts ++ texts_before (map view (drop i items))) × Each IsColumnText texts columns) →
    (texts : List (List ℕ)) × (texts_before (map view items) ≡ texts ++ texts_before (map view (drop (suc i) items))) × Each IsColumnText texts all
texts_more view items i d x text columns all column is inside found pushed says so_far = (
  so_far.0 ++ text ∷ [],
  so_far.1 ∙ ap (λ (rest : List (List ℕ)). so_far.0 ++ rest) (texts_step view items i d x text is inside found) ∙ sym (append_assoc so_far.0 (text ∷ []) (texts_before (map view (drop (suc i) items)))),
  subst (Each IsColumnText (so_far.0 ++ text ∷ [])) (sym pushed) (each_last IsColumnText so_far.0 columns text column so_far.2 says),
)

-- a column of them that is refused
pub item_break : {A : Type 0} (view : A → Data) (items : List A) (i : ℕ) (d x : A) (text : List ℕ) (before columns : List Column) (rule : Rule) → x ≡ get_or items i d → i < length items → as_str (view x) ≡ Some text → before ≡ columns → IsColumnFault before text rule → is_of_text rule ≡ true →
    ((texts : List (List ℕ)) × (texts_before (map view items) ≡ texts ++ texts_before (map view (drop i items))) × Each IsColumnText texts columns) → ColumnsBreak rule (texts_before (map view items))
item_break view items i d x text before columns rule is inside found same fault of_text so_far =
    let Q : List (List ℕ) → Type 0 = ColumnsBreak rule in
    let all = so_far.1 ∙ ap (λ (rest : List (List ℕ)). so_far.0 ++ rest) (texts_step view items i d x text is inside found) in
    subst Q (sym all) (column_in so_far.0 text (texts_before (map view (drop (suc i) items))) before columns rule same so_far.2 fault of_text)

-- ---- a relation

pub no_list : (rule : Rule) (sites : List (List ℕ)) (name : List ℕ) (node : Data) → texts_at (codes "columns") node ≡ None → (rule ≡ Field) ⊎ ColumnsBreak rule (listed_texts node) → RelationBreaks rule sites (name, node)
no_list rule sites name node none broken = inr (inl (none, broken))

pub list_breaks : (rule : Rule) (sites : List (List ℕ)) (name : List ℕ) (node : Data) (texts : List (List ℕ)) → texts_at (codes "columns") node ≡ Some texts → ColumnsBreak rule texts → RelationBreaks rule sites (name, node)
list_breaks rule sites name node texts there broken = inr (inr (texts, there, inl broken))

pub tree_breaks : (rule : Rule) (sites : List (List ℕ)) (name : List ℕ) (node : Data) (texts : List (List ℕ)) (columns : List Column) → texts_at (codes "columns") node ≡ Some texts → Each IsColumnText texts columns →
    NodeBreaks rule (record { sites = sites; columns = columns }) 4 [] (columns_beside_key (map (λ column. column.kind) columns)) (form_of (codes "columns") node) 0 → RelationBreaks rule sites (name, node)
tree_breaks rule sites name node texts columns there said broken = inr (inr (texts, there, inr (columns, said, broken)))

-- what the items of a list say of the node that has it
pub listed_break : (rule : Rule) (node listed : Data) (items : List Data) → get (codes "columns") node ≡ Some listed → some_items listed ≡ Some items → (rule ≡ Field) ⊎ ColumnsBreak rule (texts_before items) → (rule ≡ Field) ⊎ ColumnsBreak rule (listed_texts node)
listed_break rule node listed items there list broken =
    let P : Option Data → Type 0 = λ o. (rule ≡ Field) ⊎ ColumnsBreak rule (texts_before (unwrap_or (option_and_then some_items o) [])) in
    let Q : Option (List Data) → Type 0 = λ o. (rule ≡ Field) ⊎ ColumnsBreak rule (texts_before (unwrap_or o [])) in
    subst P (sym there) (subst Q (sym list) broken)

-- a relation of several that breaks the rule, which memory may have hidden
pub one_breaks : (sites : List (List ℕ)) (before after : List (List ℕ × Data)) (name : List ℕ) (node : Data) (rule answered : Rule) (told : Option (List ℕ)) →
    ((answered ≡ rule) × (told ≡ Some name)) ⊎ (answered ≡ Memory) → (is_of_text rule ≡ true → RelationBreaks rule sites (name, node)) → is_of_text answered ≡ true → SomeOf (RelationBreaks answered sites) (before ++ (name, node) ∷ after)
one_breaks sites before after name node rule answered told (inl same) broken of_text =
    let P : Rule → Type 0 = λ r. is_of_text r ≡ true → RelationBreaks r sites (name, node) in
    some_in (RelationBreaks answered sites) before (name, node) after (subst P (sym same.0) broken of_text)
one_breaks sites before after name node rule answered told (inr memory) broken of_text =
    let P : Rule → Type 0 = λ r. is_of_text r ≡ true in let none : false ≡ true = subst P memory of_text in absurd cc

-- ---- a document and its text

pub text_breaks : (text : List ℕ) (root : Data) (rule : Rule) → as_table root ≡ parse_document text → is_some (as_table root) ≡ true → DocumentBreaks rule root → CatalogueTextBreaks rule text
text_breaks text (table members) rule found is broken = inr (inr (members, sym found, broken))
text_breaks text (string bytes) rule found is broken = absurd cc
text_breaks text (integer number) rule found is broken = absurd cc
text_breaks text (float number) rule found is broken = absurd cc
text_breaks text (boolean truth) rule found is broken = absurd cc
text_breaks text (datetime time) rule found is broken = absurd cc
text_breaks text (array items) rule found is broken = absurd cc

pub too_many_relations : (root : Data) (sites : List (List ℕ)) (es : List (String Global × Value)) (rule : Rule) → rule ≡ Limit → Some (sites, members_view es) ≡ document_parts root → 32 < length es → DocumentBreaks rule root
too_many_relations root sites es rule is parts many = inr (sites, members_view es, sym parts, inr (inr (inl (is, rw (entry_count es) many))))

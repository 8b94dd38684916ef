-- What a text says of a catalogue, by what is read of its document.
use Rattle.std.proofs.Common.{◌≡◌, ◌≢◌, ◌≤◌, ◌<◌, ℕ, Bool, true, false, ◌&&◌, List, [], ◌∷◌, ◌++◌, Option, Some, None, is_some, option_map, not, length, refl, sym, ap, ap₂, subst, ◌∙◌, arith, codes, String, Global}
use Rattle.toml.specs.Data.{Data, string, integer, float, boolean, datetime, array, table, Members, as_table}
use Rattle.toml.specs.Parse.{parse_document}
use Rattle.toml.specs.View.{members_view}
use Rattle.toml.specs.declared.value.Value.{Value}
use Rattle.catalog.specs.declared.fault.Rule.{Rule}
use Rattle.catalog.specs.Catalogue.{Catalogue, SplitRelation, IsRelationIn, IsDocumentOf, IsCatalogueText, IsValidRelation, document_parts, entries}
use Rattle.catalog.specs.Describes.{Each}
use Rattle.catalog.specs.Document.{RefusesDocument, RefusesRelations, RefusesRoot, RefusesText, SaysNoRelations, IsOfNone, are_tables}
use Rattle.catalog.specs.Inexact.{IsFirstFaulty, IsFirstInexact, row_splits}
use Rattle.catalog.specs.Laws.{OneCatalogueOfText, FaultyIsNotValid}
use Rattle.catalog.specs.Path.{columns_beside_key}
use Rattle.meaning.specs.Schema.{kinds_of}
use Rattle.reader.specs.Conds.{OneListOfCondsOfText}
use Rattle.catalog.proofs.Inexact.{none_first, not_valid}
use Rattle.catalog.proofs.Pairs.{each_one}
use Rattle.catalog.proofs.RelationTexts.{one_relation}
use Rattle.catalog.proofs.Refusals.{refuses_also, refuses_map}
use Rattle.catalog.specs.Node.{texts_at}
use Rattle.catalog.specs.Sites.{AreSites, RefusesSites}

-- ---- the document of a text

some_same : {A : Type 0} (x y : A) → Some x ≡ Some y → x ≡ y
some_same x y e = cc

-- a catalogue of the document is one of the text
pub text_is : (text : List ℕ) (root : Data) (catalogue : Catalogue) → length text ≤ 65536 → as_table root ≡ parse_document text → IsDocumentOf root catalogue → IsCatalogueText text catalogue
text_is text (table document) catalogue short parses is = record { short = short; document = document; parses = sym parses; describes = is }
text_is text (string s) catalogue short parses is = absurd (let parts = is.parts in cc)
text_is text (integer z) catalogue short parses is = absurd (let parts = is.parts in cc)
text_is text (float x) catalogue short parses is = absurd (let parts = is.parts in cc)
text_is text (boolean b) catalogue short parses is = absurd (let parts = is.parts in cc)
text_is text (datetime dt) catalogue short parses is = absurd (let parts = is.parts in cc)
text_is text (array items) catalogue short parses is = absurd (let parts = is.parts in cc)

-- and the other way round
document_is : (text : List ℕ) (root : Data) (catalogue : Catalogue) → as_table root ≡ parse_document text → IsCatalogueText text catalogue → IsDocumentOf root catalogue
document_is text (table document) catalogue parses is =
    let same : is.document ≡ document = some_same is.document document (sym is.parses ∙ sym parses) in
    let P : Members → Type 0 = λ ms. IsDocumentOf (table ms) catalogue in subst P same is.describes
document_is text (string s) catalogue parses is = absurd (let other = is.parses in cc)
document_is text (integer z) catalogue parses is = absurd (let other = is.parses in cc)
document_is text (float x) catalogue parses is = absurd (let other = is.parses in cc)
document_is text (boolean b) catalogue parses is = absurd (let other = is.parses in cc)
document_is text (datetime dt) catalogue parses is = absurd (let other = is.parses in cc)
document_is text (array items) catalogue parses is = absurd (let other = is.parses in cc)

-- what a refusal of the document says and what one of the text says
abbrev FaultyRoot : Data → Option (List ℕ) → Rule → Type 0
FaultyRoot root told rule = (catalogue : Catalogue) → IsDocumentOf root catalogue → IsFirstFaulty catalogue.sites told rule catalogue.relations

abbrev FaultyText : List ℕ → Option (List ℕ) → Rule → Type 0
FaultyText text told rule = (catalogue : Catalogue) → IsCatalogueText text catalogue → IsFirstFaulty catalogue.sites told rule catalogue.relations

abbrev TextOfNone : List ℕ → Type 0
TextOfNone text = (catalogue : Catalogue) → IsCatalogueText text catalogue → ⊥

-- a refusal of the document is one of the text
pub refuses_root : (text : List ℕ) (root : Data) (told : Option (List ℕ)) (rule : Rule) → as_table root ≡ parse_document text → RefusesRoot root told rule → RefusesText text told rule
refuses_root text root told rule parses refused =
    refuses_map (FaultyRoot root told rule) (FaultyText text told rule) (IsOfNone root) (TextOfNone text) rule
    (λ first catalogue is. first catalogue (document_is text root catalogue parses is)) (λ none catalogue is. none catalogue (document_is text root catalogue parses is)) refused

no_document : (text : List ℕ) → parse_document text ≡ None → (catalogue : Catalogue) → IsCatalogueText text catalogue → ⊥
no_document text none catalogue is = let some = is.parses in cc

-- a text that is no document
pub refuses_text : (text : List ℕ) (told : Option (List ℕ)) (rule : Rule) → RefusesDocument text rule → RefusesText text told rule
refuses_text text told rule refused = refuses_also (FaultyText text told rule) (parse_document text ≡ None) (TextOfNone text) rule (no_document text) refused

pub too_long : (text : List ℕ) → 65536 < length text → (catalogue : Catalogue) → IsCatalogueText text catalogue → ⊥
too_long text long catalogue is = omega (arith, is.short)

-- ---- the parts of a document

pub no_parts_of : (root : Data) → None ≡ document_parts root → IsOfNone root
no_parts_of root none catalogue is = let some = is.parts in cc

-- its parts are those that were read
parts_are : (root : Data) (sites : List (List ℕ)) (members : Members) → Some (sites, members) ≡ document_parts root → (catalogue : Catalogue) → (is : IsDocumentOf root catalogue) → (catalogue.sites ≡ sites) × (is.members ≡ members)
parts_are root sites members parts catalogue is =
    let same : (catalogue.sites, is.members) ≡ (sites, members) = some_same _ _ (sym is.parts ∙ sym parts) in (ap (λ p. p.0) same, ap (λ p. p.1) same)

-- a relation is said by a table
is_table_of : (d : Data) (texts : List (List ℕ)) → texts_at (codes "columns") d ≡ Some texts → is_some (as_table d) ≡ true
is_table_of (table ms) texts is = refl
is_table_of (string s) texts is = absurd cc
is_table_of (integer z) texts is = absurd cc
is_table_of (float x) texts is = absurd cc
is_table_of (boolean b) texts is = absurd cc
is_table_of (datetime dt) texts is = absurd cc
is_table_of (array items) texts is = absurd cc

tables : (sites : List (List ℕ)) (said : List (List ℕ × Data)) (relations : List SplitRelation) → Each (IsRelationIn sites) said relations → are_tables said ≡ true
tables sites [] [] each = refl
tables sites [] (r ∷ relations) each = absurd each
tables sites (entry ∷ said) [] each = absurd each
tables sites (entry ∷ said) (r ∷ relations) each = rw (is_table_of entry.1 each.0.texts each.0.there, tables sites said relations each.1) refl

pub no_tables : (root : Data) (sites : List (List ℕ)) (members : Members) → Some (sites, members) ≡ document_parts root → are_tables (entries members) ≡ false → IsOfNone root
no_tables root sites members parts none catalogue is =
    let same = parts_are root sites members parts catalogue is in
    let P : Members → Type 0 = λ ms. are_tables (entries ms) ≡ false in
    let all = tables catalogue.sites (entries is.members) catalogue.relations is.relations in
    let other = subst P (sym same.1) none in cc

-- sites that no catalogue may have
no_sites : (root : Data) (sites : List (List ℕ)) (members : Members) → Some (sites, members) ≡ document_parts root → (AreSites sites → ⊥) → IsOfNone root
no_sites root sites members parts none catalogue is =
    let same = parts_are root sites members parts catalogue is in
    let P : List (List ℕ) → Type 0 = AreSites in
    none (subst P same.0 (record { names = is.site_names; distinct = is.distinct; few = is.few_sites }))

pub refuses_sites : (root : Data) (sites : List (List ℕ)) (members : Members) (told : Option (List ℕ)) (rule : Rule) → Some (sites, members) ≡ document_parts root → RefusesSites sites rule → RefusesRoot root told rule
refuses_sites root sites members told rule parts refused = refuses_also (FaultyRoot root told rule) (AreSites sites → ⊥) (IsOfNone root) rule (no_sites root sites members parts) refused

-- as many relations as entries
pub each_count : {A B : Type 0} (R : A → B → Type 0) (xs : List A) (ys : List B) → Each R xs ys → length xs ≡ length ys
each_count R [] [] each = refl
each_count R [] (y ∷ ys) each = absurd each
each_count R (x ∷ xs) [] each = absurd each
each_count R (x ∷ xs) (y ∷ ys) each = let rest = each_count R xs ys each.1 in omega (arith, rest)

-- no relation, or too many
pub no_relations : (root : Data) (sites : List (List ℕ)) (members : Members) → Some (sites, members) ≡ document_parts root → length (entries members) ≡ 0 → IsOfNone root
no_relations root sites members parts none catalogue is =
    let same = parts_are root sites members parts catalogue is in
    let P : Members → Type 0 = λ ms. length (entries ms) ≡ 0 in
    empty catalogue.relations is.some (each_count (IsRelationIn catalogue.sites) (entries is.members) catalogue.relations is.relations) (subst P (sym same.1) none)
  where
    empty : {n : ℕ} (relations : List SplitRelation) → relations ≢ [] → n ≡ length relations → n ≡ 0 → ⊥
    empty [] some count zero = some refl
    empty (r ∷ relations) some count zero = omega (arith, count, zero)

pub too_many : (root : Data) (sites : List (List ℕ)) (members : Members) → Some (sites, members) ≡ document_parts root → 32 < length (entries members) → IsOfNone root
too_many root sites members parts many catalogue is =
    let same = parts_are root sites members parts catalogue is in
    let P : Members → Type 0 = λ ms. 32 < length (entries ms) in
    let over = subst P (sym same.1) many in
    let count = each_count (IsRelationIn catalogue.sites) (entries is.members) catalogue.relations is.relations in
    omega (arith, over, count, is.few_relations)

-- the relations are refused
relations_of : (root : Data) (sites : List (List ℕ)) (members : Members) → Some (sites, members) ≡ document_parts root → (catalogue : Catalogue) → IsDocumentOf root catalogue → Each (IsRelationIn sites) (entries members) catalogue.relations
relations_of root sites members parts catalogue is =
    let same = parts_are root sites members parts catalogue is in
    let P : List (List ℕ) → Type 0 = λ ss. Each (IsRelationIn ss) (entries is.members) catalogue.relations in
    let Q : Members → Type 0 = λ ms. Each (IsRelationIn sites) (entries ms) catalogue.relations in
    subst Q same.1 (subst P same.0 is.relations)

pub refuses_relations : (root : Data) (sites : List (List ℕ)) (members : Members) (told : Option (List ℕ)) (rule : Rule) → Some (sites, members) ≡ document_parts root → RefusesRelations sites (entries members) told rule → RefusesRoot root told rule
refuses_relations root sites members told rule parts refused =
    refuses_map ((relations : List SplitRelation) → Each (IsRelationIn sites) (entries members) relations → IsFirstFaulty sites told rule relations) (FaultyRoot root told rule)
    (SaysNoRelations sites (entries members)) (IsOfNone root) rule
    (λ first catalogue is.
    let P : List (List ℕ) → Type 0 = λ ss. IsFirstFaulty ss told rule catalogue.relations in
    subst P (sym (parts_are root sites members parts catalogue is).0) (first catalogue.relations (relations_of root sites members parts catalogue is)))
    (λ none catalogue is. none catalogue.relations (relations_of root sites members parts catalogue is))
    refused

-- ---- whether all values are tables

pub not_all : (before more : List (List ℕ × Data)) (entry : List ℕ × Data) → is_some (as_table entry.1) ≡ false → are_tables (before ++ entry ∷ more) ≡ false
not_all [] more entry none = rw none refl
not_all (first ∷ before) more entry none = rw (not_all before more entry none) (either (is_some (as_table first.1)))
  where
    either : (b : Bool) → (b && false) ≡ false
    either true = refl
    either false = refl

both_true : (a b : Bool) → (a && b) ≡ true → (a ≡ true) × (b ≡ true)
both_true true b is = (refl, is)
both_true false b is = absurd cc

pub all_also : (before : List (List ℕ × Data)) (entry : List ℕ × Data) → are_tables before ≡ true → is_some (as_table entry.1) ≡ true → are_tables (before ++ entry ∷ []) ≡ true
all_also [] entry all here = rw here refl
all_also (first ∷ before) entry all here = let both = both_true (is_some (as_table first.1)) (are_tables before) all in rw (both.0, all_also before entry both.1 here) refl

-- what a call found, as data
pub some_of : {T : Type 0} (f : T → Members) (r : Option T) (o : Option Members) (none : Bool) → option_map f r ≡ o → is_some r ≡ not none → is_some o ≡ not none
some_of f None o none gives is = rw (← gives, ← is) refl
some_of f (Some x) o none gives is = rw (← gives, ← is) refl

-- ---- a document that was read

pub entry_count : (es : List (String Global × Value)) → length (entries (members_view es)) ≡ length es
entry_count [] = refl
entry_count (e ∷ es) = let rest = entry_count es in omega (arith, rest)

pub too_many_entries : (root : Data) (sites : List (List ℕ)) (es : List (String Global × Value)) → Some (sites, members_view es) ≡ document_parts root → 32 < length es → IsOfNone root
too_many_entries root sites es parts many = too_many root sites (members_view es) parts (rw (entry_count es) many)

pub no_entries : (root : Data) (sites : List (List ℕ)) (es : List (String Global × Value)) → Some (sites, members_view es) ≡ document_parts root → length es ≡ 0 → IsOfNone root
no_entries root sites es parts none = no_relations root sites (members_view es) parts (rw (entry_count es) none)

pub catalogue_is : (root : Data) (texts sites : List (List ℕ)) (es : List (String Global × Value)) (relations : List SplitRelation) → Some (texts, members_view es) ≡ document_parts root → sites ≡ texts → AreSites texts →
    Each (IsRelationIn sites) (entries (members_view es)) relations → length es ≢ 0 → length es ≤ 32 → IsDocumentOf root (record { sites = sites; relations = relations })
catalogue_is root texts sites es relations parts same are each some few =
    let P : List (List ℕ) → Type 0 = λ ss. Some (ss, members_view es) ≡ document_parts root in
    let Q : List (List ℕ) → Type 0 = AreSites in
    let whole = subst P (sym same) parts in
    let own = subst Q (sym same) are in
    let count = each_count (IsRelationIn sites) (entries (members_view es)) relations each in
    let entries_are = entry_count es in
    record {
      members = members_view es;
      parts = sym whole;
      site_names = own.names;
      distinct = own.distinct;
      few_sites = own.few;
      relations = each;
      some = λ none. let zero : length relations ≡ 0 = ap length none in some (omega (arith, count, entries_are, zero));
      few_relations = omega (arith, count, entries_are, few);
    }

-- ---- one catalogue

-- a document is one of at most one catalogue
one_document : OneListOfCondsOfText → (root : Data) (one other : Catalogue) → IsDocumentOf root one → IsDocumentOf root other → one ≡ other
one_document law root one other is too =
    let same = parts_are root one.sites is.members (sym is.parts) other too in
    let said = relations_of root one.sites is.members (sym is.parts) other too in
    let relations = each_one (IsRelationIn one.sites) (one_relation law one.sites) (entries is.members) one.relations other.relations is.relations said in
    ap₂ (λ (sites : List (List ℕ)) (rs : List SplitRelation). record { sites = sites; relations = rs }) (sym same.0) relations

pub one_catalogue : OneListOfCondsOfText → OneCatalogueOfText
one_catalogue law text one other is too =
    let same : too.document ≡ is.document = some_same too.document is.document (sym too.parses ∙ is.parses) in
    let P : Members → Type 0 = λ ms. IsDocumentOf (table ms) other in
    one_document law (table is.document) one other is.describes (subst P same too.describes)

pub faulty_is_not_valid : FaultyIsNotValid
faulty_is_not_valid catalogue told rule first valid =
    none_first (λ relation. (told ≡ Some relation.schema.name) × IsFirstInexact (record { sites = catalogue.sites; columns = relation.schema.columns }) rule (row_splits [] relation.tree)) IsValidRelation catalogue.relations
    (λ relation found whole. not_valid (record { sites = catalogue.sites; columns = relation.schema.columns }) rule [] (columns_beside_key (kinds_of relation.schema)) relation.tree found.1 whole)
    valid first

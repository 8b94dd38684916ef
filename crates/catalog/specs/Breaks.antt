-- What the refusal of a catalogue says of its text, by its rule.
use Rattle.std.specs.Prelude.{◌≡◌, ◌⊎◌, ◌<◌, ℕ, true, false, List, [], ◌∷◌, ◌++◌, Option, Some, None, codes, length, map, unwrap_or, option_and_then}
use Rattle.std.specs.List.{slice_get}
use Rattle.toml.specs.Data.{Data, table, Members, as_str, get}
use Rattle.toml.specs.Parse.{parse_document}
use Rattle.terms.specs.declared.value.Kind.{Kind}
use Rattle.terms.specs.declared.value.Kind.TheVariants as kinds
use Rattle.meaning.specs.declared.schema.Column.{Column}
use Rattle.reader.specs.Breaks.{SomeOf}
use Rattle.reader.specs.Printable.{AreDistinct}
use Rattle.reader.specs.Tokens.{IsName}
use Rattle.catalog.specs.declared.fault.Rule.{Rule}
use Rattle.catalog.specs.declared.fault.Rule.TheVariants.{Toml, Field, Name, Twice, KeyType, Limit}
use Rattle.catalog.specs.Catalogue.{IsColumnText, IsSiteName, document_parts, entries, kind_word}
use Rattle.catalog.specs.Columns.{HasNoForm, has_column}
use Rattle.catalog.specs.Describes.{Each}
use Rattle.catalog.specs.Document.{are_tables}
use Rattle.catalog.specs.Node.{form_of, some_items, texts_at}
use Rattle.catalog.specs.NodeBreaks.{NodeBreaks}
use Rattle.catalog.specs.Path.{columns_beside_key}

-- a site has no name of a site; two have the same; there are more than 16
abbrev pub SitesBreak : Rule → List (List ℕ) → Type 0
SitesBreak rule texts =
    ((rule ≡ Name) × SomeOf (λ text. IsSiteName text → ⊥) texts)
    ⊎ (((rule ≡ Twice) × (AreDistinct texts → ⊥))
    ⊎ ((rule ≡ Limit) × (16 < length texts)))

-- the text of a column whose name is none
pub record HasNoName (text : List ℕ) : Type 0 where
  pub name : List ℕ
  pub kind : Kind
  pub spelled : text ≡ name ++ 32 ∷ kind_word kind
  pub none : IsName name → ⊥

-- the text of a column behind texts of others, of which one has its name
pub record IsNamedAgain (texts : List (List ℕ)) : Type 0 where
  pub before : List (List ℕ)
  pub text : List ℕ
  pub after : List (List ℕ)
  pub place : texts ≡ before ++ text ∷ after
  pub columns : List Column
  pub said : Each IsColumnText before columns
  pub column : Column
  pub says : IsColumnText text column
  pub again : has_column columns column.name ≡ true

-- the columns of a relation: there are none, or a text is of no column; a name is none; one stands twice; there are more than 16; the key is a text
abbrev pub ColumnsBreak : Rule → List (List ℕ) → Type 0
ColumnsBreak rule texts =
    ((rule ≡ Field) × ((texts ≡ []) ⊎ SomeOf HasNoForm texts))
    ⊎ (((rule ≡ Name) × SomeOf HasNoName texts)
    ⊎ (((rule ≡ Twice) × IsNamedAgain texts)
    ⊎ (((rule ≡ Limit) × (16 < length texts))
    ⊎ ((rule ≡ KeyType) × (columns : List Column) × Each IsColumnText texts columns × (slice_get (map (λ column. column.kind) columns) 0 ≡ Some kinds.Text)))))

-- the texts that are listed before the first item that is none
abbrev pub text_before : Option (List ℕ) → List (List ℕ) → List (List ℕ)
text_before None texts = []
text_before (Some text) texts = text ∷ texts

abbrev pub texts_before : List Data → List (List ℕ)
texts_before [] = []
texts_before (item ∷ items) = text_before (as_str item) (texts_before items)

abbrev pub listed_texts : Data → List (List ℕ)
listed_texts node = texts_before (unwrap_or (option_and_then some_items (get (codes "columns") node)) [])

-- a relation: its name is none; its columns are not all listed as texts; they or the tree break the rule
abbrev pub RelationBreaks : Rule → List (List ℕ) → List ℕ × Data → Type 0
RelationBreaks rule sites entry =
    ((rule ≡ Name) × (IsName entry.0 → ⊥))
    ⊎ (((texts_at (codes "columns") entry.1 ≡ None) × ((rule ≡ Field) ⊎ ColumnsBreak rule (listed_texts entry.1)))
    ⊎ ((texts : List (List ℕ)) × (texts_at (codes "columns") entry.1 ≡ Some texts) × (ColumnsBreak rule texts
    ⊎ ((columns : List Column) × Each IsColumnText texts columns
    × NodeBreaks rule (record { sites = sites; columns = columns }) 4 [] (columns_beside_key (map (λ column. column.kind) columns)) (form_of (codes "columns") entry.1) 0))))

-- a document: it has no list of sites, no relations or other keys, or a relation is no table; its sites break the rule;
-- there are more than 32 relations; one of them breaks the rule
abbrev pub DocumentBreaks : Rule → Data → Type 0
DocumentBreaks rule document =
    ((rule ≡ Field) × (document_parts document ≡ None))
    ⊎ ((sites : List (List ℕ)) × (members : Members) × (document_parts document ≡ Some (sites, members)) × (((rule ≡ Field) × ((entries members ≡ []) ⊎ (are_tables (entries members) ≡ false)))
    ⊎ (SitesBreak rule sites
    ⊎ (((rule ≡ Limit) × (32 < length (entries members)))
    ⊎ SomeOf (RelationBreaks rule sites) (entries members)))))

-- a text: it is too long, no TOML, or of a document that breaks the rule
abbrev pub CatalogueTextBreaks : Rule → List ℕ → Type 0
CatalogueTextBreaks rule text =
    ((rule ≡ Limit) × (65536 < length text))
    ⊎ (((rule ≡ Toml) × (parse_document text ≡ None))
    ⊎ ((document : Members) × (parse_document text ≡ Some document) × DocumentBreaks rule (table document)))

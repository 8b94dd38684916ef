-- What is read of a document.
use Rattle.std.specs.Prelude.{◌≡◌, ◌≢◌, ◌≤◌, ℕ, Bool, true, List, Option, Some, None, is_some, length, Contains}
use Rattle.std.specs.List.{list_all}
use Rattle.toml.specs.Data.{Data, table, Members, as_table}
use Rattle.toml.specs.Parse.{parse_document}
use Rattle.toml.specs.View.{table_view}
use Rattle.catalog.specs.declared.catalogue.Parts as code
use Rattle.catalog.specs.declared.fault.Rule.{Rule}
use Rattle.catalog.specs.Catalogue.{SplitRelation, Catalogue, IsRelationIn, IsDocumentOf, IsCatalogueText, document_parts, entries}
use Rattle.catalog.specs.Describes.{Each}
use Rattle.catalog.specs.Form.{texts_of}
use Rattle.catalog.specs.Inexact.{IsFirstFaulty}
use Rattle.catalog.specs.Refusal.{RefusesBy}
use Rattle.catalog.specs.Relation.{RefusesRelation}
use Rattle.catalog.specs.Sites.{AreSites}

-- the texts of the sites, and the table of the relations
abbrev pub parts_of : code.Parts → List (List ℕ) × Members
parts_of parts = (texts_of parts.sites, table_view parts.relations.now)

-- a refusal of a text by the rule: but for want of memory, it is no document
abbrev pub RefusesDocument : List ℕ → Rule → Type 0
RefusesDocument text rule = RefusesBy ⊥ (parse_document text ≡ None) rule

-- no relations are said
abbrev pub SaysNoRelations : List (List ℕ) → List (List ℕ × Data) → Type 0
SaysNoRelations sites said = (relations : List SplitRelation) → Each (IsRelationIn sites) said relations → ⊥

-- a refusal of relations by the rule, with the name of one
abbrev pub RefusesRelations : List (List ℕ) → List (List ℕ × Data) → Option (List ℕ) → Rule → Type 0
RefusesRelations sites said told rule =
    RefusesBy ((relations : List SplitRelation) → Each (IsRelationIn sites) said relations → IsFirstFaulty sites told rule relations) (SaysNoRelations sites said) rule

-- whether all of these are tables
abbrev pub are_tables : List (List ℕ × Data) → Bool
are_tables said = list_all (λ entry. is_some (as_table entry.1)) said

-- the relation is told in which the fault is: one of those said, of which this is a refusal
abbrev pub IsToldOf : List (List ℕ) → List (List ℕ × Data) → Option (List ℕ) → Rule → Type 0
IsToldOf sites said None rule = ⊥
IsToldOf sites said (Some name) rule = (entry : List ℕ × Data) × Contains said entry × (name ≡ entry.0) × RefusesRelation sites entry rule

-- but for want of memory
abbrev pub TellsRelation : List (List ℕ) → List (List ℕ × Data) → Option (List ℕ) → Rule → Type 0
TellsRelation sites said told rule = RefusesBy (IsToldOf sites said told rule) (IsToldOf sites said told rule) rule

-- what stands before the relations of a document: sites that a catalogue may have, and from one to 32 tables
pub record HasHead (document : Data) (sites : List (List ℕ)) (members : Members) : Type 0 where
  pub parts : document_parts document ≡ Some (sites, members)
  pub tables : are_tables (entries members) ≡ true
  pub fit : AreSites sites
  pub some : length (entries members) ≢ 0
  pub few : length (entries members) ≤ 32

-- a fault inside a relation is told with its name, and one before the relations without: but for want of memory, which tells nothing
abbrev pub TellsRoot : Data → Option (List ℕ) → Rule → Type 0
TellsRoot document None rule = RefusesBy ⊥ ((sites : List (List ℕ)) (members : Members) → HasHead document sites members → ⊥) rule
TellsRoot document (Some name) rule =
    RefusesBy ((sites : List (List ℕ)) × (members : Members) × HasHead document sites members × IsToldOf sites (entries members) (Some name) rule)
    ((sites : List (List ℕ)) × (members : Members) × HasHead document sites members × IsToldOf sites (entries members) (Some name) rule) rule

-- a document is none of a catalogue
abbrev pub IsOfNone : Data → Type 0
IsOfNone document = (catalogue : Catalogue) → IsDocumentOf document catalogue → ⊥

-- a refusal of a document by the rule, with the name of a relation if it is in one
abbrev pub RefusesRoot : Data → Option (List ℕ) → Rule → Type 0
RefusesRoot document told rule =
    RefusesBy ((catalogue : Catalogue) → IsDocumentOf document catalogue → IsFirstFaulty catalogue.sites told rule catalogue.relations) (IsOfNone document) rule

-- A refusal of a text by the rule, with the name of a relation if it is in one. A gap or an overlap is that of the first row split
-- that is not exact, in each catalogue of which the text is one; by any other rule but for want of memory it is one of none.
abbrev pub RefusesText : List ℕ → Option (List ℕ) → Rule → Type 0
RefusesText text told rule =
    RefusesBy ((catalogue : Catalogue) → IsCatalogueText text catalogue → IsFirstFaulty catalogue.sites told rule catalogue.relations)
    ((catalogue : Catalogue) → IsCatalogueText text catalogue → ⊥) rule

-- Where a text's fault is: in the relation that is told, and then its document has sites as they may be, and one to 32 tables; where
-- none is told, it is no such document.
abbrev pub TellsText : List ℕ → Option (List ℕ) → Rule → Type 0
TellsText text None rule =
    RefusesBy ⊥ ((document : Members) (sites : List (List ℕ)) (members : Members) → length text ≤ 65536 → parse_document text ≡ Some document → HasHead (table document) sites members → ⊥) rule
TellsText text (Some name) rule =
    RefusesBy ((document : Members) × (parse_document text ≡ Some document) × TellsRoot (table document) (Some name) rule)
    ((document : Members) × (parse_document text ≡ Some document) × TellsRoot (table document) (Some name) rule) rule

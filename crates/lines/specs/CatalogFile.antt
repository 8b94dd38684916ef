-- Which bytes are those of a catalogue, and how others are refused.
use Rattle.std.specs.Prelude.{◌≡◌, ◌≤◌, ◌<◌, ◌⊎◌, ℕ, Bool, true, false, if◌then◌else◌, List, Option, length}
use Rattle.std.specs.Borrow.{Bor}
use Rattle.std.specs.Str.{IsUtf8}
use Rattle.catalog.specs.Fault.{Fault}
use Rattle.catalog.specs.declared.fault.Rule.{Rule}
use Rattle.catalog.specs.declared.fault.Rule.TheVariants as rules
use Rattle.catalog.specs.Catalogue.{Catalogue, IsCatalogueText, IsValidCatalogue}
use Rattle.catalog.specs.Breaks.{CatalogueTextBreaks}
use Rattle.catalog.specs.Inexact.{IsFirstFaulty}
use Rattle.catalog.specs.Refusal.{RefusesBy}
use Rattle.catalog.specs.Refuses.{is_of_text}
use Rattle.lines.specs.declared.catalog_file.CatalogFault.{CatalogFault}
use Rattle.lines.specs.declared.catalog_file.CatalogFault.TheVariants.{Program, Refused}
use Rattle.lines.specs.declared.fault.ProgramFault.TheVariants.{Memory}
use Rattle.lines.specs.Input.{IsOfInput}

-- how many bytes a catalogue may have
abbrev pub longest_catalogue : ℕ
longest_catalogue = 65_536

-- bytes that are a text of this catalogue
pub record IsCatalogueFile (bytes : List ℕ) (catalogue : Catalogue) : Type 0 where
  pub utf8 : IsUtf8 bytes
  pub text : IsCatalogueText bytes catalogue

-- bytes of no catalogue, and of none that is valid
abbrev pub IsFileOfNone : List ℕ → Type 0
IsFileOfNone bytes = (catalogue : Catalogue) → IsCatalogueFile bytes catalogue → ⊥

abbrev pub IsFileOfNoneValid : List ℕ → Type 0
IsFileOfNoneValid bytes = (catalogue : Catalogue) → IsCatalogueFile bytes catalogue → IsValidCatalogue catalogue → ⊥

-- in each catalogue of these bytes the rule names the first faulty cell of the first row split that is not exact, and its relation is told
abbrev pub IsFaultyFile : List ℕ → Option (List ℕ) → Rule → Type 0
IsFaultyFile bytes told rule = (catalogue : Catalogue) → IsCatalogueFile bytes catalogue → IsFirstFaulty catalogue.sites told rule catalogue.relations

-- a text that is these bytes, which are few enough
pub record IsTextOf (bytes text : List ℕ) : Type 0 where
  pub short : length bytes ≤ longest_catalogue
  pub utf8 : IsUtf8 bytes
  pub same : text ≡ bytes

-- too many bytes, or else bytes that are no text
abbrev pub IsNoText : List ℕ → Rule → Type 0
IsNoText bytes rule =
    ((longest_catalogue < length bytes) × (rule ≡ rules.Limit)) ⊎ ((length bytes ≤ longest_catalogue) × ¬ (IsUtf8 bytes) × (rule ≡ rules.Toml))

-- whether a rule is want of memory, which says nothing of a text
abbrev pub is_memory : Rule → Bool
is_memory rules.Memory = true
is_memory _ = false

-- A refusal of bytes by the rule, with the name of a relation if it is in one. Too many bytes are refused as that, whatever they are.
-- A text breaks the rule.
pub record RefusesFile (bytes : List ℕ) (told : Option (List ℕ)) (rule : Rule) : Type 0 where
  pub none : RefusesBy (IsFaultyFile bytes told rule) (IsFileOfNone bytes) rule
  pub sure : is_memory rule ≡ false
  pub long : longest_catalogue < length bytes → rule ≡ rules.Limit
  pub no_text : length bytes ≤ longest_catalogue → ¬ (IsUtf8 bytes) → rule ≡ rules.Toml
  pub breaks : is_of_text rule ≡ true → IsUtf8 bytes → CatalogueTextBreaks rule bytes

-- why this file, of these bytes, gives no catalogue
abbrev pub IsFaultOf : Bor (List ℕ) → List ℕ → CatalogFault → Type 0
IsFaultOf file bytes (Program fault) = IsOfInput file fault
IsFaultOf file bytes (Refused fault) = RefusesFile bytes fault.relation fault.rule

-- what stops the program where a text was refused
abbrev pub fault_of_refusal : Fault → CatalogFault
fault_of_refusal fault = if is_memory fault.rule then Program Memory else Refused fault

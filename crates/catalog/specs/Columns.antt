-- The texts of a relation's columns.
use Rattle.std.specs.Prelude.{◌≡◌, ◌≤◌, ◌<◌, ℕ, ◌==◌, Bool, true, false, List, [], ◌∷◌, ◌++◌, Some, length, map, nat_eq}
use Rattle.std.specs.List.{AllByRecursion, list_any, slice_get}
use Rattle.std.specs.Cmp.Lexicographic.{pointwise}
use Rattle.terms.specs.declared.value.Kind.TheVariants as kinds
use Rattle.meaning.specs.declared.schema.Column.{Column}
use Rattle.reader.specs.Printable.{AreDistinct}
use Rattle.catalog.specs.Catalogue.{IsColumnText, kind_word}
use Rattle.reader.specs.Tokens.{IsName}
use Rattle.terms.specs.declared.value.Kind.{Kind}
use Rattle.catalog.specs.Describes.{Each}
use Rattle.catalog.specs.declared.fault.Rule.{Rule}
use Rattle.catalog.specs.Refusal.{RefusesBy}
use Rattle.catalog.specs.declared.fault.Rule.TheVariants.{Field, Name, Twice, KeyType, Gap, Overlap, Limit, Memory}

-- the columns of a relation that texts say: each name once, at most 16, and an integer as the key
pub record AreColumns (texts : List (List ℕ)) (columns : List Column) : Type 0 where
  pub each : Each IsColumnText texts columns
  pub distinct : AreDistinct (map (λ column. column.name) columns)
  pub few : length columns ≤ 16
  pub key : slice_get (map (λ column. column.kind) columns) 0 ≡ Some kinds.Int

-- a refusal of the texts by the rule: but for want of memory, they say no columns of a relation
abbrev pub RefusesColumns : List (List ℕ) → Rule → Type 0
RefusesColumns texts rule = RefusesBy ⊥ ((columns : List Column) → AreColumns texts columns → ⊥) rule

-- whether a column of this name stands among these
abbrev pub has_column : List Column → List ℕ → Bool
has_column columns name = list_any (λ column. pointwise nat_eq column.name name) columns

-- a text says a column whose name is none of those before it
pub record IsNextColumn (before : List Column) (text : List ℕ) (column : Column) : Type 0 where
  pub says : IsColumnText text column
  pub new : has_column before column.name ≡ false

-- a refusal of a text behind other columns by the rule
abbrev pub RefusesColumn : List Column → List ℕ → Rule → Type 0
RefusesColumn before text rule = RefusesBy ⊥ ((column : Column) → IsNextColumn before text column → ⊥) rule

-- columns that can be those of a relation, as to how many there are and what the key is
pub record FitRelation (columns : List Column) : Type 0 where
  pub few : length columns ≤ 16
  pub key : slice_get (map (λ column. column.kind) columns) 0 ≡ Some kinds.Int

-- a refusal of columns as those of a relation by the rule
abbrev pub RefusesFit : List Column → Rule → Type 0
RefusesFit columns Memory = ⊥
RefusesFit columns (Gap cell) = ⊥
RefusesFit columns (Overlap cell) = ⊥
RefusesFit columns _ = FitRelation columns → ⊥

-- what is wrong with columns as those of a relation, by the rule
abbrev pub IsFitFault : List Column → Rule → Type 0
IsFitFault columns Limit = 16 < length columns
IsFitFault columns KeyType = slice_get (map (λ column. column.kind) columns) 0 ≡ Some kinds.Text
IsFitFault columns Field = columns ≡ []
IsFitFault columns _ = ⊥

-- no byte is a blank
abbrev pub HasNoBlank : List ℕ → Type 0
HasNoBlank bytes = AllByRecursion (λ byte. (byte == 32) ≡ false) bytes

-- a text that is no name and a type's word with a blank between
abbrev pub HasNoForm : List ℕ → Type 0
HasNoForm text = (name : List ℕ) (kind : Kind) → HasNoBlank name → text ≡ name ++ 32 ∷ kind_word kind → ⊥

-- what is wrong with the text of a column behind others, by the rule
abbrev pub IsColumnFault : List Column → List ℕ → Rule → Type 0
IsColumnFault before text Field = HasNoForm text
IsColumnFault before text Name = (name : List ℕ) × (kind : Kind) × (text ≡ name ++ 32 ∷ kind_word kind) × (IsName name → ⊥)
IsColumnFault before text Twice = (column : Column) × IsColumnText text column × (has_column before column.name ≡ true)
IsColumnFault before text Memory = Unit {0}
IsColumnFault before text _ = ⊥

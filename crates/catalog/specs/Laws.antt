-- The laws of fragmentation after Özsu and Valduriez, Principles of Distributed Database Systems, distributed design.
use Rattle.std.specs.Prelude.{◌≡◌, ◌≢◌, ◌<◌, ℕ, ℤ, ◌&&◌, true, List, ◌∷◌, Option, Some, length, option_and_then}
use Rattle.std.specs.List.{AllByRecursion, list_any}
use Rattle.terms.specs.declared.cond.Cond.{Cond}
use Rattle.terms.specs.declared.value.Kind.{Kind}
use Rattle.terms.specs.declared.value.Value.{Value}
use Rattle.terms.specs.Cond.{conds_hold}
use Rattle.terms.specs.Row.{FitsKinds}
use Rattle.meaning.specs.Relation.{Ascends, IsRelation}
use Rattle.catalog.specs.Counts.{how_many, has}
use Rattle.catalog.specs.Catalogue.{Catalogue, IsCatalogueText, IsValidCatalogue}
use Rattle.catalog.specs.Inexact.{IsFirstFaulty}
use Rattle.catalog.specs.declared.fault.Rule.{Rule}
use Rattle.catalog.specs.Formed.{IsFormed}
use Rattle.catalog.specs.Fragment.{part, content, Rebuilds}
use Rattle.catalog.specs.FragmentLeaf.{catalogue_leaves, leaf_named}
use Rattle.catalog.specs.Keyed.{row_at}
use Rattle.catalog.specs.Split.{Tree}
use Rattle.catalog.specs.Path.{fragments}
use Rattle.catalog.specs.Valid.{IsValid}

-- for every row that fits and every column outside the key exactly one leaf whose conditions hold has the column
abbrev pub ExactlyOneLeaf : Type 0
ExactlyOneLeaf = (kinds : List Kind) (tree : Tree) (row : List Value) (col : ℕ) → IsValid kinds tree → FitsKinds kinds row → col ≢ 0 → col < length kinds →
    how_many (λ leaf. conds_hold leaf.conds row && has leaf.columns col) (fragments kinds tree) ≡ 1

-- of every row that fits the conditions of some leaf hold
abbrev pub SomeLeaf : Type 0
SomeLeaf = (kinds : List Kind) (tree : Tree) (row : List Value) → IsValid kinds tree → FitsKinds kinds row →
    list_any (λ leaf. conds_hold leaf.conds row) (fragments kinds tree) ≡ true

-- at most one relation is rebuilt from the contents of the leaves
abbrev pub OneRebuilt : Type 0
OneRebuilt = (kinds : List Kind) (tree : Tree) (contents : List (List (List Value))) (one other : List (List Value)) → IsValid kinds tree → IsRelation kinds one → IsRelation kinds other →
    Rebuilds (fragments kinds tree) contents one → Rebuilds (fragments kinds tree) contents other → one ≡ other

-- each leaf of a catalogue is the one that its name finds
abbrev pub LeafNamesAreUnique : Type 0
LeafNamesAreUnique = (catalogue : Catalogue) → IsFormed catalogue → AllByRecursion (λ leaf. leaf_named leaf.name (catalogue_leaves catalogue) ≡ Some leaf) (catalogue_leaves catalogue)

-- what a leaf's content has at a key is the part of the row that the relation has there
abbrev pub ContentAt : Type 0
ContentAt = (conds : List Cond) (columns : List ℕ) (key : ℤ) (rows : List (List Value)) → Ascends rows →
    row_at key (content (record { conds = conds; columns = 0 ∷ columns }) rows) ≡ option_and_then (part (record { conds = conds; columns = 0 ∷ columns })) (row_at key rows)

-- rows with ascending keys that have the same at each key are the same
abbrev pub SameListing : Type 0
SameListing = (one other : List (List Value)) → Ascends one → Ascends other → ((key : ℤ) → row_at key one ≡ row_at key other) → one ≡ other

-- a text is one of at most one catalogue
abbrev pub OneCatalogueOfText : Type 0
OneCatalogueOfText = (text : List ℕ) (one other : Catalogue) → IsCatalogueText text one → IsCatalogueText text other → one ≡ other

-- where a gap or an overlap is the first in a catalogue, the catalogue is not valid
abbrev pub FaultyIsNotValid : Type 0
FaultyIsNotValid = (catalogue : Catalogue) (told : Option (List ℕ)) (rule : Rule) → IsFirstFaulty catalogue.sites told rule catalogue.relations → IsValidCatalogue catalogue → ⊥

-- What the contents of the leaves of a catalogue are like.
use Rattle.std.specs.Prelude.{◌≡◌, ℕ, List, length}
use Rattle.std.specs.List.{AllByRecursion}
use Rattle.terms.specs.declared.value.Kind.{Kind}
use Rattle.terms.specs.declared.value.Value.{Value}
use Rattle.terms.specs.Row.{FitsKinds}
use Rattle.meaning.specs.Listed.{listed}
use Rattle.meaning.specs.Relation.{Ascends}
use Rattle.meaning.specs.Whole.{FitsSchema, Relations, rows_of}
use Rattle.catalog.specs.Catalogue.{Catalogue}
use Rattle.catalog.specs.Formed.{IsFormed}
use Rattle.catalog.specs.Fragment.{content}
use Rattle.catalog.specs.FragmentLeaf.{catalogue_leaves, schemas_of, unnamed}
use Rattle.plan.specs.Stated.{kinds_in}

-- parts with a value for each of these columns of a relation, of the column's type, in strictly ascending order of their keys
pub record AreParts (kinds : List Kind) (columns : List ℕ) (parts : List (List Value)) : Type 0 where
  pub long : AllByRecursion (λ part. length part ≡ length columns) parts
  pub fit : AllByRecursion (FitsKinds (listed columns kinds)) parts
  pub ascends : Ascends parts

-- so is the content of each leaf, of every whole database that fits
abbrev pub ContentsAscend : Type 0
ContentsAscend = (catalogue : Catalogue) (whole : Relations) → IsFormed catalogue → FitsSchema (schemas_of catalogue) whole →
    AllByRecursion (λ leaf. AreParts (kinds_in catalogue leaf.name.relation) leaf.columns (content (unnamed leaf) (rows_of whole leaf.name.relation))) (catalogue_leaves catalogue)

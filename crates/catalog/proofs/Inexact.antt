-- The first row split that is not exact.
use Rattle.std.proofs.Common.{inl, inr, ℕ, List, [], ◌∷◌, ◌++◌}
use Rattle.std.specs.List.{AllByRecursion}
use Rattle.terms.specs.declared.cond.Cond.{Cond}
use Rattle.terms.specs.declared.value.Kind.{Kind}
use Rattle.catalog.specs.declared.fault.Rule.{Rule}
use Rattle.catalog.specs.declared.fault.Rule.TheVariants.{Toml, Field, Name, Twice, NoSite, KeyType, ColumnTwice, ColumnLost, ColumnAbsent, WrongType, Gap, Overlap, Limit, Memory}
use Rattle.catalog.specs.Describes.{Frame, kinds_in}
use Rattle.catalog.specs.Inexact.{RowSplit, row_splits, splits_of_branches, splits_of_groups, IsFirst, IsExactSplit, IsFirstInexact, ShowsCell}
use Rattle.catalog.specs.Split.{Tree, Site, ByRows, ByCols, Branches, NoBranch, Branch, Groups, NoGroup, Group}
use Rattle.catalog.specs.Valid.{IsValidWithin, AreValidBranches, AreValidGroups}
use Rattle.catalog.proofs.FormedTrees.{all_both}

-- the first among others
pub first_before : {A : Type 0} (found passes : A → Type 0) (xs ys : List A) → IsFirst found passes xs → IsFirst found passes (xs ++ ys)
first_before found passes [] ys first = absurd first
first_before found passes (x ∷ xs) ys first =
    elim first as (λ _. IsFirst found passes ((x ∷ xs) ++ ys)) [
      | inl here ↦ inl here
      | inr later ↦ inr (later.0, first_before found passes xs ys later.1)
    ]

pub first_behind : {A : Type 0} (found passes : A → Type 0) (xs ys : List A) → AllByRecursion passes xs → IsFirst found passes ys → IsFirst found passes (xs ++ ys)
first_behind found passes [] ys all first = first
first_behind found passes (x ∷ xs) ys all first = inr (all.0, first_behind found passes xs ys all.1 first)

-- where all pass, none is found
pub none_first : {A : Type 0} (found passes : A → Type 0) (xs : List A) → ((x : A) → found x → passes x → ⊥) → AllByRecursion passes xs → IsFirst found passes xs → ⊥
none_first found passes [] never all first = first
none_first found passes (x ∷ xs) never all first =
    elim first as (λ _. ⊥) [
      | inl here ↦ never x here all.0
      | inr later ↦ none_first found passes xs never all.1 later.1
    ]

-- the row splits of a valid tree are exact
mutual
  pub all_exact : (kinds : List Kind) (way : List Cond) (columns : List ℕ) (tree : Tree) → IsValidWithin kinds way columns tree → AllByRecursion (IsExactSplit kinds) (row_splits way tree)
  all_exact kinds way columns (Site site) valid = tt
  all_exact kinds way columns (ByRows branches) valid = (valid.0, branches_exact kinds way columns branches valid.1)
  all_exact kinds way columns (ByCols groups) valid = groups_exact kinds way groups valid.1

  branches_exact : (kinds : List Kind) (way : List Cond) (columns : List ℕ) (branches : Branches) → AreValidBranches kinds way columns branches → AllByRecursion (IsExactSplit kinds) (splits_of_branches way branches)
  branches_exact kinds way columns NoBranch valid = tt
  branches_exact kinds way columns (Branch conds tree rest) valid =
      all_both (IsExactSplit kinds) (row_splits (way ++ conds) tree) (splits_of_branches way rest) (all_exact kinds (way ++ conds) columns tree valid.0) (branches_exact kinds way columns rest valid.1)

  groups_exact : (kinds : List Kind) (way : List Cond) (groups : Groups) → AreValidGroups kinds way groups → AllByRecursion (IsExactSplit kinds) (splits_of_groups way groups)
  groups_exact kinds way NoGroup valid = tt
  groups_exact kinds way (Group columns tree rest) valid =
      all_both (IsExactSplit kinds) (row_splits way tree) (splits_of_groups way rest) (all_exact kinds way columns tree valid.0) (groups_exact kinds way rest valid.1)

-- a cell shows that a row split is not exact
cell_shows : (frame : Frame) (rule : Rule) (split : RowSplit) → ShowsCell frame rule split → IsExactSplit (kinds_in frame) split → ⊥
cell_shows frame (Gap cell) split shown exact = shown.0.fault.not_one (exact cell.row shown.0.fault.fits shown.0.fault.holds)
cell_shows frame (Overlap cell) split shown exact = shown.0.fault.not_one (exact cell.row shown.0.fault.fits shown.0.fault.holds)
cell_shows frame Memory split shown exact = shown
cell_shows frame Toml split shown exact = shown
cell_shows frame Field split shown exact = shown
cell_shows frame Name split shown exact = shown
cell_shows frame Twice split shown exact = shown
cell_shows frame NoSite split shown exact = shown
cell_shows frame KeyType split shown exact = shown
cell_shows frame ColumnTwice split shown exact = shown
cell_shows frame ColumnLost split shown exact = shown
cell_shows frame ColumnAbsent split shown exact = shown
cell_shows frame WrongType split shown exact = shown
cell_shows frame Limit split shown exact = shown

-- so the tree is not valid
pub not_valid : (frame : Frame) (rule : Rule) (way : List Cond) (columns : List ℕ) (tree : Tree) → IsFirstInexact frame rule (row_splits way tree) → IsValidWithin (kinds_in frame) way columns tree → ⊥
not_valid frame rule way columns tree first valid =
    none_first (ShowsCell frame rule) (IsExactSplit (kinds_in frame)) (row_splits way tree) (cell_shows frame rule) (all_exact (kinds_in frame) way columns tree valid) first

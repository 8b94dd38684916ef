-- The paths to the leaves of a fragment tree, and what is read from a path: a leaf's conditions, columns and site, and whether it is wanted.
use Rattle.std.specs.Prelude.{ℕ, suc, Bool, true, not, ◌||◌, List, [], ◌∷◌, ◌++◌, map, flat_map, take, drop, slice_index_or}
use Rattle.std.specs.List.{list_any, list_all}
use Rattle.terms.specs.declared.cond.Cond.{Cond}
use Rattle.terms.specs.declared.value.Kind.{Kind}
use Rattle.catalog.specs.declared.path.Path.{Path}
use Rattle.catalog.specs.declared.path.Step.{Step}
use Rattle.catalog.specs.declared.path.Step.TheVariants.{Row, Col}
use Rattle.catalog.specs.Counts.{has}
use Rattle.catalog.specs.Fragment.{Fragment}
use Rattle.catalog.specs.Split.{Tree, Site, ByRows, ByCols, Branches, NoBranch, Branch, Groups, NoGroup, Group}

-- the conditions of the branches of a row split
abbrev pub branch_conds : Branches → List (List Cond)
branch_conds NoBranch = []
branch_conds (Branch conds tree rest) = conds ∷ branch_conds rest

-- the columns of the groups of a column split
abbrev pub group_columns : Groups → List (List ℕ)
group_columns NoGroup = []
group_columns (Group columns tree rest) = columns ∷ group_columns rest

-- a path with one step more, which is its first
abbrev pub through : Step → Path → Path
through step path = record { steps = step ∷ path.steps; site = path.site }

-- the paths to the leaves of a tree, in the order in which a document has the leaves: the steps from the root, and the leaf's site
abbrev mutual
  pub paths : Tree → List Path
  paths (Site site) = record { steps = []; site = site } ∷ []
  paths (ByRows branches) = paths_by_rows branches
  paths (ByCols groups) = paths_by_cols [] groups

  pub paths_by_rows : Branches → List Path
  paths_by_rows NoBranch = []
  paths_by_rows (Branch conds tree rest) = map (through (Row conds)) (paths tree) ++ paths_by_rows rest

  -- the groups before these go along
  pub paths_by_cols : List (List ℕ) → Groups → List Path
  paths_by_cols before NoGroup = []
  paths_by_cols before (Group columns tree rest) = map (through (Col columns before (group_columns rest))) (paths tree) ++ paths_by_cols (before ++ columns ∷ []) rest

-- a path on from a place in a tree, to which these steps lead
abbrev pub behind : List Step → Path → Path
behind above path = record { steps = above ++ path.steps; site = path.site }

-- the step into the group at a place among groups of these columns
abbrev pub column_step : ℕ → List (List ℕ) → Step
column_step place groups = Col (slice_index_or groups place []) (take place groups) (drop (suc place) groups)

-- the conditions of a step
abbrev pub step_conds : Step → List Cond
step_conds (Row conds) = conds
step_conds (Col group before after) = []

-- the conditions on a path, the root's first
abbrev pub path_conds : List Step → List Cond
path_conds steps = flat_map step_conds steps

-- the columns beside the key that a path leaves: those of its innermost group, and without one all
abbrev pub path_columns : List ℕ → List Step → List ℕ
path_columns columns [] = columns
path_columns columns (Row conds ∷ steps) = path_columns columns steps
path_columns columns (Col group before after ∷ steps) = path_columns group steps

-- whether a group has a needed column; the key is in no group
abbrev pub touches : List ℕ → List ℕ → Bool
touches needed group = list_any (has needed) group

abbrev pub some_touches : List ℕ → List (List ℕ) → Bool
some_touches needed groups = list_any (touches needed) groups

-- whether a step is wanted for the needed columns: one into a group that has some of them or, where no group of the split has any, into the first
abbrev pub is_wanted : List ℕ → Step → Bool
is_wanted needed (Row conds) = true
is_wanted needed (Col group [] after) = touches needed group || not (some_touches needed after)
is_wanted needed (Col group (first ∷ before) after) = touches needed group

-- whether a path is wanted for the needed columns: each of its steps is
abbrev pub wanted : List ℕ → List Step → Bool
wanted needed steps = list_all (is_wanted needed) steps

-- the places of columns of these types, from a first place on
abbrev pub places_from : ℕ → List Kind → List ℕ
places_from place [] = []
places_from place (kind ∷ kinds) = place ∷ places_from (suc place) kinds

-- the columns of a relation beside its key, which is the first
abbrev pub columns_beside_key : List Kind → List ℕ
columns_beside_key [] = []
columns_beside_key (key ∷ kinds) = places_from 1 kinds

-- the leaf at the end of a path, the key before its other columns
abbrev pub leaf_at : List ℕ → Path → Fragment
leaf_at columns path = record { conds = path_conds path.steps; columns = 0 ∷ path_columns columns path.steps }

-- the leaves of a tree over columns of these types, in the order of the document
abbrev pub fragments : List Kind → Tree → List Fragment
fragments kinds tree = map (leaf_at (columns_beside_key kinds)) (paths tree)

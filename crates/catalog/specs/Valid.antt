-- Valid splits after Özsu and Valduriez, Principles of Distributed Database Systems, distributed design:
-- fragments are complete and disjoint, the key aside, and rebuild their relation.
use Rattle.std.specs.Prelude.{◌≡◌, ◌≢◌, ℕ, if◌then◌else◌, true, List, [], ◌++◌}
use Rattle.terms.specs.declared.cond.Cond.{Cond}
use Rattle.terms.specs.declared.value.Kind.{Kind}
use Rattle.terms.specs.declared.value.Value.{Value}
use Rattle.terms.specs.Cond.{conds_hold}
use Rattle.terms.specs.Row.{FitsKinds}
use Rattle.catalog.specs.Counts.{how_many, has}
use Rattle.catalog.specs.Split.{Tree, Site, ByRows, ByCols, Branches, NoBranch, Branch, Groups, NoGroup, Group}
use Rattle.catalog.specs.Path.{branch_conds, group_columns, columns_beside_key}

-- every row that fits and meets the conditions on the way meets the conditions of exactly one branch
abbrev pub AreExact : List Kind → List Cond → List (List Cond) → Type 0
AreExact kinds way branches = (row : List Value) → FitsKinds kinds row → conds_hold way row ≡ true → how_many (λ conds. conds_hold conds row) branches ≡ 1

-- there is a group, each of the columns is in exactly one, and no other column is in any; the key is in none, as it is not among the columns
pub record AreParts (columns : List ℕ) (groups : List (List ℕ)) : Type 0 where
  pub some : groups ≢ []
  pub each_once : (col : ℕ) → how_many (λ group. has group col) groups ≡ (if has columns col then 1 else 0)

-- a tree is valid below these conditions and within these columns, which leave out the key
abbrev mutual
  pub IsValidWithin : List Kind → List Cond → List ℕ → Tree → Type 0
  IsValidWithin kinds way columns (Site site) = Unit {0}
  IsValidWithin kinds way columns (ByRows branches) = AreExact kinds way (branch_conds branches) × AreValidBranches kinds way columns branches
  IsValidWithin kinds way columns (ByCols groups) = AreParts columns (group_columns groups) × AreValidGroups kinds way groups

  pub AreValidBranches : List Kind → List Cond → List ℕ → Branches → Type 0
  AreValidBranches kinds way columns NoBranch = Unit {0}
  AreValidBranches kinds way columns (Branch conds tree rest) = IsValidWithin kinds (way ++ conds) columns tree × AreValidBranches kinds way columns rest

  pub AreValidGroups : List Kind → List Cond → Groups → Type 0
  AreValidGroups kinds way NoGroup = Unit {0}
  AreValidGroups kinds way (Group columns tree rest) = IsValidWithin kinds way columns tree × AreValidGroups kinds way rest

-- a fragment tree of a relation over columns of these types is valid
abbrev pub IsValid : List Kind → Tree → Type 0
IsValid kinds tree = IsValidWithin kinds [] (columns_beside_key kinds) tree

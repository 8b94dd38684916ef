-- Which fragment tree a document describes for a relation.
use Rattle.std.specs.Prelude.{◌≡◌, ◌≤◌, ℕ, zero, suc, ◌==◌, ◌||◌, Bool, if◌then◌else◌, List, [], ◌∷◌, ◌++◌, Option, Some, None, map, filter, option_and_then, codes, nat_eq}
use Rattle.std.specs.Cmp.Lexicographic.{pointwise}
use Rattle.std.specs.List.{position_from}
use Rattle.toml.specs.Data.{Data}
use Rattle.terms.specs.declared.cond.Cond.{Cond}
use Rattle.terms.specs.declared.value.Kind.{Kind}
use Rattle.terms.specs.declared.value.Value.{Value}
use Rattle.meaning.specs.declared.schema.Column.{Column}
use Rattle.reader.specs.Conds.{AreCondsOf}
use Rattle.reader.specs.Names.{all_of}
use Rattle.catalog.specs.Cells.{AreSplitColumns, cell_count}
use Rattle.catalog.specs.Counts.{has}
use Rattle.catalog.specs.Node.{AtSite, SplitByRows, SplitByCols, form_of, text_at, texts_at}
use Rattle.catalog.specs.Parts.{named, AreApart}
use Rattle.catalog.specs.Path.{branch_conds, group_columns}
use Rattle.catalog.specs.Split.{Tree, Site, ByRows, ByCols, Branches, NoBranch, Branch, Groups, NoGroup, Group}
use Rattle.catalog.specs.Valid.{AreParts}

-- what the nodes of a relation speak of: the catalogue's sites, and the relation's columns
pub record Frame : Type 0 where
  pub sites : List (List ℕ)
  pub columns : List Column

abbrev pub kinds_in : Frame → List Kind
kinds_in frame = map (λ column. column.kind) frame.columns

-- two lists go together item by item
abbrev pub Each : {A B : Type 0} → (A → B → Type 0) → List A → List B → Type 0
Each relates [] [] = Unit {0}
Each relates [] (y ∷ ys) = ⊥
Each relates (x ∷ xs) [] = ⊥
Each relates (x ∷ xs) (y ∷ ys) = relates x y × Each relates xs ys

-- the number of the site of this name
abbrev pub site_numbered : List (List ℕ) → List ℕ → Option ℕ
site_numbered sites name = position_from (λ site. pointwise nat_eq site name) 0 sites

-- a column under its name, if it is the key or among those around a node, and else under none
abbrev pub shown : List ℕ → ℕ → Column → Column
shown within place column = if place == 0 || has within place then column else record { name = []; kind = column.kind }

-- the columns, each at its place
abbrev pub visible_from : ℕ → List ℕ → List Column → List Column
visible_from place within [] = []
visible_from place within (column ∷ columns) = shown within place column ∷ visible_from (suc place) within columns

abbrev pub visible : List ℕ → List Column → List Column
visible within columns = visible_from 0 within columns

-- a branch's conditions on columns: those of its `where`
pub record IsWhereOn (columns : List Column) (node : Data) (conds : List Cond) : Type 0 where
  pub text : List ℕ
  pub there : text_at (codes "where") node ≡ Some text
  pub reads : AreCondsOf columns text conds

-- they are on the key and the columns around the branch
abbrev pub IsWhere : Frame → List ℕ → Data → List Cond → Type 0
IsWhere frame within node conds = IsWhereOn (visible within frame.columns) node conds

-- the place of the column of this name
abbrev pub column_numbered : List Column → List ℕ → Option ℕ
column_numbered columns name = position_from (λ column. pointwise nat_eq column.name name) 0 columns

abbrev pub only_if : Bool → ℕ → Option ℕ
only_if is_one place = if is_one then Some place else None

-- the place of the column of this name, if it is among those around a node
abbrev pub place_within : Frame → List ℕ → List ℕ → Option ℕ
place_within frame within name = option_and_then (λ place. only_if (has within place) place) (column_numbered frame.columns name)

-- the places of the columns that a group names in its `of`
abbrev pub named_in : Frame → List ℕ → Data → Option (List ℕ)
named_in frame within node = option_and_then (λ names. all_of (place_within frame within) names) (texts_at (codes "of") node)

-- groups name these columns: each of those around them in one group, and none of them twice
pub record AreNamedIn (frame : Frame) (within : List ℕ) (nodes : List Data) (groups : List (List ℕ)) : Type 0 where
  pub names : all_of (named_in frame within) nodes ≡ Some groups
  pub parts : AreParts within groups
  pub apart : AreApart (named groups)

-- columns of a group in the order of the relation
abbrev pub in_order : List ℕ → List ℕ → List ℕ
in_order within group = filter (has group) within

-- a row split has at most 4,096 cells
pub record HasFewCells (kinds : List Kind) (way : List Cond) (branches : List (List Cond)) : Type 0 where
  pub lists : List (List Value)
  pub columns : AreSplitColumns kinds way branches lists
  pub few : cell_count lists ≤ 4096

-- A node describes a tree, below these conditions, within these columns, with at most so many splits on a way;
-- beside the key of its split it has the one that its place asks for.
abbrev mutual
  pub Describes : Frame → ℕ → List Cond → List ℕ → List ℕ → Data → Tree → Type 0
  Describes frame splits way within beside node (Site site) =
      (name : List ℕ) × (form_of beside node ≡ AtSite name) × (site_numbered frame.sites name ≡ Some site)
  Describes frame zero way within beside node (ByRows branches) = ⊥
  Describes frame (suc splits) way within beside node (ByRows branches) =
      (nodes : List Data) × (form_of beside node ≡ SplitByRows nodes) × Each (IsWhere frame within) nodes (branch_conds branches)
      × HasFewCells (kinds_in frame) way (branch_conds branches) × AreBranches frame splits way within nodes branches
  Describes frame zero way within beside node (ByCols groups) = ⊥
  Describes frame (suc splits) way within beside node (ByCols groups) =
      (nodes : List Data) × (form_of beside node ≡ SplitByCols nodes) × (columns : List (List ℕ)) × AreNamedIn frame within nodes columns
      × (group_columns groups ≡ map (in_order within) columns) × AreGroups frame splits way nodes groups

  pub AreBranches : Frame → ℕ → List Cond → List ℕ → List Data → Branches → Type 0
  AreBranches frame splits way within [] NoBranch = Unit {0}
  AreBranches frame splits way within [] (Branch conds tree rest) = ⊥
  AreBranches frame splits way within (node ∷ nodes) NoBranch = ⊥
  AreBranches frame splits way within (node ∷ nodes) (Branch conds tree rest) =
      Describes frame splits (way ++ conds) within (codes "where") node tree × AreBranches frame splits way within nodes rest

  pub AreGroups : Frame → ℕ → List Cond → List Data → Groups → Type 0
  AreGroups frame splits way [] NoGroup = Unit {0}
  AreGroups frame splits way [] (Group columns tree rest) = ⊥
  AreGroups frame splits way (node ∷ nodes) NoGroup = ⊥
  AreGroups frame splits way (node ∷ nodes) (Group columns tree rest) =
      Describes frame splits way columns (codes "of") node tree × AreGroups frame splits way nodes rest

-- The paths of a tree that a document describes end at its sites, and their conditions and columns are those of the relation.
use Rattle.std.proofs.Common.{◌≡◌, ◌+◌, ◌<◌, ◌≤◌, ℕ, zero, suc, Bool, true, false, cond, List, [], ◌∷◌, ◌++◌, Some, length, map, filter, refl, sym, subst, arith, codes}
use Rattle.std.specs.List.{AllByRecursion, position_from, slice_get}
use Rattle.std.specs.List.Sorted.{IsStrictlySortedBy}
use Rattle.std.specs.Ordering.{nat_cmp, MatchOrdering}
use Rattle.std.specs.Cmp.{nat_cmp_is, ranks}
use Rattle.std.specs.declared.cmp.Ordering.{Ordering}
use Rattle.std.specs.declared.cmp.Ordering.TheVariants.{Less}
use Rattle.std.specs.Cmp.Lexicographic.{pointwise}
use Rattle.std.specs.Prelude.{nat_eq}
use Rattle.std.proofs.lemmas.List.Kept.{IsStrictlySortedBy-filter}
use Rattle.toml.specs.Data.{Data}
use Rattle.terms.specs.declared.cond.Cond.{Cond}
use Rattle.terms.specs.declared.value.Kind.{Kind}
use Rattle.terms.specs.declared.value.Kind.TheVariants as kinds
use Rattle.terms.specs.Cond.{IsCondOf}
use Rattle.reader.specs.Conds.{CondsOfTextFit}
use Rattle.catalog.specs.declared.path.Path.{Path}
use Rattle.catalog.specs.declared.path.Step.TheVariants.{Row, Col}
use Rattle.catalog.specs.Counts.{has}
use Rattle.catalog.specs.Describes.{Frame, kinds_in, Each, IsWhere, visible, in_order, Describes, AreBranches, AreGroups}
use Rattle.catalog.specs.Formed.{IsLeafOver}
use Rattle.catalog.specs.FragmentLeaf.{leaves_from}
use Rattle.catalog.specs.Path.{through, branch_conds, group_columns, places_from, columns_beside_key, path_columns, path_conds, paths, paths_by_rows, paths_by_cols}
use Rattle.catalog.specs.Split.{Tree, Site, ByRows, ByCols, Branches, NoBranch, Branch, Groups, NoGroup, Group}
use Rattle.catalog.proofs.BranchConds.{types_visible}

pub all_both : {X : Type 0} (P : X → Type 0) (xs ys : List X) → AllByRecursion P xs → AllByRecursion P ys → AllByRecursion P (xs ++ ys)
all_both P [] ys one other = other
all_both P (x ∷ xs) ys one other = (one.0, all_both P xs ys one.1 other)

-- ---- sites

position_below : {K : Type 0} (test : K → Bool) (first : ℕ) (xs : List K) (place : ℕ) → position_from test first xs ≡ Some place → place < first + length xs
position_below test first [] place is = absurd (let none = is in cc)
position_below test first (x ∷ xs) place is =
    elim (test x) as (λ b. cond b (Some first) (position_from test (first + 1) xs) ≡ Some place → place < first + suc (length xs)) [
      | true ↦ λ here. let same : first ≡ place = some_same first place here in omega (arith, same)
      | false ↦ λ there. let below = position_below test (first + 1) xs place there in omega (arith, below)
    ] is
  where
    some_same : (m n : ℕ) → Some m ≡ Some n → m ≡ n
    some_same m n e = cc

-- ---- columns

-- columns beside the key, of so many columns: they ascend from it
abbrev AreBeside : ℕ → List ℕ → Type 0
AreBeside bound columns = IsStrictlySortedBy nat_cmp (0 ∷ columns) × AllByRecursion (λ col. col < bound) columns

all_filter : {X : Type 0} (P : X → Type 0) (passes : X → Bool) (xs : List X) → AllByRecursion P xs → AllByRecursion P (filter passes xs)
all_filter P passes [] all = tt
all_filter P passes (x ∷ xs) all =
    elim (passes x) as (λ b. AllByRecursion P (cond b (x ∷ filter passes xs) (filter passes xs))) [
      | true ↦ (all.0, all_filter P passes xs all.1)
      | false ↦ all_filter P passes xs all.1
    ]

-- and so are some of them, in their order
some_beside : (bound : ℕ) (within group : List ℕ) → AreBeside bound within → AreBeside bound (in_order within group)
unfolding IsStrictlySortedBy
some_beside bound within group beside = (
  (all_filter (λ col. nat_cmp 0 col ≡ Less) (has group) within beside.0.0, IsStrictlySortedBy-filter nat_cmp (has group) within beside.0.1),
  all_filter (λ col. col < bound) (has group) within beside.1,
)

groups_beside : (bound : ℕ) (within : List ℕ) (groups : List (List ℕ)) → AreBeside bound within → AllByRecursion (AreBeside bound) (map (in_order within) groups)
groups_beside bound within [] beside = tt
groups_beside bound within (group ∷ groups) beside = (some_beside bound within group beside, groups_beside bound within groups beside)

less_is : (a b : ℕ) → a < b → nat_cmp a b ≡ Less
less_is a b below = sym (nat_cmp_is a b Less below)

-- the places of columns ascend
all_later : (first place : ℕ) (types : List Kind) → first < place → AllByRecursion (λ col. nat_cmp first col ≡ Less) (places_from place types)
all_later first place [] below = tt
all_later first place (kind ∷ types) below = (less_is first place below, all_later first (suc place) types (omega (arith, below)))

places_sorted : (place : ℕ) (types : List Kind) → IsStrictlySortedBy nat_cmp (places_from place types)
unfolding IsStrictlySortedBy
places_sorted place [] = tt
places_sorted place (kind ∷ types) = (all_later place (suc place) types (omega arith), places_sorted (suc place) types)

places_below : (place bound : ℕ) (types : List Kind) → place + length types ≡ bound → AllByRecursion (λ col. col < bound) (places_from place types)
places_below place bound [] all = tt
places_below place bound (kind ∷ types) all = (omega (arith, all), places_below (suc place) bound types (omega (arith, all)))

pub beside_key : (types : List Kind) → AreBeside (length types) (columns_beside_key types)
unfolding IsStrictlySortedBy
beside_key [] = ((tt, tt), tt)
beside_key (key ∷ types) = ((all_later 0 1 types (omega arith), places_sorted 1 types), places_below 1 (suc (length types)) types (omega arith))

-- ascending columns are no more than there are
below_is : (a b : ℕ) → nat_cmp a b ≡ Less → a < b
below_is a b is =
    let P : Ordering → Type 0 = λ o. MatchOrdering o (a < b) (a ≡ b) (b < a) in subst P is (ranks a b)

no_more : (bound first : ℕ) (columns : List ℕ) → first < bound → IsStrictlySortedBy nat_cmp (first ∷ columns) → AllByRecursion (λ col. col < bound) columns → length columns + first < bound
unfolding IsStrictlySortedBy
no_more bound first [] within sorted below = omega (arith, within)
no_more bound first (col ∷ columns) within sorted below =
    let rest = no_more bound col columns below.0 sorted.1 below.1 in
    let next = below_is first col sorted.0.0 in
    omega (arith, rest, next)

-- ---- paths

-- conditions of a `where` fit the columns
where_fits : CondsOfTextFit → (frame : Frame) (within : List ℕ) (node : Data) (conds : List Cond) → IsWhere frame within node conds → AllByRecursion (IsCondOf (kinds_in frame)) conds
where_fits law frame within node conds is =
    let P : List Kind → Type 0 = λ kinds. AllByRecursion (IsCondOf kinds) conds in
    subst P (types_visible within 0 frame.columns) (law (visible within frame.columns) is.text conds is.reads).0

-- a path on from a node ends at a site there is; its conditions fit, and its columns are beside the key
pub record IsPathOver (frame : Frame) (within : List ℕ) (path : Path) : Type 0 where
  pub site : path.site < length frame.sites
  pub conds : AllByRecursion (IsCondOf (kinds_in frame)) (path_conds path.steps)
  pub columns : AreBeside (length (kinds_in frame)) (path_columns within path.steps)

abbrev pub ArePathsOver : Frame → List ℕ → List Path → Type 0
ArePathsOver frame within ps = AllByRecursion (IsPathOver frame within) ps

through_branch : (frame : Frame) (within : List ℕ) (conds : List Cond) (ps : List Path) → AllByRecursion (IsCondOf (kinds_in frame)) conds → ArePathsOver frame within ps → ArePathsOver frame within (map (through (Row conds)) ps)
through_branch frame within conds [] fit over = tt
through_branch frame within conds (path ∷ ps) fit over = (
  record { site = over.0.site; conds = all_both (IsCondOf (kinds_in frame)) conds (path_conds path.steps) fit over.0.conds; columns = over.0.columns },
  through_branch frame within conds ps fit over.1,
)

through_group : (frame : Frame) (within group : List ℕ) (before after : List (List ℕ)) (ps : List Path) → ArePathsOver frame group ps → ArePathsOver frame within (map (through (Col group before after)) ps)
through_group frame within group before after [] over = tt
through_group frame within group before after (path ∷ ps) over =
    (record { site = over.0.site; conds = over.0.conds; columns = over.0.columns }, through_group frame within group before after ps over.1)

mutual
  pub paths_over : CondsOfTextFit → (frame : Frame) (splits : ℕ) (way : List Cond) (within : List ℕ) (beside : List ℕ) (node : Data) (tree : Tree) →
      Describes frame splits way within beside node tree → AreBeside (length (kinds_in frame)) within → ArePathsOver frame within (paths tree)
  paths_over law frame splits way within beside node (Site site) says are =
      let below = position_below (λ name. pointwise nat_eq name says.0) 0 frame.sites site says.2 in
      (record { site = omega (arith, below); conds = tt; columns = are }, tt)
  paths_over law frame zero way within beside node (ByRows branches) says are = absurd says
  paths_over law frame zero way within beside node (ByCols groups) says are = absurd says
  paths_over law frame (suc splits) way within beside node (ByRows branches) says are = row_paths_over law frame splits way within says.0 branches says.2 says.4 are
  paths_over law frame (suc splits) way within beside node (ByCols groups) says are =
      col_paths_over law frame splits way within [] says.0 groups says.5
      (subst (AllByRecursion (AreBeside (length (kinds_in frame)))) (sym says.4) (groups_beside (length (kinds_in frame)) within says.2 are))

  row_paths_over : CondsOfTextFit → (frame : Frame) (splits : ℕ) (way : List Cond) (within : List ℕ) (nodes : List Data) (branches : Branches) →
      Each (IsWhere frame within) nodes (branch_conds branches) → AreBranches frame splits way within nodes branches → AreBeside (length (kinds_in frame)) within → ArePathsOver frame within (paths_by_rows branches)
  row_paths_over law frame splits way within [] NoBranch wheres says are = tt
  row_paths_over law frame splits way within [] (Branch conds tree rest) wheres says are = absurd says
  row_paths_over law frame splits way within (node ∷ nodes) NoBranch wheres says are = absurd says
  row_paths_over law frame splits way within (node ∷ nodes) (Branch conds tree rest) wheres says are =
      all_both (IsPathOver frame within) (map (through (Row conds)) (paths tree)) (paths_by_rows rest)
      (through_branch frame within conds (paths tree) (where_fits law frame within node conds wheres.0) (paths_over law frame splits (way ++ conds) within (codes "where") node tree says.0 are))
      (row_paths_over law frame splits way within nodes rest wheres.1 says.1 are)

  col_paths_over : CondsOfTextFit → (frame : Frame) (splits : ℕ) (way : List Cond) (within : List ℕ) (before : List (List ℕ)) (nodes : List Data) (groups : Groups) →
      AreGroups frame splits way nodes groups → AllByRecursion (AreBeside (length (kinds_in frame))) (group_columns groups) → ArePathsOver frame within (paths_by_cols before groups)
  col_paths_over law frame splits way within before [] NoGroup says are = tt
  col_paths_over law frame splits way within before [] (Group columns tree rest) says are = absurd says
  col_paths_over law frame splits way within before (node ∷ nodes) NoGroup says are = absurd says
  col_paths_over law frame splits way within before (node ∷ nodes) (Group columns tree rest) says are =
      all_both (IsPathOver frame within) (map (through (Col columns before (group_columns rest))) (paths tree)) (paths_by_cols (before ++ columns ∷ []) rest)
      (through_group frame within columns before (group_columns rest) (paths tree) (paths_over law frame splits way columns (codes "of") node tree says.0 are.0))
      (col_paths_over law frame splits way within (before ++ columns ∷ []) nodes rest says.1 are.1)

-- where there is a key there is a column
pub key_below : (types : List Kind) → slice_get types 0 ≡ Some kinds.Int → 0 < length types
key_below [] key = absurd (let none = key in cc)
key_below (kind ∷ types) key = omega arith

-- paths over a frame lead to leaves over its sites and columns
pub leaves_over : (frame : Frame) (name : List ℕ) (number : ℕ) (within : List ℕ) (ps : List Path) → 0 < length (kinds_in frame) → length (kinds_in frame) ≤ 16 → ArePathsOver frame within ps →
    AllByRecursion (IsLeafOver frame.sites (kinds_in frame)) (leaves_from name within number ps)
leaves_over frame name number within [] key few over = tt
leaves_over frame name number within (path ∷ ps) key few over =
    let short = no_more (length (kinds_in frame)) 0 (path_columns within path.steps) key over.0.columns.0 over.0.columns.1 in (
      record {
        site = over.0.site;
        conds = over.0.conds;
        columns = (key, over.0.columns.1);
        first = refl;
        ascending = over.0.columns.0;
        few = omega (arith, short, few);
      },
      leaves_over frame name (suc number) within ps key few over.1,
    )

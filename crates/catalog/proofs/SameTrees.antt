-- When two splits of the code are one tree.
use Rattle.std.proofs.Common.{◌≡◌, ◌≢◌, ◌↔◌, ◌<◌, ℕ, zero, suc, Bool, false, IsTrue, List, [], ◌∷◌, map, length, get_or, Vec, Global, refl, sym, ap, subst, ◌∙◌, arith}
use Rattle.catalog.specs.declared.split.Split.{Split}
use Rattle.catalog.specs.declared.split.Split.TheVariants as code
use Rattle.catalog.specs.declared.split.Branch as branch
use Rattle.catalog.specs.declared.split.Group as group
use Rattle.catalog.specs.Split.{Tree, ByRows, ByCols, Branches, NoBranch, Branch, Groups, NoGroup, Group, TreeBranch, TreeGroup, branches_of, groups_of, tree_of, tree_branch, tree_group}
use Rattle.catalog.proofs.Trees.{tree_of-ByRows, tree_of-ByCols}

-- the list of a tree's branches, and of its groups
abbrev listed_branches : Branches → List TreeBranch
listed_branches NoBranch = []
listed_branches (Branch conds tree rest) = record { conds = conds; tree = tree } ∷ listed_branches rest

abbrev listed_groups : Groups → List TreeGroup
listed_groups NoGroup = []
listed_groups (Group columns tree rest) = record { columns = columns; tree = tree } ∷ listed_groups rest

listed_rows : (branches : List TreeBranch) → listed_branches (branches_of branches) ≡ branches
listed_rows [] = refl
listed_rows (first ∷ rest) = ap (λ (bs : List TreeBranch). first ∷ bs) (listed_rows rest)

listed_cols : (groups : List TreeGroup) → listed_groups (groups_of groups) ≡ groups
listed_cols [] = refl
listed_cols (first ∷ rest) = ap (λ (gs : List TreeGroup). first ∷ gs) (listed_cols rest)

abbrev rows_in : Tree → List TreeBranch
rows_in (ByRows branches) = listed_branches branches
rows_in tree = []

abbrev cols_in : Tree → List TreeGroup
cols_in (ByCols groups) = listed_groups groups
cols_in tree = []

pub rows_same : (result : Bool) (one other : Split) (branches others : Vec branch.Branch Global) (seen shown : List branch.Branch) → one ≡ code.ByRows branches → other ≡ code.ByRows others → seen ≡ branches.items → shown ≡ others.items →
    (IsTrue result ↔ (map tree_branch seen ≡ map tree_branch shown)) → IsTrue result ↔ (tree_of one ≡ tree_of other)
rows_same result one other branches others seen shown is also same too decides =
    let tree_one : tree_of one ≡ ByRows (branches_of (map tree_branch seen)) = ap tree_of is ∙ tree_of-ByRows branches ∙ ap (λ bs. ByRows (branches_of (map tree_branch bs))) (sym same) in
    let tree_other : tree_of other ≡ ByRows (branches_of (map tree_branch shown)) = ap tree_of also ∙ tree_of-ByRows others ∙ ap (λ bs. ByRows (branches_of (map tree_branch bs))) (sym too) in (
      λ true. tree_one ∙ ap (λ (bs : List TreeBranch). ByRows (branches_of bs)) (decides.0 true) ∙ sym tree_other,
      λ equal. decides.1 (sym (listed_rows (map tree_branch seen)) ∙ ap rows_in (sym tree_one ∙ equal ∙ tree_other) ∙ listed_rows (map tree_branch shown)),
    )

pub cols_same : (result : Bool) (one other : Split) (groups others : Vec group.Group Global) (seen shown : List group.Group) → one ≡ code.ByCols groups → other ≡ code.ByCols others → seen ≡ groups.items → shown ≡ others.items →
    (IsTrue result ↔ (map tree_group seen ≡ map tree_group shown)) → IsTrue result ↔ (tree_of one ≡ tree_of other)
cols_same result one other groups others seen shown is also same too decides =
    let tree_one : tree_of one ≡ ByCols (groups_of (map tree_group seen)) = ap tree_of is ∙ tree_of-ByCols groups ∙ ap (λ gs. ByCols (groups_of (map tree_group gs))) (sym same) in
    let tree_other : tree_of other ≡ ByCols (groups_of (map tree_group shown)) = ap tree_of also ∙ tree_of-ByCols others ∙ ap (λ gs. ByCols (groups_of (map tree_group gs))) (sym too) in (
      λ true. tree_one ∙ ap (λ (gs : List TreeGroup). ByCols (groups_of gs)) (decides.0 true) ∙ sym tree_other,
      λ equal. decides.1 (sym (listed_cols (map tree_group seen)) ∙ ap cols_in (sym tree_one ∙ equal ∙ tree_other) ∙ listed_cols (map tree_group shown)),
    )

-- items that are seen otherwise, at one place of two lists
apart : {A B : Type 0} (see : A → B) (xs ys : List A) (i : ℕ) (d e : A) → i < length xs → see (get_or xs i d) ≢ see (get_or ys i e) → map see xs ≡ map see ys → ⊥
apart see [] ys i d e inside other same = absurd (omega arith)
apart see (x ∷ xs) [] i d e inside other same = absurd cc
apart see (x ∷ xs) (y ∷ ys) zero d e inside other same = let first : see x ≡ see y = cc in other first
apart see (x ∷ xs) (y ∷ ys) (suc i) d e inside other same = let rest : map see xs ≡ map see ys = cc in apart see xs ys i d e (omega arith) other rest

pub differ_at : {A B : Type 0} (see : A → B) (xs ys : List A) (i : ℕ) (d e x y : A) (result : Bool) → x ≡ get_or xs i d → y ≡ get_or ys i e → i < length xs → (IsTrue result ↔ (see x ≡ see y)) → result ≡ false → IsTrue false ↔ (map see xs ≡ map see ys)
differ_at {A} see xs ys i d e x y result is also inside decides none =
    let P : A → Type 0 = λ z. see z ≢ see y in
    let Q : A → Type 0 = λ z. see (get_or xs i d) ≢ see z in
    let R : Bool → Type 0 = IsTrue in
    let other : see x ≢ see y = λ equal. false_is (subst R none (decides.1 equal)) in (
      λ true. absurd (false_is true),
      λ equal. absurd (apart see xs ys i d e inside (subst Q also (subst P is other)) equal),
    )
  where
    false_is : IsTrue false → ⊥
    false_is true = cc

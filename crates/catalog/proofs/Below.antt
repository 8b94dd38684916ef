-- What is below a split, as a loop finds it branch by branch or group by group.
use Rattle.std.proofs.Common.{◌≡◌, ◌≤◌, ◌<◌, ◌+◌, ℕ, zero, suc, List, [], ◌∷◌, ◌++◌, length, map, take, get_or, refl, sym, ap, ap₂, ◌∙◌, subst, arith}
use Rattle.std.specs.Prelude.{codes}
use Rattle.std.proofs.lemmas.List.{take_more, map-append}
use Rattle.toml.specs.Data.{Data}
use Rattle.terms.specs.declared.cond.Cond.{Cond}
use Rattle.catalog.specs.Describes.{Frame, kinds_in, Each, Describes, AreBranches, AreGroups}
use Rattle.catalog.specs.Path.{paths, paths_by_rows, paths_by_cols, branch_conds, group_columns}
use Rattle.catalog.specs.Split.{TreeBranch, TreeGroup, branches_of, groups_of}
use Rattle.catalog.specs.Valid.{IsValidWithin, AreValidBranches, AreValidGroups}
use Rattle.catalog.proofs.Leaves.{rows_last, cols_last}
use Rattle.catalog.proofs.Pairs.{each_next}

-- a branch that a node describes, and that is valid
abbrev pub IsBranch : Frame → ℕ → List Cond → List ℕ → Data → TreeBranch → Type 0
IsBranch frame splits way within node branch =
    Describes frame splits (way ++ branch.conds) within (codes "where") node branch.tree × IsValidWithin (kinds_in frame) (way ++ branch.conds) within branch.tree

-- a group that a node describes, and that is valid
abbrev pub IsGroup : Frame → ℕ → List Cond → Data → TreeGroup → Type 0
IsGroup frame splits way node group =
    Describes frame splits way group.columns (codes "of") node group.tree × IsValidWithin (kinds_in frame) way group.columns group.tree

-- as many as there are items
pub each_length : {A B C : Type 0} (R : B → C → Type 0) (view : A → B) (items : List A) (ys : List C) → Each R (map view items) ys → length ys ≡ length items
each_length R view [] [] each = refl
each_length R view [] (y ∷ ys) each = absurd each
each_length R view (item ∷ items) [] each = absurd each
each_length R view (item ∷ items) (y ∷ ys) each = ap suc (each_length R view items ys each.1)

-- one item more, behind those that a loop has pushed
pub each_pushed : {A B C D : Type 0} (R : B → C → Type 0) (view : A → B) (seen : D → C) (items : List A) (i : ℕ) (d x : A) (zs all : List D) (z : D) →
    all ≡ zs ++ z ∷ [] → x ≡ get_or items i d → i < length items → Each R (map view (take i items)) (map seen zs) → R (view x) (seen z) → Each R (map view (take (i + 1) items)) (map seen all)
each_pushed {A} {B} {C} {D} R view seen items i d x zs all z pushed is inside so_far here =
    let P : List C → Type 0 = λ ys. Each R (map view (take (i + 1) items)) ys in
    let Q : ℕ → Type 0 = λ j. Each R (map view (take j items)) (map seen zs ++ seen z ∷ []) in
    let next : suc i ≡ i + 1 = omega arith in
    subst P (sym (ap (map seen) pushed ∙ map-append seen zs (z ∷ []))) (subst Q next (each_next R view items i d x (map seen zs) (seen z) is inside so_far here))

-- what is seen of one item more
pub seen_pushed : {D C : Type 0} (seen : D → C) (zs all : List D) (z : D) → all ≡ zs ++ z ∷ [] → map seen all ≡ map seen zs ++ seen z ∷ []
seen_pushed seen zs all z pushed = ap (map seen) pushed ∙ map-append seen zs (z ∷ [])

pub are_branches : (frame : Frame) (splits : ℕ) (way : List Cond) (within : List ℕ) (nodes : List Data) (branches : List TreeBranch) →
    Each (IsBranch frame splits way within) nodes branches → AreBranches frame splits way within nodes (branches_of branches)
are_branches frame splits way within [] [] each = tt
are_branches frame splits way within [] (branch ∷ branches) each = absurd each
are_branches frame splits way within (node ∷ nodes) [] each = absurd each
are_branches frame splits way within (node ∷ nodes) (branch ∷ branches) each = (each.0.0, are_branches frame splits way within nodes branches each.1)

pub are_valid_branches : (frame : Frame) (splits : ℕ) (way : List Cond) (within : List ℕ) (nodes : List Data) (branches : List TreeBranch) →
    Each (IsBranch frame splits way within) nodes branches → AreValidBranches (kinds_in frame) way within (branches_of branches)
are_valid_branches frame splits way within [] [] each = tt
are_valid_branches frame splits way within [] (branch ∷ branches) each = absurd each
are_valid_branches frame splits way within (node ∷ nodes) [] each = absurd each
are_valid_branches frame splits way within (node ∷ nodes) (branch ∷ branches) each = (each.0.1, are_valid_branches frame splits way within nodes branches each.1)

pub are_groups : (frame : Frame) (splits : ℕ) (way : List Cond) (nodes : List Data) (groups : List TreeGroup) →
    Each (IsGroup frame splits way) nodes groups → AreGroups frame splits way nodes (groups_of groups)
are_groups frame splits way [] [] each = tt
are_groups frame splits way [] (group ∷ groups) each = absurd each
are_groups frame splits way (node ∷ nodes) [] each = absurd each
are_groups frame splits way (node ∷ nodes) (group ∷ groups) each = (each.0.0, are_groups frame splits way nodes groups each.1)

pub are_valid_groups : (frame : Frame) (splits : ℕ) (way : List Cond) (nodes : List Data) (groups : List TreeGroup) →
    Each (IsGroup frame splits way) nodes groups → AreValidGroups (kinds_in frame) way (groups_of groups)
are_valid_groups frame splits way [] [] each = tt
are_valid_groups frame splits way [] (group ∷ groups) each = absurd each
are_valid_groups frame splits way (node ∷ nodes) [] each = absurd each
are_valid_groups frame splits way (node ∷ nodes) (group ∷ groups) each = (each.0.1, are_valid_groups frame splits way nodes groups each.1)

-- the conditions of one branch more, and the columns of one group more
conds_last : (branches : List TreeBranch) (last : TreeBranch) → branch_conds (branches_of (branches ++ last ∷ [])) ≡ branch_conds (branches_of branches) ++ last.conds ∷ []
conds_last [] last = refl
conds_last (branch ∷ branches) last = ap (λ (more : List (List Cond)). branch.conds ∷ more) (conds_last branches last)

columns_last : (groups : List TreeGroup) (last : TreeGroup) → group_columns (groups_of (groups ++ last ∷ [])) ≡ group_columns (groups_of groups) ++ last.columns ∷ []
columns_last [] last = refl
columns_last (group ∷ groups) last = ap (λ (more : List (List ℕ)). group.columns ∷ more) (columns_last groups last)

-- the conditions of the branches so far
pub conds_pushed : {D : Type 0} (seen : D → TreeBranch) (conds : List (List Cond)) (i : ℕ) (d c : List Cond) (zs all : List D) (z : D) →
    all ≡ zs ++ z ∷ [] → c ≡ get_or conds i d → i < length conds → branch_conds (branches_of (map seen zs)) ≡ take i conds → (seen z).conds ≡ c →
    branch_conds (branches_of (map seen all)) ≡ take (i + 1) conds
conds_pushed seen conds i d c zs all z pushed is inside so_far here =
    ap (λ (bs : List TreeBranch). branch_conds (branches_of bs)) (seen_pushed seen zs all z pushed)
    ∙ conds_last (map seen zs) (seen z)
    ∙ ap₂ (λ (front : List (List Cond)) (last : List Cond). front ++ last ∷ []) so_far (here ∙ is)
    ∙ sym (take_more conds i d inside)

pub columns_pushed : {D : Type 0} (seen : D → TreeGroup) (order : List ℕ → List ℕ) (named : List (List ℕ)) (i : ℕ) (d c : List ℕ) (zs all : List D) (z : D) →
    all ≡ zs ++ z ∷ [] → c ≡ get_or named i d → i < length named → group_columns (groups_of (map seen zs)) ≡ map order (take i named) → (seen z).columns ≡ order c →
    group_columns (groups_of (map seen all)) ≡ map order (take (i + 1) named)
columns_pushed seen order named i d c zs all z pushed is inside so_far here =
    ap (λ (gs : List TreeGroup). group_columns (groups_of gs)) (seen_pushed seen zs all z pushed)
    ∙ columns_last (map seen zs) (seen z)
    ∙ ap₂ (λ (front : List (List ℕ)) (last : List ℕ). front ++ last ∷ []) so_far (here ∙ ap order is)
    ∙ sym (ap (map order) (take_more named i d inside) ∙ map-append order (take i named) (get_or named i d ∷ []))

-- the leaves so far
pub rows_pushed : {D : Type 0} (seen : D → TreeBranch) (zs all : List D) (z : D) (before now next : ℕ) →
    all ≡ zs ++ z ∷ [] → now ≡ before + length (paths_by_rows (branches_of (map seen zs))) → next ≡ now + length (paths (seen z).tree) →
    next ≡ before + length (paths_by_rows (branches_of (map seen all)))
rows_pushed seen zs all z before now next pushed so_far here =
    let more = ap (λ (bs : List TreeBranch). length (paths_by_rows (branches_of bs))) (seen_pushed seen zs all z pushed) ∙ rows_last (map seen zs) (seen z) in
    omega (arith, so_far, here, more)

pub cols_pushed : {D : Type 0} (seen : D → TreeGroup) (zs all : List D) (z : D) (before now next : ℕ) →
    all ≡ zs ++ z ∷ [] → now ≡ before + length (paths_by_cols [] (groups_of (map seen zs))) → next ≡ now + length (paths (seen z).tree) →
    next ≡ before + length (paths_by_cols [] (groups_of (map seen all)))
cols_pushed seen zs all z before now next pushed so_far here =
    let more = ap (λ (gs : List TreeGroup). length (paths_by_cols [] (groups_of gs))) (seen_pushed seen zs all z pushed) ∙ cols_last [] (map seen zs) (seen z) in
    omega (arith, so_far, here, more)

-- a branch by its conditions, and a group by its columns
pub is_branch : (frame : Frame) (splits : ℕ) (way : List Cond) (within : List ℕ) (node : Data) (branch : TreeBranch) (conds : List Cond) → branch.conds ≡ conds →
    Describes frame splits (way ++ conds) within (codes "where") node branch.tree → IsValidWithin (kinds_in frame) (way ++ conds) within branch.tree → IsBranch frame splits way within node branch
is_branch frame splits way within node branch conds is described valid =
    let P : List Cond → Type 0 = λ cs. Describes frame splits (way ++ cs) within (codes "where") node branch.tree × IsValidWithin (kinds_in frame) (way ++ cs) within branch.tree in
    subst P (sym is) (described, valid)

pub is_group : (frame : Frame) (splits : ℕ) (way : List Cond) (node : Data) (group : TreeGroup) (columns : List ℕ) → group.columns ≡ columns →
    Describes frame splits way columns (codes "of") node group.tree → IsValidWithin (kinds_in frame) way columns group.tree → IsGroup frame splits way node group
is_group frame splits way node group columns is described valid =
    let P : List ℕ → Type 0 = λ cs. Describes frame splits way cs (codes "of") node group.tree × IsValidWithin (kinds_in frame) way cs group.tree in
    subst P (sym is) (described, valid)

pub all_taken : {A : Type 0} (items : List A) (i : ℕ) → length items ≤ i → take i items ≡ items
all_taken [] zero past = refl
all_taken [] (suc i) past = refl
all_taken (item ∷ items) zero past = absurd (omega arith)
all_taken {A} (item ∷ items) (suc i) past = ap (λ (rest : List A). item ∷ rest) (all_taken items i (omega arith))

-- what is seen of the items so far
pub map-take : {A B : Type 0} (f : A → B) (i : ℕ) (xs : List A) → map f (take i xs) ≡ take i (map f xs)
map-take f zero xs = refl
map-take f (suc i) [] = refl
map-take {A} {B} f (suc i) (x ∷ xs) = ap (λ (rest : List B). f x ∷ rest) (map-take f i xs)

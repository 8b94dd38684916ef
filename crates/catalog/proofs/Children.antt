-- A child of a split that is refused, and what that says of the split.
use Rattle.std.proofs.Common.{◌≡◌, ◌≤◌, ◌<◌, ◌+◌, ℕ, zero, suc, List, [], ◌∷◌, ◌++◌, length, map, take, get_or, sym, ap, ◌∙◌, subst, arith}
use Rattle.std.specs.Prelude.{codes}
use Rattle.toml.specs.Data.{Data}
use Rattle.terms.specs.declared.cond.Cond.{Cond}
use Rattle.catalog.specs.declared.fault.Rule.{Rule}
use Rattle.catalog.specs.Below.{RefusesBranches, RefusesGroups}
use Rattle.catalog.specs.Describes.{Frame, kinds_in, Each, Describes, AreBranches, AreGroups}
use Rattle.catalog.specs.Path.{paths, paths_by_rows, paths_by_cols, branch_conds, group_columns}
use Rattle.catalog.specs.Refuses.{Refuses, NoneIsDescribed}
use Rattle.catalog.specs.Split.{Tree, Branches, NoBranch, Branch, Groups, NoGroup, Group, TreeBranch, TreeGroup, branches_of, groups_of}
use Rattle.catalog.specs.Valid.{IsValidWithin}
use Rattle.catalog.proofs.Below.{IsBranch, IsGroup}
use Rattle.catalog.specs.Inexact.{IsExactSplit, IsFirstInexact, ShowsCell, row_splits, splits_of_branches, splits_of_groups}
use Rattle.reader.specs.Conds.{OneListOfCondsOfText}
use Rattle.catalog.proofs.Inexact.{all_exact, first_before, first_behind}
use Rattle.catalog.proofs.OneTree.{first_same, one_tree}
use Rattle.catalog.proofs.Leaves.{rows_first, cols_first, one_count}
use Rattle.catalog.proofs.Refusals.{refuses_map}

-- the tree of a branch of these conditions, behind branches with so many leaves
pub record RowAt (frame : Frame) (splits : ℕ) (way : List Cond) (within : List ℕ) (node : Data) (conds : List Cond) (before : ℕ) (branches : Branches) : Type 0 where
  pub tree : Tree
  pub described : Describes frame splits (way ++ conds) within (codes "where") node tree
  pub counted : before + length (paths tree) ≤ length (paths_by_rows branches)

row_here : {A : Type 0} (frame : Frame) (splits : ℕ) (way : List Cond) (within : List ℕ) (view : A → Data) (nodes : List A) (i : ℕ) (d : A) (e : List Cond) (so_far : List TreeBranch) (branches : Branches) →
    i < length nodes → Each (IsBranch frame splits way within) (map view (take i nodes)) so_far → AreBranches frame splits way within (map view nodes) branches →
    RowAt frame splits way within (view (get_or nodes i d)) (get_or (branch_conds branches) i e) (length (paths_by_rows (branches_of so_far))) branches
row_here frame splits way within view [] i d e so_far branches inside each are = absurd (omega arith)
row_here frame splits way within view (node ∷ nodes) zero d e [] NoBranch inside each are = absurd are
row_here frame splits way within view (node ∷ nodes) zero d e [] (Branch conds tree rest) inside each are =
    let first = rows_first conds tree rest in
    record { tree = tree; described = are.0; counted = omega (arith, first) }
row_here frame splits way within view (node ∷ nodes) zero d e (branch ∷ so_far) branches inside each are = absurd each
row_here frame splits way within view (node ∷ nodes) (suc i) d e [] branches inside each are = absurd each
row_here frame splits way within view (node ∷ nodes) (suc i) d e (branch ∷ so_far) NoBranch inside each are = absurd are
row_here frame splits way within view (node ∷ nodes) (suc i) d e (branch ∷ so_far) (Branch conds tree rest) inside each are =
    let there = row_here frame splits way within view nodes i d e so_far rest (omega arith) each.1 are.1 in
    let same = one_count frame splits (way ++ branch.conds) (way ++ conds) within within (codes "where") (view node) branch.tree tree each.0.0 are.0 in
    let one = rows_first branch.conds branch.tree (branches_of so_far) in
    let other = rows_first conds tree rest in
    let most = there.counted in
    record { tree = there.tree; described = there.described; counted = omega (arith, same, one, other, most) }

row_at : {A : Type 0} (frame : Frame) (splits : ℕ) (way : List Cond) (within : List ℕ) (view : A → Data) (nodes : List A) (i : ℕ) (d x : A) (conds : List (List Cond)) (e c : List Cond) (so_far : List TreeBranch) (branches : Branches) →
    x ≡ get_or nodes i d → c ≡ get_or conds i e → i < length nodes → Each (IsBranch frame splits way within) (map view (take i nodes)) so_far →
    branch_conds branches ≡ conds → AreBranches frame splits way within (map view nodes) branches →
    RowAt frame splits way within (view x) c (length (paths_by_rows (branches_of so_far))) branches
row_at {A} frame splits way within view nodes i d x conds e c so_far branches is here inside each all are =
    let P : A → Type 0 = λ y. RowAt frame splits way within (view y) (get_or (branch_conds branches) i e) (length (paths_by_rows (branches_of so_far))) branches in
    let Q : List Cond → Type 0 = λ own. RowAt frame splits way within (view x) own (length (paths_by_rows (branches_of so_far))) branches in
    let own : get_or (branch_conds branches) i e ≡ c = ap (λ (some : List (List Cond)). get_or some i e) all ∙ sym here in
    subst Q own (subst P (sym is) (row_here frame splits way within view nodes i d e so_far branches inside each are))

-- the branches before are exact, and the first split below this one that is not is the first of all
rows_inexact : {A : Type 0} → OneListOfCondsOfText → (frame : Frame) (splits : ℕ) (way : List Cond) (within : List ℕ) (rule : Rule) (view : A → Data) (nodes : List A) (i : ℕ) (d : A) (e : List Cond) (so_far : List TreeBranch) (branches : Branches) →
    i < length nodes → Each (IsBranch frame splits way within) (map view (take i nodes)) so_far → branch_conds (branches_of so_far) ≡ take i (branch_conds branches) → AreBranches frame splits way within (map view nodes) branches →
    ((tree : Tree) → Describes frame splits (way ++ get_or (branch_conds branches) i e) within (codes "where") (view (get_or nodes i d)) tree → IsFirstInexact frame rule (row_splits (way ++ get_or (branch_conds branches) i e) tree)) →
    IsFirstInexact frame rule (splits_of_branches way branches)
rows_inexact law frame splits way within rule view [] i d e so_far branches inside each conds are first = absurd (omega arith)
rows_inexact law frame splits way within rule view (node ∷ nodes) zero d e [] NoBranch inside each conds are first = absurd are
rows_inexact law frame splits way within rule view (node ∷ nodes) zero d e [] (Branch own tree rest) inside each conds are first =
    first_before (ShowsCell frame rule) (IsExactSplit (kinds_in frame)) (row_splits (way ++ own) tree) (splits_of_branches way rest) (first tree are.0)
rows_inexact law frame splits way within rule view (node ∷ nodes) zero d e (branch ∷ so_far) branches inside each conds are first = absurd each
rows_inexact law frame splits way within rule view (node ∷ nodes) (suc i) d e [] branches inside each conds are first = absurd each
rows_inexact law frame splits way within rule view (node ∷ nodes) (suc i) d e (branch ∷ so_far) NoBranch inside each conds are first = absurd are
rows_inexact law frame splits way within rule view (node ∷ nodes) (suc i) d e (branch ∷ so_far) (Branch own tree rest) inside each conds are first =
    let heads = first_same branch.conds own (branch_conds (branches_of so_far)) (take i (branch_conds rest)) conds in
    let P : List Cond → Type 0 = λ cs. Describes frame splits (way ++ cs) within (codes "where") (view node) branch.tree × IsValidWithin (kinds_in frame) (way ++ cs) within branch.tree in
    let both = subst P heads.0 each.0 in
    let same : branch.tree ≡ tree = one_tree law frame splits (way ++ own) within (codes "where") (view node) branch.tree tree both.0 are.0 in
    let Q : Tree → Type 0 = λ t. IsValidWithin (kinds_in frame) (way ++ own) within t in
    first_behind (ShowsCell frame rule) (IsExactSplit (kinds_in frame)) (row_splits (way ++ own) tree) (splits_of_branches way rest) (all_exact (kinds_in frame) (way ++ own) within tree (subst Q same both.1))
    (rows_inexact law frame splits way within rule view nodes i d e so_far rest (omega arith) each.1 heads.1 are.1 first)

pub branches_refused : {A : Type 0} → OneListOfCondsOfText → (frame : Frame) (splits : ℕ) (way : List Cond) (within : List ℕ) (view : A → Data) (nodes : List A) (i : ℕ) (d x : A) (conds : List (List Cond)) (e c : List Cond) (so_far : List TreeBranch) (before now : ℕ) (rule : Rule) →
    x ≡ get_or nodes i d → c ≡ get_or conds i e → i < length nodes → Each (IsBranch frame splits way within) (map view (take i nodes)) so_far → branch_conds (branches_of so_far) ≡ take i conds →
    now ≡ before + length (paths_by_rows (branches_of so_far)) → Refuses frame splits (way ++ c) within (codes "where") (view x) now rule →
    RefusesBranches frame splits way within (map view nodes) conds before rule
branches_refused {A} law frame splits way within view nodes i d x conds e c so_far before now rule is here inside each taken count =
    refuses_map
    ((tree : Tree) → Describes frame splits (way ++ c) within (codes "where") (view x) tree → IsFirstInexact frame rule (row_splits (way ++ c) tree))
    ((branches : Branches) → branch_conds branches ≡ conds → AreBranches frame splits way within (map view nodes) branches → IsFirstInexact frame rule (splits_of_branches way branches))
    (NoneIsDescribed frame splits (way ++ c) within (codes "where") (view x) now)
    ((branches : Branches) → branch_conds branches ≡ conds → AreBranches frame splits way within (map view nodes) branches → before + length (paths_by_rows branches) ≤ 32 → ⊥)
    rule
    (λ first branches all are.
    let P : A → List Cond → Type 0 = λ y own. (tree : Tree) → Describes frame splits (way ++ own) within (codes "where") (view y) tree → IsFirstInexact frame rule (row_splits (way ++ own) tree) in
    let own : c ≡ get_or (branch_conds branches) i e = here ∙ ap (λ (some : List (List Cond)). get_or some i e) (sym all) in
    let Q : A → Type 0 = λ y. P y c in
    let R : List Cond → Type 0 = P (get_or nodes i d) in
    rows_inexact law frame splits way within rule view nodes i d e so_far branches inside each (taken ∙ ap (take i) (sym all)) are (subst R own (subst Q is first)))
    (λ none branches all are few.
    let at = row_at frame splits way within view nodes i d x conds e c so_far branches is here inside each all are in
    let most = at.counted in
    none at.tree at.described (omega (arith, count, most, few)))

-- the tree of a group of these columns, behind groups with so many leaves
pub record ColAt (frame : Frame) (splits : ℕ) (way : List Cond) (node : Data) (columns : List ℕ) (front : List (List ℕ)) (before : ℕ) (groups : Groups) : Type 0 where
  pub tree : Tree
  pub described : Describes frame splits way columns (codes "of") node tree
  pub counted : before + length (paths tree) ≤ length (paths_by_cols front groups)

col_here : {A : Type 0} (frame : Frame) (splits : ℕ) (way : List Cond) (front head : List (List ℕ)) (view : A → Data) (nodes : List A) (i : ℕ) (d : A) (e : List ℕ) (so_far : List TreeGroup) (groups : Groups) →
    i < length nodes → Each (IsGroup frame splits way) (map view (take i nodes)) so_far → AreGroups frame splits way (map view nodes) groups →
    ColAt frame splits way (view (get_or nodes i d)) (get_or (group_columns groups) i e) front (length (paths_by_cols head (groups_of so_far))) groups
col_here frame splits way front head view [] i d e so_far groups inside each are = absurd (omega arith)
col_here frame splits way front head view (node ∷ nodes) zero d e [] NoGroup inside each are = absurd are
col_here frame splits way front head view (node ∷ nodes) zero d e [] (Group columns tree rest) inside each are =
    let first = cols_first front columns tree rest in
    record { tree = tree; described = are.0; counted = omega (arith, first) }
col_here frame splits way front head view (node ∷ nodes) zero d e (group ∷ so_far) groups inside each are = absurd each
col_here frame splits way front head view (node ∷ nodes) (suc i) d e [] groups inside each are = absurd each
col_here frame splits way front head view (node ∷ nodes) (suc i) d e (group ∷ so_far) NoGroup inside each are = absurd are
col_here frame splits way front head view (node ∷ nodes) (suc i) d e (group ∷ so_far) (Group columns tree rest) inside each are =
    let there = col_here frame splits way (front ++ columns ∷ []) (head ++ group.columns ∷ []) view nodes i d e so_far rest (omega arith) each.1 are.1 in
    let same = one_count frame splits way way group.columns columns (codes "of") (view node) group.tree tree each.0.0 are.0 in
    let one = cols_first head group.columns group.tree (groups_of so_far) in
    let other = cols_first front columns tree rest in
    let most = there.counted in
    record { tree = there.tree; described = there.described; counted = omega (arith, same, one, other, most) }

col_at : {A : Type 0} (frame : Frame) (splits : ℕ) (way : List Cond) (view : A → Data) (nodes : List A) (i : ℕ) (d x : A) (order : List ℕ → List ℕ) (named : List (List ℕ)) (e c : List ℕ) (so_far : List TreeGroup) (groups : Groups) →
    x ≡ get_or nodes i d → c ≡ get_or (map order named) i e → i < length nodes → Each (IsGroup frame splits way) (map view (take i nodes)) so_far →
    group_columns groups ≡ map order named → AreGroups frame splits way (map view nodes) groups →
    ColAt frame splits way (view x) c [] (length (paths_by_cols [] (groups_of so_far))) groups
col_at {A} frame splits way view nodes i d x order named e c so_far groups is here inside each all are =
    let P : A → Type 0 = λ y. ColAt frame splits way (view y) (get_or (group_columns groups) i e) [] (length (paths_by_cols [] (groups_of so_far))) groups in
    let Q : List ℕ → Type 0 = λ own. ColAt frame splits way (view x) own [] (length (paths_by_cols [] (groups_of so_far))) groups in
    let own : get_or (group_columns groups) i e ≡ c = ap (λ (some : List (List ℕ)). get_or some i e) all ∙ sym here in
    subst Q own (subst P (sym is) (col_here frame splits way [] [] view nodes i d e so_far groups inside each are))

-- the groups before are exact, and the first split below this one that is not is the first of all
cols_inexact : {A : Type 0} → OneListOfCondsOfText → (frame : Frame) (splits : ℕ) (way : List Cond) (rule : Rule) (view : A → Data) (nodes : List A) (i : ℕ) (d : A) (e : List ℕ) (so_far : List TreeGroup) (groups : Groups) →
    i < length nodes → Each (IsGroup frame splits way) (map view (take i nodes)) so_far → group_columns (groups_of so_far) ≡ take i (group_columns groups) → AreGroups frame splits way (map view nodes) groups →
    ((tree : Tree) → Describes frame splits way (get_or (group_columns groups) i e) (codes "of") (view (get_or nodes i d)) tree → IsFirstInexact frame rule (row_splits way tree)) →
    IsFirstInexact frame rule (splits_of_groups way groups)
cols_inexact law frame splits way rule view [] i d e so_far groups inside each columns are first = absurd (omega arith)
cols_inexact law frame splits way rule view (node ∷ nodes) zero d e [] NoGroup inside each columns are first = absurd are
cols_inexact law frame splits way rule view (node ∷ nodes) zero d e [] (Group own tree rest) inside each columns are first =
    first_before (ShowsCell frame rule) (IsExactSplit (kinds_in frame)) (row_splits way tree) (splits_of_groups way rest) (first tree are.0)
cols_inexact law frame splits way rule view (node ∷ nodes) zero d e (group ∷ so_far) groups inside each columns are first = absurd each
cols_inexact law frame splits way rule view (node ∷ nodes) (suc i) d e [] groups inside each columns are first = absurd each
cols_inexact law frame splits way rule view (node ∷ nodes) (suc i) d e (group ∷ so_far) NoGroup inside each columns are first = absurd are
cols_inexact law frame splits way rule view (node ∷ nodes) (suc i) d e (group ∷ so_far) (Group own tree rest) inside each columns are first =
    let heads = first_same group.columns own (group_columns (groups_of so_far)) (take i (group_columns rest)) columns in
    let P : List ℕ → Type 0 = λ cs. Describes frame splits way cs (codes "of") (view node) group.tree × IsValidWithin (kinds_in frame) way cs group.tree in
    let both = subst P heads.0 each.0 in
    let same : group.tree ≡ tree = one_tree law frame splits way own (codes "of") (view node) group.tree tree both.0 are.0 in
    let Q : Tree → Type 0 = λ t. IsValidWithin (kinds_in frame) way own t in
    first_behind (ShowsCell frame rule) (IsExactSplit (kinds_in frame)) (row_splits way tree) (splits_of_groups way rest) (all_exact (kinds_in frame) way own tree (subst Q same both.1))
    (cols_inexact law frame splits way rule view nodes i d e so_far rest (omega arith) each.1 heads.1 are.1 first)

pub groups_refused : {A : Type 0} → OneListOfCondsOfText → (frame : Frame) (splits : ℕ) (way : List Cond) (view : A → Data) (nodes : List A) (i : ℕ) (d x : A) (order : List ℕ → List ℕ) (named : List (List ℕ)) (e c : List ℕ) (so_far : List TreeGroup) (before now : ℕ) (rule : Rule) →
    x ≡ get_or nodes i d → c ≡ get_or (map order named) i e → i < length nodes → Each (IsGroup frame splits way) (map view (take i nodes)) so_far → group_columns (groups_of so_far) ≡ take i (map order named) →
    now ≡ before + length (paths_by_cols [] (groups_of so_far)) → Refuses frame splits way c (codes "of") (view x) now rule →
    RefusesGroups frame splits way (map view nodes) (map order named) before rule
groups_refused {A} law frame splits way view nodes i d x order named e c so_far before now rule is here inside each taken count =
    refuses_map
    ((tree : Tree) → Describes frame splits way c (codes "of") (view x) tree → IsFirstInexact frame rule (row_splits way tree))
    ((groups : Groups) → group_columns groups ≡ map order named → AreGroups frame splits way (map view nodes) groups → IsFirstInexact frame rule (splits_of_groups way groups))
    (NoneIsDescribed frame splits way c (codes "of") (view x) now)
    ((groups : Groups) → group_columns groups ≡ map order named → AreGroups frame splits way (map view nodes) groups → before + length (paths_by_cols [] groups) ≤ 32 → ⊥)
    rule
    (λ first groups all are.
    let P : A → List ℕ → Type 0 = λ y own. (tree : Tree) → Describes frame splits way own (codes "of") (view y) tree → IsFirstInexact frame rule (row_splits way tree) in
    let own : c ≡ get_or (group_columns groups) i e = here ∙ ap (λ (some : List (List ℕ)). get_or some i e) (sym all) in
    let Q : A → Type 0 = λ y. P y c in
    let R : List ℕ → Type 0 = P (get_or nodes i d) in
    cols_inexact law frame splits way rule view nodes i d e so_far groups inside each (taken ∙ ap (take i) (sym all)) are (subst R own (subst Q is first)))
    (λ none groups all are few.
    let at = col_at frame splits way view nodes i d x order named e c so_far groups is here inside each all are in
    let most = at.counted in
    none at.tree at.described (omega (arith, count, most, few)))

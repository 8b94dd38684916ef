-- The paths of a split are those of each branch, or of each group, in turn.
use Rattle.std.proofs.Common.{◌≡◌, ◌<◌, ◌+◌, ◌-◌, ℕ, zero, suc, List, [], ◌∷◌, ◌++◌, map, flat_map, take, drop, get_or, length, refl, sym, ap, ap₂, ◌∙◌, arith, drop-cons, length-drop}
use Rattle.std.proofs.lemmas.List.{append_assoc, get_or_default, map-append, take_more, length-map}
use Rattle.catalog.specs.declared.path.Path.{Path}
use Rattle.catalog.specs.declared.path.Step.{Step}
use Rattle.catalog.specs.declared.path.Step.TheVariants.{Row, Col}
use Rattle.catalog.specs.Path.{behind, through, column_step, group_columns, paths, paths_by_rows, paths_by_cols}
use Rattle.catalog.proofs.Below.{all_taken}
use Rattle.catalog.specs.Split.{Tree, ByRows, ByCols, TreeBranch, TreeGroup, branches_of, groups_of}

-- nothing leads to the root
pub behind_none : (ps : List Path) → map (behind []) ps ≡ ps
behind_none [] = refl
behind_none (path ∷ ps) = ap (λ (others : List Path). path ∷ others) (behind_none ps)

-- a step more before a path is one more behind those that lead there
behind_step : (above : List Step) (step : Step) (ps : List Path) → map (behind above) (map (through step) ps) ≡ map (behind (above ++ step ∷ [])) ps
behind_step above step [] = refl
behind_step above step (path ∷ ps) =
    let at : List Step → Path = λ steps. record { steps = steps; site = path.site } in
    ap₂ (λ (one : Path) (others : List Path). one ∷ others) (ap at (sym (append_assoc above (step ∷ []) path.steps))) (behind_step above step ps)

rows_behind : (above : List Step) (branches : List TreeBranch) →
    map (behind above) (paths_by_rows (branches_of branches)) ≡ flat_map (λ branch. map (behind (above ++ Row branch.conds ∷ [])) (paths branch.tree)) branches
rows_behind above [] = refl
rows_behind above (branch ∷ branches) =
    map-append (behind above) (map (through (Row branch.conds)) (paths branch.tree)) (paths_by_rows (branches_of branches))
    ∙ ap₂ (λ (one others : List Path). one ++ others) (behind_step above (Row branch.conds) (paths branch.tree)) (rows_behind above branches)

-- the paths of a tree from those of its branches, or its groups

pub rows_listed : (above : List Step) (tree : Tree) (branches seen : List TreeBranch) → tree ≡ ByRows (branches_of branches) → seen ≡ branches →
    flat_map (λ branch. map (behind (above ++ Row branch.conds ∷ [])) (paths branch.tree)) seen ≡ map (behind above) (paths tree)
rows_listed above tree branches seen is same =
    ap (flat_map (λ (branch : TreeBranch). map (behind (above ++ Row branch.conds ∷ [])) (paths branch.tree))) same
    ∙ sym (rows_behind above branches)
    ∙ ap (λ (t : Tree). map (behind above) (paths t)) (sym is)

pub cols_listed : (above : List Step) (tree : Tree) (groups seen : List TreeGroup) → tree ≡ ByCols (groups_of groups) → seen ≡ groups →
    map (behind above) (paths_by_cols [] (groups_of seen)) ≡ map (behind above) (paths tree)
cols_listed above tree groups seen is same =
    ap (λ (gs : List TreeGroup). map (behind above) (paths_by_cols [] (groups_of gs))) same ∙ ap (λ (t : Tree). map (behind above) (paths t)) (sym is)

-- the columns of groups
abbrev pub columns_of : List TreeGroup → List (List ℕ)
columns_of groups = map (λ group. group.columns) groups

columns_same : (groups : List TreeGroup) → group_columns (groups_of groups) ≡ columns_of groups
columns_same [] = refl
columns_same (group ∷ groups) = ap (λ (others : List (List ℕ)). group.columns ∷ others) (columns_same groups)

-- the paths of the groups from a place on
abbrev pub paths_from : List Step → ℕ → List TreeGroup → List Path
paths_from above place groups = map (behind above) (paths_by_cols (take place (columns_of groups)) (groups_of (drop place groups)))

-- the paths of the group at a place stand first among them
pub group_next : (above : List Step) (place : ℕ) (groups : List TreeGroup) (d : TreeGroup) → place < length groups →
    paths_from above place groups ≡ map (behind (above ++ column_step place (columns_of groups) ∷ [])) (paths (get_or groups place d).tree) ++ paths_from above (place + 1) groups
group_next above place groups d within =
    let group = get_or groups place d in
    let columns = columns_of groups in
    let here : drop place groups ≡ group ∷ drop (suc place) groups = drop-cons groups place d within in
    let after : group_columns (groups_of (drop (suc place) groups)) ≡ drop (suc place) columns = columns_same (drop (suc place) groups) ∙ sym (drop-map (suc place) groups) in
    let own : group.columns ≡ get_or columns place [] = sym (get_or-map place groups d within) in
    let more : take (place + 1) columns ≡ take place columns ++ get_or columns place [] ∷ [] = take_more columns place [] (omega (arith, within, length-map groups (λ (g : TreeGroup). g.columns))) in
    let on : place + 1 ≡ suc place = omega arith in
    ap (λ (gs : List TreeGroup). map (behind above) (paths_by_cols (take place columns) (groups_of gs))) here
    ∙ map-append (behind above) (map (through (Col group.columns (take place columns) (group_columns (groups_of (drop (suc place) groups))))) (paths group.tree)) (paths_by_cols (take place columns ++ group.columns ∷ []) (groups_of (drop (suc place) groups)))
    ∙ ap₂ (λ (one others : List Path). one ++ others)
    (behind_step above (Col group.columns (take place columns) (group_columns (groups_of (drop (suc place) groups)))) (paths group.tree)
    ∙ ap₂ (λ (g : List ℕ) (gs : List (List ℕ)). map (behind (above ++ Col g (take place columns) gs ∷ [])) (paths group.tree)) own after)
    (ap₂ (λ (before : List (List ℕ)) (gs : List TreeGroup). map (behind above) (paths_by_cols before (groups_of gs)))
    (ap (λ (g : List ℕ). take place columns ++ g ∷ []) own ∙ sym more) (ap (λ (n : ℕ). drop n groups) (sym on)))
  where
    drop-map : (n : ℕ) (gs : List TreeGroup) → drop n (columns_of gs) ≡ columns_of (drop n gs)
    drop-map zero gs = refl
    drop-map (suc n) [] = refl
    drop-map (suc n) (g ∷ gs) = drop-map n gs

    get_or-map : (n : ℕ) (gs : List TreeGroup) (e : TreeGroup) → n < length gs → get_or (columns_of gs) n [] ≡ (get_or gs n e).columns
    get_or-map n [] e lt = absurd (omega arith)
    get_or-map zero (g ∷ gs) e lt = refl
    get_or-map (suc n) (g ∷ gs) e lt = get_or-map n gs e (omega arith)

-- a loop that puts the paths of the group at a place behind others goes on to the next
pub groups_step : (before new initial : List Path) (above longer : List Step) (place : ℕ) (groups : List TreeGroup) (group : TreeGroup) → place < length groups → group ≡ get_or groups place group →
    before ++ paths_from above place groups ≡ initial → longer ≡ above ++ column_step place (columns_of groups) ∷ [] → new ≡ before ++ map (behind longer) (paths group.tree) →
    new ++ paths_from above (place + 1) groups ≡ initial
groups_step before new initial above longer place groups group within here so_far long is =
    let rest = paths_from above (place + 1) groups in
    let same : map (behind longer) (paths group.tree) ≡ map (behind (above ++ column_step place (columns_of groups) ∷ [])) (paths (get_or groups place group).tree) =
    ap₂ (λ (steps : List Step) (g : TreeGroup). map (behind steps) (paths g.tree)) long here in
    ap (λ (ps : List Path). ps ++ rest) (is ∙ ap (λ (ps : List Path). before ++ ps) same)
    ∙ append_assoc before (map (behind (above ++ column_step place (columns_of groups) ∷ [])) (paths (get_or groups place group).tree)) rest
    ∙ ap (λ (ps : List Path). before ++ ps) (sym (group_next above place groups group within))
    ∙ so_far

-- the step into the group at a place, as the code takes its parts
pub step_is : (groups : List (List ℕ)) (place : ℕ) (d group : List ℕ) (before after : List (List ℕ)) → place < length groups → group ≡ get_or groups place d → before ≡ take place groups →
    after ≡ take (length groups - (place + 1)) (drop (place + 1) groups) → Col group before after ≡ column_step place groups
step_is groups place d group before after within here front back =
    let own : get_or groups place d ≡ get_or groups place [] = get_or_default groups place d [] within in
    let left : length (drop (place + 1) groups) ≡ length groups - (place + 1) = length-drop (place + 1) groups in
    let all : take (length groups - (place + 1)) (drop (place + 1) groups) ≡ drop (place + 1) groups = all_taken (drop (place + 1) groups) (length groups - (place + 1)) (omega (arith, left)) in
    let on : place + 1 ≡ suc place = omega arith in
    ap₂ (λ (g : List ℕ) (gs : List (List ℕ)). Col g gs after) (here ∙ own) front
    ∙ ap (λ (gs : List (List ℕ)). Col (get_or groups place []) (take place groups) gs) (back ∙ all ∙ ap (λ (n : ℕ). drop n groups) on)

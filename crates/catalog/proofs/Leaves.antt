-- How many leaves the trees that a node describes have: as many the one as the other.
use Rattle.std.proofs.Common.{◌≡◌, ◌+◌, ℕ, zero, suc, List, [], ◌∷◌, ◌++◌, length, map, refl, sym, ap, ap₂, ◌∙◌, subst, length-append, arith}
use Rattle.std.proofs.lemmas.List.{length-map}
use Rattle.std.specs.Prelude.{codes}
use Rattle.toml.specs.Data.{Data}
use Rattle.terms.specs.declared.cond.Cond.{Cond}
use Rattle.catalog.specs.Describes.{Frame, Describes, AreBranches, AreGroups}
use Rattle.catalog.specs.Node.{Form, AtSite, SplitByRows, SplitByCols, form_of}
use Rattle.catalog.specs.declared.path.Step.TheVariants.{Row, Col}
use Rattle.catalog.specs.Path.{through, group_columns, paths, paths_by_rows, paths_by_cols}
use Rattle.catalog.specs.Split.{Tree, Site, ByRows, ByCols, Branches, NoBranch, Branch, Groups, NoGroup, Group, TreeBranch, TreeGroup, branches_of, groups_of}

-- the leaves of the first branch, and of those behind it
pub rows_first : (conds : List Cond) (tree : Tree) (rest : Branches) → length (paths_by_rows (Branch conds tree rest)) ≡ length (paths tree) + length (paths_by_rows rest)
rows_first conds tree rest =
    length-append (map (through (Row conds)) (paths tree)) (paths_by_rows rest)
    ∙ ap (λ (n : ℕ). n + length (paths_by_rows rest)) (length-map (paths tree) (through (Row conds)))

pub cols_first : (before : List (List ℕ)) (columns : List ℕ) (tree : Tree) (rest : Groups) →
    length (paths_by_cols before (Group columns tree rest)) ≡ length (paths tree) + length (paths_by_cols (before ++ columns ∷ []) rest)
cols_first before columns tree rest =
    length-append (map (through (Col columns before (group_columns rest))) (paths tree)) (paths_by_cols (before ++ columns ∷ []) rest)
    ∙ ap (λ (n : ℕ). n + length (paths_by_cols (before ++ columns ∷ []) rest)) (length-map (paths tree) (through (Col columns before (group_columns rest))))

-- the leaves of one branch more, and of one group more
pub rows_last : (branches : List TreeBranch) (last : TreeBranch) →
    length (paths_by_rows (branches_of (branches ++ last ∷ []))) ≡ length (paths_by_rows (branches_of branches)) + length (paths last.tree)
rows_last [] last = let first : length (paths_by_rows (Branch last.conds last.tree NoBranch)) ≡ length (paths last.tree) + 0 = rows_first last.conds last.tree NoBranch in omega (arith, first)
rows_last (branch ∷ branches) last =
    let one = rows_first branch.conds branch.tree (branches_of (branches ++ last ∷ [])) in
    let other = rows_first branch.conds branch.tree (branches_of branches) in
    let more = rows_last branches last in
    omega (arith, one, other, more)

pub cols_last : (before : List (List ℕ)) (groups : List TreeGroup) (last : TreeGroup) →
    length (paths_by_cols before (groups_of (groups ++ last ∷ []))) ≡ length (paths_by_cols before (groups_of groups)) + length (paths last.tree)
cols_last before [] last = let first : length (paths_by_cols before (Group last.columns last.tree NoGroup)) ≡ length (paths last.tree) + 0 = cols_first before last.columns last.tree NoGroup in omega (arith, first)
cols_last before (group ∷ groups) last =
    let one = cols_first before group.columns group.tree (groups_of (groups ++ last ∷ [])) in
    let other = cols_first before group.columns group.tree (groups_of groups) in
    let more = cols_last (before ++ group.columns ∷ []) groups last in
    omega (arith, one, other, more)

pub site_rows : (form : Form) (name : List ℕ) (nodes : List Data) → form ≡ AtSite name → form ≡ SplitByRows nodes → ⊥
site_rows form name nodes one other = let both : AtSite name ≡ SplitByRows nodes = sym one ∙ other in cc

pub site_cols : (form : Form) (name : List ℕ) (nodes : List Data) → form ≡ AtSite name → form ≡ SplitByCols nodes → ⊥
site_cols form name nodes one other = let both : AtSite name ≡ SplitByCols nodes = sym one ∙ other in cc

pub rows_cols : (form : Form) (nodes more : List Data) → form ≡ SplitByRows nodes → form ≡ SplitByCols more → ⊥
rows_cols form nodes more one other = let both : SplitByRows nodes ≡ SplitByCols more = sym one ∙ other in cc

pub one_rows : (form : Form) (nodes more : List Data) → form ≡ SplitByRows nodes → form ≡ SplitByRows more → nodes ≡ more
one_rows form nodes more one other = let both : SplitByRows nodes ≡ SplitByRows more = sym one ∙ other in cc

pub one_cols : (form : Form) (nodes more : List Data) → form ≡ SplitByCols nodes → form ≡ SplitByCols more → nodes ≡ more
one_cols form nodes more one other = let both : SplitByCols nodes ≡ SplitByCols more = sym one ∙ other in cc

-- as many leaves, whatever the conditions and the columns around the node are
mutual
  pub one_count : (frame : Frame) (splits : ℕ) (way road : List Cond) (within among : List ℕ) (beside : List ℕ) (node : Data) (tree other : Tree) →
      Describes frame splits way within beside node tree → Describes frame splits road among beside node other → length (paths tree) ≡ length (paths other)
  one_count frame splits way road within among beside node (Site a) (Site b) one two = refl
  one_count frame zero way road within among beside node (Site a) (ByRows bs) one two = absurd two
  one_count frame zero way road within among beside node (Site a) (ByCols bs) one two = absurd two
  one_count frame zero way road within among beside node (ByRows bs) other one two = absurd one
  one_count frame zero way road within among beside node (ByCols bs) other one two = absurd one
  one_count frame (suc splits) way road within among beside node (Site a) (ByRows bs) one two = absurd (site_rows (form_of beside node) one.0 two.0 one.1 two.1)
  one_count frame (suc splits) way road within among beside node (Site a) (ByCols bs) one two = absurd (site_cols (form_of beside node) one.0 two.0 one.1 two.1)
  one_count frame (suc splits) way road within among beside node (ByRows bs) (Site b) one two = absurd (site_rows (form_of beside node) two.0 one.0 two.1 one.1)
  one_count frame (suc splits) way road within among beside node (ByRows bs) (ByRows cs) one two =
      let same : two.0 ≡ one.0 = one_rows (form_of beside node) two.0 one.0 two.1 one.1 in
      let P : List Data → Type 0 = λ nodes. AreBranches frame splits road among nodes cs in
      one_count_rows frame splits way road within among one.0 bs cs one.4 (subst P same two.4)
  one_count frame (suc splits) way road within among beside node (ByRows bs) (ByCols cs) one two = absurd (rows_cols (form_of beside node) one.0 two.0 one.1 two.1)
  one_count frame (suc splits) way road within among beside node (ByCols bs) (Site b) one two = absurd (site_cols (form_of beside node) two.0 one.0 two.1 one.1)
  one_count frame (suc splits) way road within among beside node (ByCols bs) (ByRows cs) one two = absurd (rows_cols (form_of beside node) two.0 one.0 two.1 one.1)
  one_count frame (suc splits) way road within among beside node (ByCols bs) (ByCols cs) one two =
      let same : two.0 ≡ one.0 = one_cols (form_of beside node) two.0 one.0 two.1 one.1 in
      let P : List Data → Type 0 = λ nodes. AreGroups frame splits road nodes cs in
      one_count_cols frame splits way road [] [] one.0 bs cs one.5 (subst P same two.5)

  one_count_rows : (frame : Frame) (splits : ℕ) (way road : List Cond) (within among : List ℕ) (nodes : List Data) (branches others : Branches) →
      AreBranches frame splits way within nodes branches → AreBranches frame splits road among nodes others → length (paths_by_rows branches) ≡ length (paths_by_rows others)
  one_count_rows frame splits way road within among [] NoBranch NoBranch one two = refl
  one_count_rows frame splits way road within among [] NoBranch (Branch d u others) one two = absurd two
  one_count_rows frame splits way road within among [] (Branch c t branches) others one two = absurd one
  one_count_rows frame splits way road within among (node ∷ nodes) NoBranch others one two = absurd one
  one_count_rows frame splits way road within among (node ∷ nodes) (Branch c t branches) NoBranch one two = absurd two
  one_count_rows frame splits way road within among (node ∷ nodes) (Branch c t branches) (Branch d u others) one two =
      rows_first c t branches
      ∙ ap₂ (λ (m n : ℕ). m + n) (one_count frame splits (way ++ c) (road ++ d) within among (codes "where") node t u one.0 two.0)
      (one_count_rows frame splits way road within among nodes branches others one.1 two.1)
      ∙ sym (rows_first d u others)

  one_count_cols : (frame : Frame) (splits : ℕ) (way road : List Cond) (before front : List (List ℕ)) (nodes : List Data) (groups others : Groups) →
      AreGroups frame splits way nodes groups → AreGroups frame splits road nodes others → length (paths_by_cols before groups) ≡ length (paths_by_cols front others)
  one_count_cols frame splits way road before front [] NoGroup NoGroup one two = refl
  one_count_cols frame splits way road before front [] NoGroup (Group d u others) one two = absurd two
  one_count_cols frame splits way road before front [] (Group c t groups) others one two = absurd one
  one_count_cols frame splits way road before front (node ∷ nodes) NoGroup others one two = absurd one
  one_count_cols frame splits way road before front (node ∷ nodes) (Group c t groups) NoGroup one two = absurd two
  one_count_cols frame splits way road before front (node ∷ nodes) (Group c t groups) (Group d u others) one two =
      cols_first before c t groups
      ∙ ap₂ (λ (m n : ℕ). m + n) (one_count frame splits way road c d (codes "of") node t u one.0 two.0)
      (one_count_cols frame splits way road (before ++ c ∷ []) (front ++ d ∷ []) nodes groups others one.1 two.1)
      ∙ sym (cols_first front d u others)

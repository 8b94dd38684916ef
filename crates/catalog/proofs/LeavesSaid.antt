-- How many leaves a node says: as many as the tree has that it describes.
use Rattle.std.proofs.Common.{◌≡◌, ◌+◌, ℕ, zero, suc, List, [], ◌∷◌, ◌++◌, length, refl, sym, ap, ap₂, ◌∙◌}
use Rattle.std.specs.Prelude.{codes}
use Rattle.toml.specs.Data.{Data}
use Rattle.terms.specs.declared.cond.Cond.{Cond}
use Rattle.catalog.specs.Describes.{Frame, Describes, AreBranches, AreGroups}
use Rattle.catalog.specs.Node.{form_of}
use Rattle.catalog.specs.NodeBreaks.{leaves_said, leaves_of_all}
use Rattle.catalog.specs.Path.{paths, paths_by_rows, paths_by_cols}
use Rattle.catalog.specs.Split.{Tree, Site, ByRows, ByCols, Branches, NoBranch, Branch, Groups, NoGroup, Group}
use Rattle.catalog.proofs.Leaves.{rows_first, cols_first}

mutual
  pub tree_leaves : (frame : Frame) (splits : ℕ) (way : List Cond) (within beside : List ℕ) (node : Data) (tree : Tree) →
      Describes frame splits way within beside node tree → length (paths tree) ≡ leaves_said splits (form_of beside node)
  tree_leaves frame splits way within beside node (Site site) described = ap (leaves_said splits) (sym described.1)
  tree_leaves frame zero way within beside node (ByRows branches) described = absurd described
  tree_leaves frame zero way within beside node (ByCols groups) described = absurd described
  tree_leaves frame (suc splits) way within beside node (ByRows branches) described =
      branch_leaves frame splits way within described.0 branches described.4 ∙ ap (leaves_said (suc splits)) (sym described.1)
  tree_leaves frame (suc splits) way within beside node (ByCols groups) described =
      group_leaves frame splits way [] described.0 groups described.5 ∙ ap (leaves_said (suc splits)) (sym described.1)

  pub branch_leaves : (frame : Frame) (splits : ℕ) (way : List Cond) (within : List ℕ) (nodes : List Data) (branches : Branches) →
      AreBranches frame splits way within nodes branches → length (paths_by_rows branches) ≡ leaves_of_all splits (codes "where") nodes
  branch_leaves frame splits way within [] NoBranch are = refl
  branch_leaves frame splits way within [] (Branch conds tree rest) are = absurd are
  branch_leaves frame splits way within (node ∷ nodes) NoBranch are = absurd are
  branch_leaves frame splits way within (node ∷ nodes) (Branch conds tree rest) are =
      rows_first conds tree rest
      ∙ ap₂ (λ (m n : ℕ). m + n) (tree_leaves frame splits (way ++ conds) within (codes "where") node tree are.0) (branch_leaves frame splits way within nodes rest are.1)

  pub group_leaves : (frame : Frame) (splits : ℕ) (way : List Cond) (before : List (List ℕ)) (nodes : List Data) (groups : Groups) →
      AreGroups frame splits way nodes groups → length (paths_by_cols before groups) ≡ leaves_of_all splits (codes "of") nodes
  group_leaves frame splits way before [] NoGroup are = refl
  group_leaves frame splits way before [] (Group columns tree rest) are = absurd are
  group_leaves frame splits way before (node ∷ nodes) NoGroup are = absurd are
  group_leaves frame splits way before (node ∷ nodes) (Group columns tree rest) are =
      cols_first before columns tree rest
      ∙ ap₂ (λ (m n : ℕ). m + n) (tree_leaves frame splits way columns (codes "of") node tree are.0) (group_leaves frame splits way (before ++ columns ∷ []) nodes rest are.1)

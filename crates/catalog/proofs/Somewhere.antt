-- The conditions of some leaf of a valid tree hold of a row.
use Rattle.std.proofs.Common.{◌≡◌, ◌≢◌, ℕ, Bool, true, false, ◌&&◌, ◌||◌, List, [], ◌∷◌, ◌++◌, map, refl, ap, ap₂, ◌∙◌}
use Rattle.std.specs.List.{list_any}
use Rattle.std.proofs.lemmas.List.Folds.{list_any-append}
use Rattle.terms.specs.declared.cond.Cond.{Cond}
use Rattle.terms.specs.declared.value.Kind.{Kind}
use Rattle.terms.specs.declared.value.Value.{Value}
use Rattle.terms.specs.Cond.{conds_hold}
use Rattle.terms.specs.Row.{FitsKinds}
use Rattle.catalog.specs.Split.{Tree, Site, ByRows, ByCols, Branches, NoBranch, Branch, Groups, NoGroup, Group}
use Rattle.catalog.specs.declared.path.Path.{Path}
use Rattle.catalog.specs.declared.path.Step.TheVariants.{Row, Col}
use Rattle.catalog.specs.Path.{through, branch_conds, group_columns, paths, paths_by_rows, paths_by_cols, path_conds}
use Rattle.catalog.specs.Valid.{IsValidWithin, AreValidBranches, AreValidGroups}
use Rattle.catalog.proofs.Counts.{any-map, any-from_one}
use Rattle.catalog.specs.Cover.{leads}
use Rattle.catalog.proofs.Exactly.{hold-append, hold_both}

-- of the ways below a branch, one leads to a row where the branch's conditions hold and one below leads to it
led_below : (conds : List Cond) (row : List Value) (below : List Path) → list_any (leads row) (map (through (Row conds)) below) ≡ (conds_hold conds row && list_any (leads row) below)
led_below conds row [] = elim (conds_hold conds row) as (λ b. false ≡ (b && false)) [ true ↦ refl | false ↦ refl ]
led_below conds row (path ∷ below) =
    let split = hold-append conds (path_conds path.steps) row in
    rw (split, led_below conds row below) (
    elim (conds_hold conds row) as (λ b. ((b && leads row path) || (b && list_any (leads row) below)) ≡ (b && list_any (leads row) (path ∷ below))) [
      | true ↦ refl
      | false ↦ refl
    ])

-- one more branch: where its conditions hold, some way below it leads to the row
one_branch : (holds below rest : Bool) → (holds ≡ true → below ≡ true) → ((holds && below) || rest) ≡ (holds || rest)
one_branch true below rest is = ap (λ b. b || rest) (is refl)
one_branch false below rest is = refl

mutual
  -- where the conditions on the way hold of a row, those of some leaf hold of it
  pub somewhere : (kinds : List Kind) (way : List Cond) (columns : List ℕ) (tree : Tree) (row : List Value) → IsValidWithin kinds way columns tree → FitsKinds kinds row → conds_hold way row ≡ true → list_any (leads row) (paths tree) ≡ true
  somewhere kinds way columns (Site site) row valid fits holds = refl
  somewhere kinds way columns (ByRows branches) row valid fits holds =
      somewhere_by_rows kinds way columns branches row valid.1 fits holds ∙ any-from_one (λ conds. conds_hold conds row) (branch_conds branches) (valid.0 row fits holds)
  somewhere kinds way columns (ByCols groups) row valid fits holds =
      somewhere_by_cols kinds way groups row valid.0.some valid.1 fits holds

  -- the conditions of some leaf hold of a row where those of some branch do
  somewhere_by_rows : (kinds : List Kind) (way : List Cond) (columns : List ℕ) (branches : Branches) (row : List Value) → AreValidBranches kinds way columns branches → FitsKinds kinds row → conds_hold way row ≡ true →
      list_any (leads row) (paths_by_rows branches) ≡ list_any (λ conds. conds_hold conds row) (branch_conds branches)
  somewhere_by_rows kinds way columns NoBranch row valid fits holds = refl
  somewhere_by_rows kinds way columns (Branch conds tree rest) row valid fits holds =
      list_any-append (leads row) (map (through (Row conds)) (paths tree)) (paths_by_rows rest)
      ∙ ap₂ (λ a b. a || b) (led_below conds row (paths tree)) (somewhere_by_rows kinds way columns rest row valid.1 fits holds)
      ∙ one_branch (conds_hold conds row) (list_any (leads row) (paths tree)) (list_any (λ own. conds_hold own row) (branch_conds rest))
      (λ here. somewhere kinds (way ++ conds) columns tree row valid.0 fits (hold_both way conds row holds here))

  -- where there is a group, some leaf of the first will do
  somewhere_by_cols : (kinds : List Kind) (way : List Cond) (groups : Groups) (row : List Value) → group_columns groups ≢ [] → AreValidGroups kinds way groups → FitsKinds kinds row → conds_hold way row ≡ true →
      list_any (leads row) (paths_by_cols [] groups) ≡ true
  somewhere_by_cols kinds way NoGroup row some valid fits holds = absurd (some refl)
  somewhere_by_cols kinds way (Group group tree rest) row some valid fits holds =
      list_any-append (leads row) (map (through (Col group [] (group_columns rest))) (paths tree)) (paths_by_cols (group ∷ []) rest)
      ∙ ap (λ b. b || list_any (leads row) (paths_by_cols (group ∷ []) rest)) (any-map (leads row) (through (Col group [] (group_columns rest))) (paths tree) ∙ somewhere kinds way group tree row valid.0 fits holds)

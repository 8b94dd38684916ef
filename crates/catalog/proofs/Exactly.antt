-- Exactly one leaf of a valid tree has a row in a column.
use Rattle.std.proofs.Common.{◌≡◌, ℕ, suc, ◌+◌, Bool, true, false, cond, ◌&&◌, List, [], ◌∷◌, ◌++◌, map, refl, ap, ap₂, ◌∙◌, arith}
use Rattle.std.proofs.lemmas.List.Folds.{list_all-append}
use Rattle.terms.specs.declared.cond.Cond.{Cond}
use Rattle.terms.specs.declared.value.Kind.{Kind}
use Rattle.terms.specs.declared.value.Value.{Value}
use Rattle.terms.specs.Cond.{conds_hold, cond_holds}
use Rattle.terms.specs.Row.{FitsKinds}
use Rattle.catalog.specs.Counts.{how_many, has}
use Rattle.catalog.specs.Split.{Tree, Site, ByRows, ByCols, Branches, NoBranch, Branch, Groups, NoGroup, Group}
use Rattle.catalog.specs.declared.path.Path.{Path}
use Rattle.catalog.specs.declared.path.Step.TheVariants.{Row, Col}
use Rattle.catalog.specs.Path.{through, branch_conds, group_columns, paths, paths_by_rows, paths_by_cols, path_conds, path_columns}
use Rattle.catalog.specs.Valid.{IsValidWithin, AreValidBranches, AreValidGroups}
use Rattle.catalog.specs.Cover.{leads, covers}
use Rattle.catalog.proofs.Counts.{how_many-append, how_many-map}

pub hold-append : (conds more : List Cond) (row : List Value) → conds_hold (conds ++ more) row ≡ (conds_hold conds row && conds_hold more row)
hold-append conds more row = list_all-append (λ cond. cond_holds cond row) conds more

-- the conditions on the way and a branch's hold together
pub hold_both : (way conds : List Cond) (row : List Value) → conds_hold way row ≡ true → conds_hold conds row ≡ true → conds_hold (way ++ conds) row ≡ true
hold_both way conds row one other = hold-append way conds row ∙ ap₂ (λ a b. a && b) one other

-- of the ways below a branch, those count that count there, where the branch's conditions hold
counted_below : (conds : List Cond) (row : List Value) (col : ℕ) (columns : List ℕ) (below : List Path) →
    how_many (covers row col columns) (map (through (Row conds)) below) ≡ cond (conds_hold conds row) (how_many (covers row col columns) below) 0
counted_below conds row col columns [] = elim (conds_hold conds row) as (λ b. ◌≡◌ {A = ℕ} 0 (cond b 0 0)) [ true ↦ refl | false ↦ refl ]
counted_below conds row col columns (path ∷ below) =
    let split = hold-append conds (path_conds path.steps) row in
    rw (split, counted_below conds row col columns below) (
    elim (conds_hold conds row) as (λ b. cond ((b && leads row path) && has (path_columns columns path.steps) col) (suc (cond b (how_many (covers row col columns) below) 0)) (cond b (how_many (covers row col columns) below) 0) ≡ cond b (how_many (covers row col columns) (path ∷ below)) 0) [
      | true ↦ refl
      | false ↦ refl
    ])

-- one more branch: where its conditions hold, the leaves below it count one for a column that there is
one_branch : (holds there : Bool) (count rest : ℕ) → (holds ≡ true → count ≡ cond there 1 0) → cond holds count 0 + cond there rest 0 ≡ cond there (cond holds (suc rest) rest) 0
one_branch true true count rest is = omega (arith, is refl)
one_branch true false count rest is = omega (arith, is refl)
one_branch false true count rest is = omega arith
one_branch false false count rest is = omega arith

-- one more group
one_group : (there : Bool) (count rest : ℕ) → count ≡ cond there 1 0 → count + rest ≡ cond there (suc rest) rest
one_group true count rest is = omega arith
one_group false count rest is = omega arith

mutual
  -- where the conditions on the way hold of a row, exactly one leaf has it in a column that there is, and none in another
  pub exactly : (kinds : List Kind) (way : List Cond) (columns : List ℕ) (tree : Tree) (row : List Value) (col : ℕ) → IsValidWithin kinds way columns tree → FitsKinds kinds row → conds_hold way row ≡ true →
      how_many (covers row col columns) (paths tree) ≡ cond (has columns col) 1 0
  exactly kinds way columns (Site site) row col valid fits holds = refl
  exactly kinds way columns (ByRows branches) row col valid fits holds =
      exactly_by_rows kinds way columns branches row col valid.1 fits holds ∙ ap (λ n. cond (has columns col) n 0) (valid.0 row fits holds)
  exactly kinds way columns (ByCols groups) row col valid fits holds =
      exactly_by_cols kinds way columns [] groups row col valid.1 fits holds ∙ valid.0.each_once col

  -- in a column that there is, as many leaves have the row as there are branches whose conditions hold
  exactly_by_rows : (kinds : List Kind) (way : List Cond) (columns : List ℕ) (branches : Branches) (row : List Value) (col : ℕ) → AreValidBranches kinds way columns branches → FitsKinds kinds row → conds_hold way row ≡ true →
      how_many (covers row col columns) (paths_by_rows branches) ≡ cond (has columns col) (how_many (λ conds. conds_hold conds row) (branch_conds branches)) 0
  exactly_by_rows kinds way columns NoBranch row col valid fits holds = elim (has columns col) as (λ b. ◌≡◌ {A = ℕ} 0 (cond b 0 0)) [ true ↦ refl | false ↦ refl ]
  exactly_by_rows kinds way columns (Branch conds tree rest) row col valid fits holds =
      how_many-append (covers row col columns) (map (through (Row conds)) (paths tree)) (paths_by_rows rest)
      ∙ ap₂ (λ m n. m + n) (counted_below conds row col columns (paths tree)) (exactly_by_rows kinds way columns rest row col valid.1 fits holds)
      ∙ one_branch (conds_hold conds row) (has columns col) (how_many (covers row col columns) (paths tree)) (how_many (λ own. conds_hold own row) (branch_conds rest))
      (λ here. exactly kinds (way ++ conds) columns tree row col valid.0 fits (hold_both way conds row holds here))

  -- as many leaves have the row in a column as there are groups that have the column
  exactly_by_cols : (kinds : List Kind) (way : List Cond) (columns : List ℕ) (before : List (List ℕ)) (groups : Groups) (row : List Value) (col : ℕ) → AreValidGroups kinds way groups → FitsKinds kinds row → conds_hold way row ≡ true →
      how_many (covers row col columns) (paths_by_cols before groups) ≡ how_many (λ group. has group col) (group_columns groups)
  exactly_by_cols kinds way columns before NoGroup row col valid fits holds = refl
  exactly_by_cols kinds way columns before (Group group tree rest) row col valid fits holds =
      how_many-append (covers row col columns) (map (through (Col group before (group_columns rest))) (paths tree)) (paths_by_cols (before ++ group ∷ []) rest)
      ∙ ap₂ (λ m n. m + n) (how_many-map (covers row col columns) (through (Col group before (group_columns rest))) (paths tree)) (exactly_by_cols kinds way columns (before ++ group ∷ []) rest row col valid.1 fits holds)
      ∙ one_group (has group col) (how_many (covers row col group) (paths tree)) (how_many (λ other. has other col) (group_columns rest)) (exactly kinds way group tree row col valid.0 fits holds)

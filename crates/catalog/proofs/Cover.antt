-- Wanted leaves cover a relation as all leaves do.
use Rattle.std.proofs.Common.{◌≡◌, ◌≢◌, ℕ, suc, zero, Bool, true, false, cond, ◌==◌, ◌&&◌, ◌||◌, not, List, [], ◌∷◌, ◌++◌, map, refl, ap, ap₂, sym, subst, ◌∙◌, arith}
use Rattle.std.specs.List.{AllByRecursion, list_any}
use Rattle.std.proofs.lemmas.Bool.{eqb-true}
use Rattle.std.proofs.lemmas.List.Folds.{list_any-append}
use Rattle.terms.specs.declared.cond.Cond.{Cond}
use Rattle.terms.specs.declared.value.Kind.{Kind}
use Rattle.terms.specs.declared.value.Value.{Value}
use Rattle.terms.specs.Cond.{conds_hold}
use Rattle.terms.specs.Row.{FitsKinds}
use Rattle.catalog.specs.declared.path.Path.{Path}
use Rattle.catalog.specs.declared.path.Step.TheVariants.{Row, Col}
use Rattle.catalog.specs.Counts.{how_many, has}
use Rattle.catalog.specs.Cover.{leads, covers, serves, SomeServes, OneServes, SomeServesBelow, OneServesBelow, NeededIsWanted}
use Rattle.catalog.specs.Path.{through, branch_conds, group_columns, columns_beside_key, path_conds, path_columns, paths, paths_by_rows, paths_by_cols, touches, some_touches, is_wanted, wanted}
use Rattle.catalog.specs.Split.{Tree, Site, ByRows, ByCols, Branches, NoBranch, Branch, Groups, NoGroup, Group}
use Rattle.catalog.specs.Valid.{IsValidWithin, AreValidBranches, AreValidGroups}
use Rattle.catalog.proofs.Columns.{has-beside_key}
use Rattle.catalog.proofs.Counts.{any-from_one}
use Rattle.catalog.proofs.Exactly.{exactly, hold-append, hold_both}
use Rattle.catalog.proofs.FormedTrees.{all_both}

-- ---- a leaf that has a needed column is wanted

-- where a group has a needed column, it is touched
touched : (needed group : List ℕ) (col : ℕ) → has needed col ≡ true → has group col ≡ true → touches needed group ≡ true
touched needed [] col is there = absurd (let no = there in cc)
touched needed (first ∷ group) col is there =
    elim (first == col) as (λ b. (first == col) ≡ b → (b || has group col) ≡ true → (has needed first || touches needed group) ≡ true) [
      | true ↦ λ same later. let P : ℕ → Type 0 = λ c. (has needed c || touches needed group) ≡ true in subst P (sym (eqb-true first col same)) (ap (λ b. b || touches needed group) is)
      | false ↦ λ other later. or_second (has needed first) (touches needed group) (touched needed group col is later)
    ] refl there
  where
    or_second : (a b : Bool) → b ≡ true → (a || b) ≡ true
    or_second true b h = refl
    or_second false b h = h

-- a step into a touched group is wanted
pub into_touched : (needed group : List ℕ) (before after : List (List ℕ)) → touches needed group ≡ true → is_wanted needed (Col group before after) ≡ true
into_touched needed group [] after is = ap (λ b. b || not (some_touches needed after)) is
into_touched needed group (first ∷ before) after is = is

-- where none counts, none passes
none_of : {A : Type 0} (passes : A → Bool) (xs : List A) → how_many passes xs ≡ 0 → AllByRecursion (λ x. passes x ≡ true → ⊥) xs
none_of passes [] none = tt
none_of passes (x ∷ xs) none =
    elim (passes x) as (λ b. cond b (suc (how_many passes xs)) (how_many passes xs) ≡ 0 → (b ≡ true → ⊥) × AllByRecursion (λ y. passes y ≡ true → ⊥) xs) [
      | true ↦ λ some. absurd (omega (arith, some))
      | false ↦ λ rest. (λ is. cc, none_of passes xs rest)
    ] none

-- a column that a group of a split has is among those around the split
among : (columns : List ℕ) (groups : List (List ℕ)) (col : ℕ) (there : Bool) → how_many (λ group. has group col) groups ≡ cond there 1 0 → AllByRecursion (λ group. has group col ≡ true → there ≡ true) groups
among columns groups col true once = each groups
  where
    each : (gs : List (List ℕ)) → AllByRecursion (λ group. has group col ≡ true → true ≡ true) gs
    each [] = tt
    each (g ∷ gs) = (λ is. refl, each gs)
among columns groups col false none = each groups (none_of (λ group. has group col) groups none)
  where
    each : (gs : List (List ℕ)) → AllByRecursion (λ group. has group col ≡ true → ⊥) gs → AllByRecursion (λ group. has group col ≡ true → false ≡ true) gs
    each [] not_there = tt
    each (g ∷ gs) not_there = (λ is. absurd (not_there.0 is), each gs not_there.1)

-- a path's leaf has a needed column only if the columns around have it and the path is wanted
abbrev Keeps : List ℕ → ℕ → List ℕ → Path → Type 0
Keeps needed col columns path = has (path_columns columns path.steps) col ≡ true → (has columns col ≡ true) × (wanted needed path.steps ≡ true)

keeps_branch : (needed : List ℕ) (col : ℕ) (columns : List ℕ) (conds : List Cond) (ps : List Path) → AllByRecursion (Keeps needed col columns) ps → AllByRecursion (Keeps needed col columns) (map (through (Row conds)) ps)
keeps_branch needed col columns conds [] keep = tt
keeps_branch needed col columns conds (path ∷ ps) keep = (keep.0, keeps_branch needed col columns conds ps keep.1)

keeps_group : (needed : List ℕ) (col : ℕ) (columns group : List ℕ) (before after : List (List ℕ)) (ps : List Path) → has needed col ≡ true → (has group col ≡ true → has columns col ≡ true) →
    AllByRecursion (Keeps needed col group) ps → AllByRecursion (Keeps needed col columns) (map (through (Col group before after)) ps)
keeps_group needed col columns group before after [] is within keep = tt
keeps_group needed col columns group before after (path ∷ ps) is within keep = (
  λ there. let both = keep.0 there in (within both.0, ap₂ (λ a b. a && b) (into_touched needed group before after (touched needed group col is both.0)) both.1),
  keeps_group needed col columns group before after ps is within keep.1,
)

mutual
  keeps : (kinds : List Kind) (way : List Cond) (columns : List ℕ) (tree : Tree) (needed : List ℕ) (col : ℕ) → IsValidWithin kinds way columns tree → has needed col ≡ true → AllByRecursion (Keeps needed col columns) (paths tree)
  keeps kinds way columns (Site site) needed col valid is = (λ there. (there, refl), tt)
  keeps kinds way columns (ByRows branches) needed col valid is = keeps_rows kinds way columns branches needed col valid.1 is
  keeps kinds way columns (ByCols groups) needed col valid is =
      keeps_cols kinds way columns [] groups needed col valid.1 is (among columns (group_columns groups) col (has columns col) (valid.0.each_once col))

  keeps_rows : (kinds : List Kind) (way : List Cond) (columns : List ℕ) (branches : Branches) (needed : List ℕ) (col : ℕ) → AreValidBranches kinds way columns branches → has needed col ≡ true →
      AllByRecursion (Keeps needed col columns) (paths_by_rows branches)
  keeps_rows kinds way columns NoBranch needed col valid is = tt
  keeps_rows kinds way columns (Branch conds tree rest) needed col valid is =
      all_both (Keeps needed col columns) (map (through (Row conds)) (paths tree)) (paths_by_rows rest)
      (keeps_branch needed col columns conds (paths tree) (keeps kinds (way ++ conds) columns tree needed col valid.0 is)) (keeps_rows kinds way columns rest needed col valid.1 is)

  keeps_cols : (kinds : List Kind) (way : List Cond) (columns : List ℕ) (before : List (List ℕ)) (groups : Groups) (needed : List ℕ) (col : ℕ) → AreValidGroups kinds way groups → has needed col ≡ true →
      AllByRecursion (λ group. has group col ≡ true → has columns col ≡ true) (group_columns groups) → AllByRecursion (Keeps needed col columns) (paths_by_cols before groups)
  keeps_cols kinds way columns before NoGroup needed col valid is within = tt
  keeps_cols kinds way columns before (Group group tree rest) needed col valid is within =
      all_both (Keeps needed col columns) (map (through (Col group before (group_columns rest))) (paths tree)) (paths_by_cols (before ++ group ∷ []) rest)
      (keeps_group needed col columns group before (group_columns rest) (paths tree) is within.0 (keeps kinds way group tree needed col valid.0 is))
      (keeps_cols kinds way columns (before ++ group ∷ []) rest needed col valid.1 is within.1)

wanted_of : (needed : List ℕ) (col : ℕ) (columns : List ℕ) (ps : List Path) → AllByRecursion (Keeps needed col columns) ps → AllByRecursion (λ path. has (path_columns columns path.steps) col ≡ true → wanted needed path.steps ≡ true) ps
wanted_of needed col columns [] keep = tt
wanted_of needed col columns (path ∷ ps) keep = (λ there. (keep.0 there).1, wanted_of needed col columns ps keep.1)

pub needed_is_wanted : NeededIsWanted
needed_is_wanted kinds way columns tree needed col valid is = wanted_of needed col columns (paths tree) (keeps kinds way columns tree needed col valid is)

-- ---- exactly one wanted leaf has a needed column

one_test : (led want there : Bool) → (there ≡ true → want ≡ true) → ((led && want) && there) ≡ (led && there)
one_test true want true is = ap (λ b. b && true) (is refl)
one_test true true false is = refl
one_test true false false is = refl
one_test false want there is = refl

counted_alike : (needed : List ℕ) (row : List Value) (col : ℕ) (columns : List ℕ) (ps : List Path) → AllByRecursion (Keeps needed col columns) ps →
    how_many (λ path. serves needed row path && has (path_columns columns path.steps) col) ps ≡ how_many (covers row col columns) ps
counted_alike needed row col columns [] keep = refl
counted_alike needed row col columns (path ∷ ps) keep =
    let same = one_test (leads row path) (wanted needed path.steps) (has (path_columns columns path.steps) col) (λ there. (keep.0 there).1) in
    ap₂ (λ (b : Bool) (n : ℕ). cond b (suc n) n) same (counted_alike needed row col columns ps keep.1)

pub one_serves_below : OneServesBelow
one_serves_below kinds way columns tree needed row col valid fits holds is =
    counted_alike needed row col columns (paths tree) (keeps kinds way columns tree needed col valid is) ∙ exactly kinds way columns tree row col valid fits holds

pub one_serves : OneServes
one_serves kinds tree needed row zero valid fits is other within = absurd (other refl)
one_serves kinds tree needed row (suc i) valid fits is other within =
    one_serves_below kinds [] (columns_beside_key kinds) tree needed row (suc i) valid fits refl is ∙ ap (λ b. cond b 1 0) (has-beside_key kinds i within)

-- ---- the conditions of some wanted leaf hold

-- of the paths below a branch one serves where the branch's conditions hold and one below serves
served_below : (needed : List ℕ) (conds : List Cond) (row : List Value) (ps : List Path) → list_any (serves needed row) (map (through (Row conds)) ps) ≡ (conds_hold conds row && list_any (serves needed row) ps)
served_below needed conds row [] = elim (conds_hold conds row) as (λ b. false ≡ (b && false)) [ true ↦ refl | false ↦ refl ]
served_below needed conds row (path ∷ ps) =
    let split = hold-append conds (path_conds path.steps) row in
    rw (split, served_below needed conds row ps) (
    elim (conds_hold conds row) as (λ b. (((b && leads row path) && wanted needed path.steps) || (b && list_any (serves needed row) ps)) ≡ (b && list_any (serves needed row) (path ∷ ps))) [
      | true ↦ refl
      | false ↦ refl
    ])

-- of the paths through a wanted group, those serve that serve below it
served_in : (needed group : List ℕ) (before after : List (List ℕ)) (row : List Value) (ps : List Path) → is_wanted needed (Col group before after) ≡ true →
    list_any (serves needed row) (map (through (Col group before after)) ps) ≡ list_any (serves needed row) ps
served_in needed group before after row [] is = refl
served_in needed group before after row (path ∷ ps) is =
    ap₂ (λ (a b : Bool). (leads row path && (a && wanted needed path.steps)) || b) is (served_in needed group before after row ps is)

one_branch : (holds below rest : Bool) → (holds ≡ true → below ≡ true) → ((holds && below) || rest) ≡ (holds || rest)
one_branch true below rest is = ap (λ b. b || rest) (is refl)
one_branch false below rest is = refl

or_back : (a b : Bool) → b ≡ true → (a || b) ≡ true
or_back true b h = refl
or_back false b h = h

-- the first group of a split of which no group is touched is wanted
into_first : (needed group : List ℕ) (after : List (List ℕ)) → some_touches needed (group ∷ after) ≡ false → is_wanted needed (Col group [] after) ≡ true
into_first needed group after none =
    elim (touches needed group) as (λ b. (b || some_touches needed after) ≡ false → (b || not (some_touches needed after)) ≡ true) [
      | true ↦ λ is. refl
      | false ↦ λ is. ap not is
    ] none

mutual
  pub some_serves_below : SomeServesBelow
  some_serves_below kinds way columns (Site site) needed row valid fits holds = refl
  some_serves_below kinds way columns (ByRows branches) needed row valid fits holds =
      some_by_rows kinds way columns branches needed row valid.1 fits holds ∙ any-from_one (λ conds. conds_hold conds row) (branch_conds branches) (valid.0 row fits holds)
  some_serves_below kinds way columns (ByCols groups) needed row valid fits holds =
      elim (some_touches needed (group_columns groups)) as (λ b. some_touches needed (group_columns groups) ≡ b → list_any (serves needed row) (paths_by_cols [] groups) ≡ true) [
        | true ↦ λ is. some_touched kinds way [] groups needed row valid.1 fits holds is
        | false ↦ λ none. some_first kinds way groups needed row valid.0.some valid.1 fits holds none
      ] refl

  some_by_rows : (kinds : List Kind) (way : List Cond) (columns : List ℕ) (branches : Branches) (needed : List ℕ) (row : List Value) → AreValidBranches kinds way columns branches → FitsKinds kinds row → conds_hold way row ≡ true →
      list_any (serves needed row) (paths_by_rows branches) ≡ list_any (λ conds. conds_hold conds row) (branch_conds branches)
  some_by_rows kinds way columns NoBranch needed row valid fits holds = refl
  some_by_rows kinds way columns (Branch conds tree rest) needed row valid fits holds =
      list_any-append (serves needed row) (map (through (Row conds)) (paths tree)) (paths_by_rows rest)
      ∙ ap₂ (λ a b. a || b) (served_below needed conds row (paths tree)) (some_by_rows kinds way columns rest needed row valid.1 fits holds)
      ∙ one_branch (conds_hold conds row) (list_any (serves needed row) (paths tree)) (list_any (λ own. conds_hold own row) (branch_conds rest))
      (λ here. some_serves_below kinds (way ++ conds) columns tree needed row valid.0 fits (hold_both way conds row holds here))

  -- some group is touched: the first that is
  some_touched : (kinds : List Kind) (way : List Cond) (before : List (List ℕ)) (groups : Groups) (needed : List ℕ) (row : List Value) → AreValidGroups kinds way groups → FitsKinds kinds row → conds_hold way row ≡ true →
      some_touches needed (group_columns groups) ≡ true → list_any (serves needed row) (paths_by_cols before groups) ≡ true
  some_touched kinds way before NoGroup needed row valid fits holds is = absurd (let no = is in cc)
  some_touched kinds way before (Group group tree rest) needed row valid fits holds is =
      list_any-append (serves needed row) (map (through (Col group before (group_columns rest))) (paths tree)) (paths_by_cols (before ++ group ∷ []) rest)
      ∙ elim (touches needed group) as (λ b. touches needed group ≡ b → (b || some_touches needed (group_columns rest)) ≡ true →
      (list_any (serves needed row) (map (through (Col group before (group_columns rest))) (paths tree)) || list_any (serves needed row) (paths_by_cols (before ++ group ∷ []) rest)) ≡ true) [
        | true ↦ λ here later. ap (λ b. b || list_any (serves needed row) (paths_by_cols (before ++ group ∷ []) rest))
            (served_in needed group before (group_columns rest) row (paths tree) (into_touched needed group before (group_columns rest) here) ∙ some_serves_below kinds way group tree needed row valid.0 fits holds)
        | false ↦ λ there later. or_back (list_any (serves needed row) (map (through (Col group before (group_columns rest))) (paths tree))) (list_any (serves needed row) (paths_by_cols (before ++ group ∷ []) rest))
            (some_touched kinds way (before ++ group ∷ []) rest needed row valid.1 fits holds later)
      ] refl is

  -- none is: the first
  some_first : (kinds : List Kind) (way : List Cond) (groups : Groups) (needed : List ℕ) (row : List Value) → group_columns groups ≢ [] → AreValidGroups kinds way groups → FitsKinds kinds row → conds_hold way row ≡ true →
      some_touches needed (group_columns groups) ≡ false → list_any (serves needed row) (paths_by_cols [] groups) ≡ true
  some_first kinds way NoGroup needed row some valid fits holds none = absurd (some refl)
  some_first kinds way (Group group tree rest) needed row some valid fits holds none =
      list_any-append (serves needed row) (map (through (Col group [] (group_columns rest))) (paths tree)) (paths_by_cols (group ∷ []) rest)
      ∙ ap (λ b. b || list_any (serves needed row) (paths_by_cols (group ∷ []) rest))
      (served_in needed group [] (group_columns rest) row (paths tree) (into_first needed group (group_columns rest) none) ∙ some_serves_below kinds way group tree needed row valid.0 fits holds)

pub some_serves : SomeServes
some_serves kinds tree needed row valid fits = some_serves_below kinds [] (columns_beside_key kinds) tree needed row valid fits refl

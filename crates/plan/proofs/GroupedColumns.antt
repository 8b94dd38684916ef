-- Plans of groups of columns are plans of the columns.
use Rattle.std.proofs.Common.{◌≡◌, ◌<◌, ◌≤◌, ℕ, suc, ◌==◌, Bool, true, false, not, ◌&&◌, cond, List, [], ◌∷◌, filter, length, ap, refl, sym, ◌∙◌, subst, arith}
use Rattle.std.proofs.lemmas.Bool.{and_parts, eqb-true}
use Rattle.std.specs.List.{list_all}
use Rattle.catalog.specs.declared.fragment_leaf.FragmentLeaf.{FragmentLeaf}
use Rattle.plan.specs.declared.need.Need.{Need}
use Rattle.plan.specs.Located.{AreGroups, IsByColumns, apart, covers, together, united}
use Rattle.plan.specs.Shape.{Shape, KeyJoin}

-- no column
pub no_columns : (need : Need) (leaves : List FragmentLeaf) (columns : List ℕ) (plan : Shape) → columns ≡ [] → united plan ≡ covers need [] leaves → IsByColumns need leaves columns plan
no_columns need leaves columns plan none is = ([], none, is)

-- one group
pub one_group : (need : Need) (leaves : List FragmentLeaf) (first : ℕ) (rest others : List ℕ) (plan : Shape) → others ≡ filter (apart need leaves first) rest → others ≡ [] → united plan ≡ covers need (first ∷ filter (together need leaves first) rest) leaves →
    IsByColumns need leaves (first ∷ rest) plan
one_group need leaves first rest others plan are none is = ((first ∷ filter (together need leaves first) rest) ∷ [], (first, rest, refl, refl, sym are ∙ none), is)

-- a group, and others behind it
pub more_groups : (need : Need) (leaves : List FragmentLeaf) (first : ℕ) (rest others : List ℕ) (one other : Shape) → others ≡ filter (apart need leaves first) rest → (others ≡ [] → ⊥) → united one ≡ covers need (first ∷ filter (together need leaves first) rest) leaves →
    IsByColumns need leaves others other → IsByColumns need leaves (first ∷ rest) (KeyJoin one other)
more_groups need leaves first rest others one other are some here ([], none, is) = absurd (some none)
more_groups need leaves first rest others one other are some here (next ∷ groups, groups_are, is) =
    let Groups : List ℕ → Type 0 = λ columns. AreGroups need leaves columns (next ∷ groups) in
    ((first ∷ filter (together need leaves first) rest) ∷ next ∷ groups, (first, rest, refl, refl, subst Groups are groups_are), (one, other, refl, here, is))

pub not_empty : (columns : List ℕ) → (length columns == 0) ≡ false → columns ≡ [] → ⊥
not_empty columns some none = let e : true ≡ false = sym (ap (λ (all : List ℕ). length all == 0) none) ∙ some in cc

pub empty_is : (columns : List ℕ) → (length columns == 0) ≡ true → columns ≡ []
empty_is [] none = refl
empty_is (col ∷ columns) none = absurd (let is : suc (length columns) ≡ 0 = eqb-true (suc (length columns)) 0 none in omega (arith, is))

-- those that pass are no more
no_more : (test : ℕ → Bool) (columns : List ℕ) → length (filter test columns) ≤ length columns
no_more test [] = omega arith
no_more test (col ∷ columns) = at (test col) (no_more test columns)
  where
    at : (t : Bool) → length (filter test columns) ≤ length columns → length (cond t (col ∷ filter test columns) (filter test columns)) ≤ suc (length columns)
    at true more = omega (arith, more)
    at false more = omega (arith, more)

pub fewer : (test : ℕ → Bool) (columns rest others : List ℕ) (first : ℕ) → columns ≡ first ∷ rest → others ≡ filter test rest → length others < length columns
fewer test columns rest others first same are =
    let most = no_more test rest in
    let here : length others ≡ length (filter test rest) = ap length are in
    let there : length columns ≡ suc (length rest) = ap length same in
    omega (arith, most, here, there)

-- columns that all pass
all_kept : (test : ℕ → Bool) (columns : List ℕ) → list_all test columns ≡ true → filter test columns ≡ columns
all_kept test [] all = refl
all_kept test (col ∷ columns) all =
    let parts = and_parts (test col) (list_all test columns) all in
    ap (λ (t : Bool). cond t (col ∷ filter test columns) (filter test columns)) parts.0 ∙ ap (λ (rest : List ℕ). col ∷ rest) (all_kept test columns parts.1)

none_left : (test : ℕ → Bool) (columns : List ℕ) → list_all test columns ≡ true → filter (λ col. not (test col)) columns ≡ []
none_left test [] all = refl
none_left test (col ∷ columns) all =
    let parts = and_parts (test col) (list_all test columns) all in
    ap (λ (t : Bool). cond (not t) (col ∷ filter (λ other. not (test other)) columns) (filter (λ other. not (test other)) columns)) parts.0 ∙ none_left test columns parts.1

some_left : (test : ℕ → Bool) (columns : List ℕ) → list_all test columns ≡ false → filter (λ col. not (test col)) columns ≡ [] → ⊥
some_left test [] some none = absurd (cc)
some_left test (col ∷ columns) some none = at (test col) refl (some_left test columns)
  where
    at : (t : Bool) → test col ≡ t → (list_all test columns ≡ false → filter (λ col. not (test col)) columns ≡ [] → ⊥) → ⊥
    at true is rest = rest (sym (ap (λ (t : Bool). t && list_all test columns) is) ∙ some) (sym (ap (λ (t : Bool). cond (not t) (col ∷ filter (λ other. not (test other)) columns) (filter (λ other. not (test other)) columns)) is) ∙ none)
    at false is rest = let left : col ∷ filter (λ other. not (test other)) columns ≡ [] = sym (ap (λ (t : Bool). cond (not t) (col ∷ filter (λ other. not (test other)) columns) (filter (λ other. not (test other)) columns)) is) ∙ none in cc

-- all columns are one group
pub all_one_group : (need : Need) (leaves : List FragmentLeaf) (first : ℕ) (rest columns : List ℕ) (plan : Shape) → columns ≡ first ∷ rest → list_all (together need leaves first) rest ≡ true → united plan ≡ covers need columns leaves → IsByColumns need leaves columns plan
all_one_group need leaves first rest columns plan are all is =
    let Columns : List ℕ → Type 0 = λ some. IsByColumns need leaves some plan in
    let group : columns ≡ first ∷ filter (together need leaves first) rest = are ∙ ap (λ (others : List ℕ). first ∷ others) (sym (all_kept (together need leaves first) rest all)) in
    subst Columns (sym are)
    (one_group need leaves first rest (filter (apart need leaves first) rest) plan refl (none_left (together need leaves first) rest all) (is ∙ ap (λ (some : List ℕ). covers need some leaves) group))

-- where not all columns are together some are left
pub others_left : (need : Need) (leaves : List FragmentLeaf) (first : ℕ) (rest others : List ℕ) → others ≡ filter (apart need leaves first) rest → list_all (together need leaves first) rest ≡ false → others ≡ [] → ⊥
others_left need leaves first rest others are some none = some_left (together need leaves first) rest some (sym are ∙ none)

-- Lemmas on rows that meet conditions and on the leaves that serve them.
use Rattle.std.proofs.Common.{◌≡◌, ℕ, suc, ℤ, ◌&&◌, ◌||◌, Bool, true, false, List, [], ◌∷◌, ◌++◌, Some, refl, ap, sym, ◌∙◌, arith}
use Rattle.std.specs.List.{Contains, list_any, slice_get}
use Rattle.std.proofs.lemmas.List.Folds.{list_all-append}
use Rattle.terms.specs.declared.cond.Cond.{Cond}
use Rattle.terms.specs.declared.value.Kind.{Kind}
use Rattle.terms.specs.declared.value.Kind.TheVariants as kinds
use Rattle.terms.specs.declared.value.Value.{Value}
use Rattle.terms.specs.declared.value.Value.TheVariants.{Int, Text}
use Rattle.terms.specs.Cond.{cond_holds, conds_hold}
use Rattle.terms.specs.Row.{FitsKinds}
use Rattle.terms.specs.Value.{Fits, kind_of}
use Rattle.catalog.specs.declared.fragment_leaf.FragmentLeaf.{FragmentLeaf}
use Rattle.catalog.specs.declared.path.Path.{Path}
use Rattle.catalog.specs.Cover.{leads, serves}
use Rattle.catalog.specs.FragmentLeaf.{leaf_of, leaves_from}
use Rattle.catalog.specs.Path.{wanted}
use Rattle.plan.proofs.CarriedConds.{and_true, both}
use Rattle.plan.proofs.Columns.{FoundAt}

-- some row that fits meets all conditions
pub record IsMet (kinds : List Kind) (conds : List Cond) : Type 0 where
  pub row : List Value
  pub fits : FitsKinds kinds row
  pub holds : conds_hold conds row ≡ true

pub conds_both : (first second : List Cond) (row : List Value) → conds_hold (first ++ second) row ≡ true → (conds_hold first row ≡ true) × (conds_hold second row ≡ true)
conds_both first second row h = both (conds_hold first row) (conds_hold second row) (sym (list_all-append (λ c. cond_holds c row) first second) ∙ h)

pub conds_joined : (first second : List Cond) (row : List Value) → conds_hold first row ≡ true → conds_hold second row ≡ true → conds_hold (first ++ second) row ≡ true
conds_joined first second row one two = list_all-append (λ c. cond_holds c row) first second ∙ and_true (conds_hold first row) (conds_hold second row) one two

-- a leaf that serves a row, among those at the ends of paths
pub record ServesAmong (leaves : List FragmentLeaf) (needed : List ℕ) (row : List Value) : Type 0 where
  pub leaf : FragmentLeaf
  pub there : Contains leaves leaf
  pub is_wanted : wanted needed leaf.steps ≡ true
  pub holds : conds_hold leaf.conds row ≡ true

later : (first : FragmentLeaf) (leaves : List FragmentLeaf) (needed : List ℕ) (row : List Value) → ServesAmong leaves needed row → ServesAmong (first ∷ leaves) needed row
later first leaves needed row found = record { leaf = found.leaf; there = (suc found.there.0, omega (arith, found.there.1), found.there.2); is_wanted = found.is_wanted; holds = found.holds }

among_step : (a b : Bool) (relation columns : List ℕ) (number : ℕ) (path : Path) (rest : List Path) (needed : List ℕ) (row : List Value) →
    (list_any (serves needed row) rest ≡ true → ServesAmong (leaves_from relation columns (suc number) rest) needed row) →
    leads row path ≡ a → wanted needed path.steps ≡ b → ((a && b) || list_any (serves needed row) rest) ≡ true → ServesAmong (leaves_from relation columns number (path ∷ rest)) needed row
among_step true true relation columns number path rest needed row more holds want h =
    record { leaf = leaf_of relation columns number path; there = (0, omega arith, refl); is_wanted = want; holds = holds }
among_step true false relation columns number path rest needed row more holds want h = later (leaf_of relation columns number path) (leaves_from relation columns (suc number) rest) needed row (more h)
among_step false b relation columns number path rest needed row more holds want h = later (leaf_of relation columns number path) (leaves_from relation columns (suc number) rest) needed row (more h)

pub served_among : (relation columns : List ℕ) (number : ℕ) (all : List Path) (needed : List ℕ) (row : List Value) → list_any (serves needed row) all ≡ true → ServesAmong (leaves_from relation columns number all) needed row
served_among relation columns number [] needed row some = absurd (cc)
served_among relation columns number (path ∷ rest) needed row some =
    among_step (leads row path) (wanted needed path.steps) relation columns number path rest needed row (served_among relation columns (suc number) rest needed row) refl refl some

-- an integer in a column
pub integer : (row : List Value) (col : ℕ) (found : FoundAt row col kinds.Int) → (n : ℤ) × (slice_get row col ≡ Some (Int n)) × Fits (Int n)
integer row col found = of found.value found.there found.of found.good
  where
    of : (value : Value) → slice_get row col ≡ Some value → kind_of value ≡ kinds.Int → Fits value → (n : ℤ) × (slice_get row col ≡ Some (Int n)) × Fits (Int n)
    of (Int n) there is good = (n, there, good)
    of (Text bytes) there is good = absurd (cc)

-- the values after the first of a row that has one
abbrev pub rest_of : {A : Type 0} → List A → List A
rest_of [] = []
rest_of (first ∷ rest) = rest

pub first_of : (row : List Value) (value : Value) → slice_get row 0 ≡ Some value → row ≡ value ∷ rest_of row
first_of [] value there = absurd (cc)
first_of (first ∷ row) value there = let same : first ≡ value = cc in ap (λ v. v ∷ row) same

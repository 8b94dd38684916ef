-- Lemmas on conditions that are filtered and put on other columns.
use Rattle.std.proofs.Common.{◌≡◌, ℕ, ◌||◌, ◌&&◌, Bool, true, false, not, cond, List, [], ◌∷◌, map, filter, refl, ap}
use Rattle.std.specs.List.{list_all, slice_get}
use Rattle.terms.specs.declared.cond.Cond.{Cond}
use Rattle.terms.specs.declared.value.Value.{Value}
use Rattle.terms.specs.Cond.{cond_holds, conds_hold, holds_of}
use Rattle.plan.specs.Need.{on_column}

-- conditions that pass a test, each made another, hold of a row: of each condition, if it passes
pub holds_passed : (make : Cond → Cond) (test : Cond → Bool) (conds : List Cond) (row : List Value) → conds_hold (map make (filter test conds)) row ≡ list_all (λ c. not (test c) || cond_holds (make c) row) conds
holds_passed make test [] row = refl
holds_passed make test (c ∷ conds) row =
    let all = list_all (λ c. not (test c) || cond_holds (make c) row) conds in
    elim (test c) as (λ t. conds_hold (map make (cond t (c ∷ filter test conds) (filter test conds))) row ≡ ((not t || cond_holds (make c) row) && all)) [
      | true ↦ ap (λ rest. cond_holds (make c) row && rest) (holds_passed make test conds row)
      | false ↦ holds_passed make test conds row
    ]

pub holds_filtered : (test : Cond → Bool) (conds : List Cond) (row : List Value) → conds_hold (filter test conds) row ≡ list_all (λ c. not (test c) || cond_holds c row) conds
holds_filtered test [] row = refl
holds_filtered test (c ∷ conds) row =
    let all = list_all (λ c. not (test c) || cond_holds c row) conds in
    elim (test c) as (λ t. conds_hold (cond t (c ∷ filter test conds) (filter test conds)) row ≡ ((not t || cond_holds c row) && all)) [
      | true ↦ ap (λ rest. cond_holds c row && rest) (holds_filtered test conds row)
      | false ↦ holds_filtered test conds row
    ]

pub both : (a b : Bool) → (a && b) ≡ true → (a ≡ true) × (b ≡ true)
both true b h = (refl, h)
both false b h = absurd (cc)

pub and_true : (a b : Bool) → a ≡ true → b ≡ true → (a && b) ≡ true
and_true true b here there = there
and_true false b here there = absurd (cc)

-- what follows of each condition from two tests of it follows of all
pub all_from : (P Q R : Cond → Bool) (conds : List Cond) → ((c : Cond) → Q c ≡ true → R c ≡ true → P c ≡ true) → list_all Q conds ≡ true → list_all R conds ≡ true → list_all P conds ≡ true
all_from P Q R [] each q r = refl
all_from P Q R (c ∷ conds) each q r =
    let qs = both (Q c) (list_all Q conds) q in
    let rs = both (R c) (list_all R conds) r in
    and_true (P c) (list_all P conds) (each c qs.0 rs.0) (all_from P Q R conds each qs.1 rs.1)

-- a condition on another column asks the same of the value there
pub same_value : (c : Cond) (to : ℕ) (row other : List Value) → slice_get row to ≡ slice_get other c.col → cond_holds (on_column to c) row ≡ cond_holds c other
same_value c to row other same = ap (holds_of c) same

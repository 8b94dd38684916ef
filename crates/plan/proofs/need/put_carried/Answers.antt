-- Why `need::put_carried` meets its contract.
use Rattle.std.proofs.Common.{◌≡◌, ◌-◌, ◌==◌, ◌&&◌, ◌≤◌, ℕ, Bool, true, false, cond, List, [], ◌∷◌, Some, find, not, nat_lt, refl, ap, sym, ◌∙◌, arith}
use Rattle.std.proofs.lemmas.Bool.{and_parts}
use Rattle.std.proofs.lemmas.Bool.Decides.{nat_tests}
use Rattle.plan.specs.Need.{is_of, origin, places_on}
use Rattle.plan.proofs.need.put_carried.Goals as goal

-- what is found passes
find_passes : (p : ℕ → Bool) (places : List ℕ) (place : ℕ) → find p places ≡ Some place → p place ≡ true
find_passes p [] place is = absurd (cc)
find_passes p (first ∷ rest) place is =
    elim (p first) as (λ t. p first ≡ t → cond t (Some first) (find p rest) ≡ Some place → p place ≡ true) [
      | true ↦ λ passes at. let same : first ≡ place = cc in ap p (sym same) ∙ passes
      | false ↦ λ fails at. find_passes p rest place at
    ] refl is

-- a place of a relation stands behind the columns before it
behind : (before width place : ℕ) → is_of before width place ≡ true → before ≤ place
behind before width place is =
    let parts = and_parts (not (nat_lt place before)) (nat_lt (place - before) width) is in
    let first : not (nat_lt place before) ≡ true = parts.0 in
    grind (arith, nat_tests)

pub overflow_sub-place : goal.overflow_sub-place
overflow_sub-place c =
    let test : ℕ → Bool = λ other. is_of c.args.before c.args.width other && (origin c.args.links.now other == origin c.args.links.now c.cond-item.result.col) in
    let passes = find_passes test (places_on c.args.links.now) c.in-Some.place (sym c.in-Some.ensures) in
    behind c.args.before c.args.width c.in-Some.place (and_parts (is_of c.args.before c.args.width c.in-Some.place) (origin c.args.links.now c.in-Some.place == origin c.args.links.now c.cond-item.result.col) passes).0

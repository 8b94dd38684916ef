-- Places that ONs make equal have one value, and so a condition on the one asks the same of the other.
use Rattle.std.proofs.Common.{◌≡◌, ℕ, ◌==◌, ◌&&◌, Bool, true, false, cond, List, [], ◌∷◌, find, Option, Some, refl, ap, sym, ◌∙◌, arith}
use Rattle.std.proofs.lemmas.Bool.Decides.{nat_tests}
use Rattle.std.specs.List.{AllByRecursion, slice_get}
use Rattle.plan.specs.declared.link.Link.{Link}
use Rattle.plan.specs.Need.{equal_of, is_of, origin, places_on}
use Rattle.plan.proofs.CarriedConds.{both}

-- both places of an ON have one value
abbrev pub AreSame : {A : Type 0} → List A → List Link → Type 0
AreSame values links = AllByRecursion (λ link. slice_get values link.place ≡ slice_get values link.key) links

origin_step : {A : Type 0} (values : List A) (link : Link) (later place : ℕ) (t : Bool) → (later == link.key) ≡ t → slice_get values link.place ≡ slice_get values link.key → slice_get values later ≡ slice_get values place →
    slice_get values (cond t link.place later) ≡ slice_get values place
origin_step values link later place true is same rest = let key : later ≡ link.key = grind (arith, nat_tests) in same ∙ sym (ap (slice_get values) key) ∙ rest
origin_step values link later place false is same rest = rest

pub origin_same : {A : Type 0} (values : List A) (links : List Link) (place : ℕ) → AreSame values links → slice_get values (origin links place) ≡ slice_get values place
origin_same values [] place same = refl
origin_same values (link ∷ links) place same = origin_step values link (origin links place) place (origin links place == link.key) refl same.0 (origin_same values links place same.1)

-- a place that is found as the equal of another
pub record IsEqual (links : List Link) (before width place other : ℕ) : Type 0 where
  pub within : is_of before width other ≡ true
  pub same : (origin links other == origin links place) ≡ true

found_step : (links : List Link) (before width place : ℕ) (t : Bool) (first : ℕ) (rest : Option ℕ) (other : ℕ) → (is_of before width first && (origin links first == origin links place)) ≡ t →
    (rest ≡ Some other → IsEqual links before width place other) → cond t (Some first) rest ≡ Some other → IsEqual links before width place other
found_step links before width place true first rest other test more is =
    let here : first ≡ other = cc in
    let parts = both (is_of before width first) (origin links first == origin links place) test in
    record {
      within = sym (ap (is_of before width) here) ∙ parts.0;
      same = sym (ap (λ p. origin links p == origin links place) here) ∙ parts.1;
    }
found_step links before width place false first rest other test more is = more is

found_equal : (links : List Link) (before width place : ℕ) (places : List ℕ) (other : ℕ) → find (λ p. is_of before width p && (origin links p == origin links place)) places ≡ Some other → IsEqual links before width place other
found_equal links before width place [] other is = absurd (cc)
found_equal links before width place (first ∷ places) other is =
    found_step links before width place (is_of before width first && (origin links first == origin links place)) first (find (λ p. is_of before width p && (origin links p == origin links place)) places) other refl
    (found_equal links before width place places other) is

pub equal_same : {A : Type 0} (values : List A) (links : List Link) (before width place other : ℕ) → AreSame values links → equal_of links before width place ≡ Some other →
    (is_of before width other ≡ true) × (slice_get values other ≡ slice_get values place)
equal_same values links before width place other same is =
    let found = found_equal links before width place (places_on links) other is in
    let one : origin links other ≡ origin links place = let h = found.same in grind (arith, nat_tests) in
    (found.within, sym (origin_same values links other same) ∙ ap (slice_get values) one ∙ origin_same values links place same)

-- A row of joined relations, seen in the columns that are read, is what is seen of the rows before and of the last one, put together.
use Rattle.std.proofs.Common.{◌≡◌, ℕ, zero, suc, ◌-◌, ◌<◌, ◌≤◌, Bool, true, false, not, cond, ◌||◌, ◌==◌, nat_lt, List, [], ◌∷◌, ◌++◌, length, filter, map, Option, Some, None, refl, ap, ap₂, sym, ◌∙◌, arith}
use Rattle.std.specs.List.{slice_get}
use Rattle.std.specs.Option.{option_or}
use Rattle.std.proofs.Math.Path.{fun_ext}
use Rattle.std.proofs.lemmas.Bool.Decides.{nat_tests}
use Rattle.terms.specs.declared.value.Value.{Value}
use Rattle.catalog.specs.Counts.{has}
use Rattle.plan.specs.Need.{is_of, places_of}
use Rattle.plan.specs.Rows.{is_seen, merged, seen_of, shifted}
use Rattle.plan.proofs.CarriedConds.{and_true}
use Rattle.plan.proofs.NeedsFit.{get_front, get_past}
use Rattle.plan.proofs.StatementFits.{of_parts}

same_test : (t s : Bool) → (t ≡ true → s ≡ true) → (s ≡ true → t ≡ true) → t ≡ s
same_test true s to from = sym (to refl)
same_test false true to from = from refl
same_test false false to from = refl

-- which of the places are a relation's
less_same : (before first place : ℕ) → before ≤ first → before ≤ place → (first - before == place - before) ≡ (first == place)
less_same before first place one other = same_test (first - before == place - before) (first == place) (λ h. grind (arith, nat_tests)) (λ h. grind (arith, nat_tests))

not_same : (before width first place : ℕ) → is_of before width first ≡ false → is_of before width place ≡ true → (first == place) ≡ false
not_same before width first place other own = at (first == place) refl
  where
    at : (t : Bool) → (first == place) ≡ t → t ≡ false
    at true is = let same : first ≡ place = grind (arith, nat_tests) in sym own ∙ sym (ap (is_of before width) same) ∙ other
    at false is = refl

pub has_of : (before width : ℕ) (places : List ℕ) (place : ℕ) → is_of before width place ≡ true → has (places_of before width places) (place - before) ≡ has places place
has_of before width [] place is = refl
has_of before width (first ∷ places) place is = step (is_of before width first) refl (has_of before width places place is)
  where
    others : List ℕ
    others = filter (is_of before width) places

    step : (t : Bool) → is_of before width first ≡ t → has (places_of before width places) (place - before) ≡ has places place →
        has (map (λ p. p - before) (cond t (first ∷ others) others)) (place - before) ≡ ((first == place) || has places place)
    step true own rest = ap₂ (λ (s t : Bool). s || t) (less_same before first place (of_parts before width first own).0 (of_parts before width place is).0) rest
    step false own rest = let apart = not_same before width first place own is in rw apart rest

get_beyond : {A : Type 0} (xs : List A) (i : ℕ) → length xs ≤ i → slice_get xs i ≡ None
get_beyond [] i past = refl
get_beyond (x ∷ xs) zero past = absurd (omega (arith, past))
get_beyond (x ∷ xs) (suc i) past = get_beyond xs i (omega (arith, past))

no_value : (t : Bool) → cond {A = Option Value} t None None ≡ None
no_value true = refl
no_value false = refl

or_none : (value : Option Value) → option_or value None ≡ value
or_none None = refl
or_none (Some v) = refl

-- of the first relation
pub first_seen : (places : List ℕ) (width : ℕ) (row : List Value) → length row ≡ width → seen_of (places_of 0 width places) row ≡ seen_of places row
first_seen places width row long = fun_ext (λ place. at place (nat_lt place width) refl)
  where
    at : (place : ℕ) (t : Bool) → nat_lt place width ≡ t → seen_of (places_of 0 width places) row place ≡ seen_of places row place
    at place true below =
        let own : is_of 0 width place ≡ true =
        let zero_is : place - 0 ≡ place = omega arith in
        let low : nat_lt place 0 ≡ false = grind (arith, nat_tests) in
        and_true (not (nat_lt place 0)) (nat_lt (place - 0) width) (ap not low) (ap (λ p. nat_lt p width) zero_is ∙ below)
        in
        let here : place - 0 ≡ place = omega arith in
        ap (λ (t : Bool). cond ((place == 0) || t) (slice_get row place) None) (ap (has (places_of 0 width places)) (sym here) ∙ has_of 0 width places place own)
    at place false past =
        let beyond : slice_get row place ≡ None = get_beyond row place (grind (arith, nat_tests)) in
        rw beyond (no_value (is_seen (places_of 0 width places) place) ∙ sym (no_value (is_seen places place)))

-- of a further one
pub last_seen : (places : List ℕ) (width before : ℕ) (row other : List Value) → before ≡ length row → 0 < before → width ≡ length other → has places before ≡ true →
    merged (seen_of places row) (shifted before (seen_of (places_of before width places) other)) ≡ seen_of places (row ++ other)
last_seen places width before row other long some wide key = fun_ext (λ place. at place (nat_lt place before) refl)
  where
    right : ℕ → Option Value
    right place = seen_of (places_of before width places) other (place - before)

    key_seen : (place : ℕ) (t : Bool) → before ≤ place → (place - before == 0) ≡ t → is_of before width place ≡ true → (t || has (places_of before width places) (place - before)) ≡ has places place
    key_seen place true low is own = let same : before ≡ place = grind (arith, nat_tests) in sym (sym (ap (has places) same) ∙ key)
    key_seen place false low is own = has_of before width places place own

    past : (place : ℕ) (t : Bool) → nat_lt place before ≡ false → nat_lt (place - before) width ≡ t → right place ≡ cond (is_seen places place) (slice_get (row ++ other) place) None
    past place t behind is =
        let low : before ≤ place = grind (arith, nat_tests) in
        let not_zero : (place == 0) ≡ false = grind (arith, nat_tests) in
        let beyond : length row ≤ place = grind (arith, nat_tests) in
        let there : slice_get (row ++ other) place ≡ slice_get other (place - before) = get_past row other place beyond ∙ ap (λ n. slice_get other (place - n)) (sym long) in
        within t is low not_zero there
      where
        within : (t : Bool) → nat_lt (place - before) width ≡ t → before ≤ place → (place == 0) ≡ false → slice_get (row ++ other) place ≡ slice_get other (place - before) →
            right place ≡ cond (is_seen places place) (slice_get (row ++ other) place) None
        within true is low not_zero there =
            let own : is_of before width place ≡ true = rw (behind, is) refl in
            ap₂ (λ (t : Bool) (value : Option Value). cond t value None) (key_seen place (place - before == 0) low refl own ∙ ap (λ (t : Bool). t || has places place) (sym not_zero)) (sym there)
        within false is low not_zero there =
            let none : slice_get other (place - before) ≡ None = get_beyond other (place - before) (grind (arith, nat_tests)) in
            ap (λ (v : Option Value). cond (is_seen (places_of before width places) (place - before)) v None) none ∙ no_value (is_seen (places_of before width places) (place - before))
            ∙ sym (no_value (is_seen places place)) ∙ ap (λ (v : Option Value). cond (is_seen places place) v None) (sym (there ∙ none))

    at : (place : ℕ) (t : Bool) → nat_lt place before ≡ t → option_or (seen_of places row place) (cond t None (right place)) ≡ seen_of places (row ++ other) place
    at place true below =
        let within : place < length row = grind (arith, nat_tests) in
        or_none (seen_of places row place) ∙ ap (λ (v : Option Value). cond (is_seen places place) v None) (sym (get_front row other place within))
    at place false behind =
        let none : slice_get row place ≡ None = get_beyond row place (grind (arith, nat_tests)) in
        let left : seen_of places row place ≡ None = ap (λ (v : Option Value). cond (is_seen places place) v None) none ∙ no_value (is_seen places place) in
        ap (λ (v : Option Value). option_or v (right place)) left ∙ past place (nat_lt (place - before) width) behind refl

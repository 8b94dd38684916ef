-- What the search for the least test value finds.
use Rattle.std.proofs.Common.{◌≡◌, ◌==◌, ◌&&◌, ℕ, List, [], ◌∷◌, Option, Some, None, true, false, cond, refl, sym, ap, ◌∙◌, subst, inl, inr, Contains, map}
use Rattle.std.specs.List.{AllByRecursion, filter, flat_map, fold}
use Rattle.std.specs.Option.{IfSome, IfNone, MatchOption}
use Rattle.std.specs.Ordering.{is_gt, is_lt, ordering_reverse}
use Rattle.std.specs.declared.cmp.Ordering.{Ordering}
use Rattle.std.specs.declared.cmp.Ordering.TheVariants.{Less, Equal, Greater}
use Rattle.std.proofs.lemmas.Bool.{cond_both, cond-true, cond-false, cases_Bool, and_parts, and_cases, both_ways, true≢false, false_from_ne_true}
use Rattle.std.proofs.lemmas.Cmp.{upto, tied_itself}
use Rattle.std.proofs.lemmas.List.Sums.{fold-append}
use Rattle.std.proofs.lemmas.List.Elements.{recursion_from_All, All-contains_itself}
use Rattle.terms.specs.declared.cond.Cond.{Cond}
use Rattle.terms.specs.declared.value.Kind.{Kind}
use Rattle.terms.specs.declared.value.Value.{Value}
use Rattle.terms.specs.Value.{value_cmp}
use Rattle.terms.specs.Order.{value_cmp_total}
use Rattle.terms.specs.TestValues.{least, test_values, constants, column_holds, with_after, IsLeastTest}
use Rattle.terms.specs.Search.{is_below, better, tried_all, HasNoTest}

-- the search by conditions is the search over the test values
tried_all_is : (conds : List Cond) (col : ℕ) (best : Option Value) (some : List Cond) → tried_all conds col best some ≡ fold (better conds col) best (flat_map with_after (constants some col))
tried_all_is conds col best [] = refl
tried_all_is conds col best (c ∷ some) =
    let step = better conds col in
    let rest = filter (λ cond. cond.col == col) some in
    let after_own : Option Value → Option Value = λ (best : Option Value). tried_all conds col best some in
    let over : List Cond → Option Value = λ (conds : List Cond). fold step best (flat_map with_after (map (λ cond. cond.value) conds)) in
    elim (cases_Bool (c.col == col)) as (λ _. tried_all conds col best (c ∷ some) ≡ over (cond (c.col == col) (c ∷ rest) rest)) [
      | inl same ↦
          ap after_own (cond-true (c.col == col) (fold step best (with_after c.value)) best same)
          ∙ tried_all_is conds col (fold step best (with_after c.value)) some
          ∙ sym (fold-append step best (with_after c.value) (flat_map with_after (constants some col)))
          ∙ sym (ap over (cond-true (c.col == col) (c ∷ rest) rest same))
      | inr other ↦
          ap after_own (cond-false (c.col == col) (fold step best (with_after c.value)) best other)
          ∙ tried_all_is conds col best some
          ∙ sym (ap over (cond-false (c.col == col) (c ∷ rest) rest other))
    ]

-- what holds of each value holds of the best
best_keeps : (P : Value → Type 0) (conds : List Cond) (col : ℕ) (best : Option Value) (tests : List Value) → IfSome best P → AllByRecursion P tests → IfSome (fold (better conds col) best tests) P
unfolding better
best_keeps P conds col best [] start all = start
best_keeps P conds col best (test ∷ tests) start all =
    best_keeps P conds col (better conds col best test) tests (cond_both (is_below test best && column_holds conds col test) (Some test) best (λ o. IfSome o P) (λ _. all.0) (λ _. start)) all.1

best_meets : (conds : List Cond) (col : ℕ) (best : Option Value) (tests : List Value) → IfSome best (λ value. column_holds conds col value ≡ true) → IfSome (fold (better conds col) best tests) (λ value. column_holds conds col value ≡ true)
unfolding better
best_meets conds col best [] start = start
best_meets conds col best (test ∷ tests) start =
    best_meets conds col (better conds col best test) tests (cond_both (is_below test best && column_holds conds col test) (Some test) best (λ o. IfSome o (λ value. column_holds conds col value ≡ true)) (λ yes. (and_parts (is_below test best) (column_holds conds col test) yes).1) (λ _. start))

-- there is a best so far, and it is not above a value
abbrev Covers : Value → Option Value → Type 0
Covers test best = MatchOption best ⊥ (λ value. is_gt (value_cmp value test) ≡ false)

reverse_gt : (order : Ordering) → is_gt (ordering_reverse order) ≡ is_lt order
reverse_gt Less = refl
reverse_gt Equal = refl
reverse_gt Greater = refl

not_below : (best test : Value) → is_lt (value_cmp test best) ≡ false → is_gt (value_cmp best test) ≡ false
not_below best test h = ap is_gt (value_cmp_total.antisymm best test) ∙ reverse_gt (value_cmp test best) ∙ h

below_is : (order : Ordering) → is_lt order ≡ true → is_gt order ≡ false
below_is Less h = refl
below_is Equal h = refl
below_is Greater h = cc

not_under_covers : (best : Option Value) (test : Value) → is_below test best ≡ false → Covers test best
not_under_covers None test h = absurd (true≢false h)
not_under_covers (Some best) test h = not_below best test h

-- a value that meets the conditions is covered once it is tried
covers_tried : (conds : List Cond) (col : ℕ) (best : Option Value) (test : Value) → column_holds conds col test ≡ true → Covers test (better conds col best test)
unfolding better
covers_tried conds col best test meets =
    cond_both (is_below test best && column_holds conds col test) (Some test) best (Covers test)
    (λ _. ap is_gt (tied_itself value_cmp_total test))
    (λ no. elim (and_cases (is_below test best) (column_holds conds col test) no) as (λ _. Covers test best) [
      | inl not_under ↦ not_under_covers best test not_under
      | inr fails ↦ absurd (both_ways (column_holds conds col test) fails meets)
    ])

-- and from then on
still_covers : (conds : List Cond) (col : ℕ) (best : Option Value) (test other : Value) → Covers test best → Covers test (better conds col best other)
unfolding better
still_covers conds col None test other covered = absurd covered
still_covers conds col (Some value) test other covered =
    cond_both (is_below other (Some value) && column_holds conds col other) (Some other) (Some value) (Covers test)
    (λ yes. upto value_cmp_total other value test (below_is (value_cmp other value) (and_parts (is_below other (Some value)) (column_holds conds col other) yes).0) covered)
    (λ _. covered)

fold_covers : (conds : List Cond) (col : ℕ) (best : Option Value) (tests : List Value) (test : Value) → Covers test best → Covers test (fold (better conds col) best tests)
fold_covers conds col best [] test covered = covered
fold_covers conds col best (other ∷ tests) test covered = fold_covers conds col (better conds col best other) tests test (still_covers conds col best test other covered)

best_covers : (conds : List Cond) (col : ℕ) (best : Option Value) (tests : List Value) → AllByRecursion (λ test. column_holds conds col test ≡ true → Covers test (fold (better conds col) best tests)) tests
best_covers conds col best [] = tt
best_covers conds col best (test ∷ tests) = (λ meets. fold_covers conds col (better conds col best test) tests test (covers_tried conds col best test meets), best_covers conds col (better conds col best test) tests)

weaker : {X : Type 0} (P Q : X → Type 0) → ((x : X) → P x → Q x) → (xs : List X) → AllByRecursion P xs → AllByRecursion Q xs
weaker P Q each [] all = tt
weaker P Q each (x ∷ xs) all = (each x all.0, weaker P Q each xs all.1)

-- what the search finds
abbrev pub found_by : Kind → List Cond → ℕ → Option Value
found_by kind conds col = tried_all conds col (better conds col None (least kind)) conds

-- the least test value that meets the conditions
found_is_least : (kind : Kind) (conds : List Cond) (col : ℕ) (value : Value) → Some value ≡ fold (better conds col) None (test_values kind (constants conds col)) → IsLeastTest kind conds col value
found_is_least kind conds col value is =
    let tests = test_values kind (constants conds col) in
    let best = fold (better conds col) None tests in
    let Has : Option Value → Type 0 = λ found. IfSome found (Contains tests) in
    let Meets : Option Value → Type 0 = λ found. IfSome found (λ value. column_holds conds col value ≡ true) in
    let Least : Option Value → Type 0 = λ found. AllByRecursion (λ test. column_holds conds col test ≡ true → Covers test found) tests in
    record {
      is_test = subst Has (sym is) (best_keeps (Contains tests) conds col None tests tt (recursion_from_All (Contains tests) tests (All-contains_itself tests)));
      meets = subst Meets (sym is) (best_meets conds col None tests tt);
      none_below = subst Least (sym is) (best_covers conds col None tests);
    }

found_none : (kind : Kind) (conds : List Cond) (col : ℕ) → None ≡ fold (better conds col) None (test_values kind (constants conds col)) → HasNoTest kind conds col
found_none kind conds col is =
    let tests = test_values kind (constants conds col) in
    let Covered : Option Value → Value → Type 0 = λ found test. column_holds conds col test ≡ true → Covers test found in
    let all = subst (λ (found : Option Value). AllByRecursion (Covered found) tests) (sym is) (best_covers conds col None tests) in
    weaker (Covered None) (λ test. column_holds conds col test ≡ false) (λ test none. false_from_ne_true (column_holds conds col test) none) tests all

found_is : (kind : Kind) (conds : List Cond) (col : ℕ) (found : Option Value) → found ≡ found_by kind conds col → found ≡ fold (better conds col) None (test_values kind (constants conds col))
found_is kind conds col found is = is ∙ tried_all_is conds col (better conds col None (least kind)) conds

pub some_found : (kind : Kind) (conds : List Cond) (col : ℕ) (found : Option Value) → found ≡ found_by kind conds col → IfSome found (IsLeastTest kind conds col)
some_found kind conds col None is = tt
some_found kind conds col (Some value) is = found_is_least kind conds col value (found_is kind conds col (Some value) is)

pub none_found : (kind : Kind) (conds : List Cond) (col : ℕ) (found : Option Value) → found ≡ found_by kind conds col → IfNone found (HasNoTest kind conds col)
none_found kind conds col None is = found_none kind conds col (found_is kind conds col None is)
none_found kind conds col (Some value) is = tt

-- Two lists of rows with ascending keys, gone through side by side: what each comparison of two keys keeps.
use Rattle.std.proofs.Common.{◌≡◌, ◌⊎◌, inl, inr, ℕ, ◌+◌, ◌<◌, ◌≤◌, ℤ, ◌<ℤ◌, int_lt, true, false, List, [], ◌∷◌, ◌++◌, length, refl, ap, ap₂, sym, ◌∙◌, subst, append_assoc, arith}
use Rattle.std.proofs.lemmas.Int.{ints}
use Rattle.std.proofs.lemmas.List.{append-nil, length-append}
use Rattle.std.specs.List.{AllByRecursion}
use Rattle.std.specs.Ordering.{int_cmp, int_eq}
use Rattle.std.specs.declared.cmp.Ordering.TheVariants.{Less, Equal, Greater}
use Rattle.terms.specs.declared.value.Value.{Value}
use Rattle.terms.specs.Row.{key_of}
use Rattle.meaning.specs.Relation.{Ascends}
use Rattle.meaning.proofs.Keys.{above_from_greater, below_from_less, lt_false, lt_true}
use Rattle.meaning.proofs.Rows.{below_all}
use Rattle.answers.specs.Ledger.{one_more}
use Rattle.answers.specs.Merged.{merged_rows}
use Rattle.answers.proofs.Merged.{all_above, pushed}

-- one step more

pub step_most : (steps : ℕ) → one_more steps ≤ steps + 1
step_most steps = omega arith

pub step_least : (steps : ℕ) → one_more steps < 18446744073709551615 → one_more steps ≡ steps + 1
step_least steps below = omega (arith, below)

-- two rows whose keys are the same

pub same_keys : (a b : ℤ) → int_cmp a b ≡ Equal → a ≡ b
same_keys a b is = grind (arith, ints)

pub not_below : (a b : ℤ) → a ≡ b → int_lt b a ≡ false
not_below a b is = grind (arith, ints)

pub not_above : (a b : ℤ) → a ≡ b → int_lt a b ≡ false
not_above a b is = grind (arith, ints)

pub has_it : (a b : ℤ) → a ≡ b → int_eq b a ≡ true
has_it a b is = grind (arith, ints)

-- what is merged, by the first rows of both

first_below : (row other : List Value) (rows others : List (List Value)) → key_of row <ℤ key_of other → Ascends (other ∷ others) → merged_rows (row ∷ rows) (other ∷ others) ≡ row ∷ merged_rows rows (other ∷ others)
first_below row other rows others below order =
    let all = all_above row (other ∷ others) (below, below_all (key_of row) other others below order.0) in
    ap₂ (λ (front rest : List (List Value)). front ++ row ∷ merged_rows rows rest) all.below all.above

first_same : (row other : List Value) (rows others : List (List Value)) → key_of row ≡ key_of other → Ascends (other ∷ others) → merged_rows (row ∷ rows) (other ∷ others) ≡ row ∷ merged_rows rows others
first_same row other rows others same order =
    let P : ℤ → Type 0 = λ k. AllByRecursion (λ later. k <ℤ key_of later) others in
    let all = all_above row others (subst P (sym same) order.0) in
    rw (not_below (key_of row) (key_of other) same) (rw (not_above (key_of row) (key_of other) same) (ap₂ (λ (front rest : List (List Value)). front ++ row ∷ merged_rows rows rest) all.below all.above))

first_above : (row other : List Value) (rows others : List (List Value)) → key_of other <ℤ key_of row → merged_rows (row ∷ rows) (other ∷ others) ≡ other ∷ merged_rows (row ∷ rows) others
first_above row other rows others above = rw (lt_true (key_of other) (key_of row) above) (rw (lt_false (key_of row) (key_of other) above) refl)

merged_alone : (rows : List (List Value)) → merged_rows rows [] ≡ rows
merged_alone [] = refl
merged_alone (row ∷ rows) = ap (λ (rest : List (List Value)). row ∷ rest) (merged_alone rows)

-- rows of two lists, merged up to what is left of them, in so many steps
pub record IsMerging (all all_others : List (List Value)) (start : ℕ) (found rest others : List (List Value)) (steps : ℕ) : Type 0 where
  pub so_far : found ++ merged_rows rest others ≡ merged_rows all all_others
  pub order : Ascends rest
  pub order_others : Ascends others
  pub most : steps + (length rest + length others) ≤ start + (length all + length all_others)
  pub least : steps < 18446744073709551615 → start + (length all + length all_others) ≤ steps + (length found + (length rest + length others))

-- a row is put, and what is left is less by it and by no more than one other
put_row : (all all_others : List (List Value)) (start : ℕ) (found rest others : List (List Value)) (steps : ℕ) (row : List Value) (left left_others : List (List Value)) → IsMerging all all_others start found rest others steps →
    merged_rows rest others ≡ row ∷ merged_rows left left_others → Ascends left → Ascends left_others → 1 + (length left + length left_others) ≤ length rest + length others → length rest + length others ≤ 2 + (length left + length left_others) →
    IsMerging all all_others start (found ++ row ∷ []) left left_others (one_more steps)
put_row all all_others start found rest others steps row left left_others before is order order_others less some = record {
  so_far = pushed found (merged_rows left left_others) row ∙ ap (λ (more : List (List Value)). found ++ more) (sym is) ∙ before.so_far;
  order = order;
  order_others = order_others;
  most = let most = before.most in omega (arith, most, less, step_most steps);
  least = λ below.
      let step = step_least steps below in
      let least = before.least (omega (arith, below, step)) in
      let long = length-append found (row ∷ []) in
      omega (arith, step, least, some, long);
}

-- so it goes on by how the keys of the first rows compare
pub put_less : (all all_others : List (List Value)) (start : ℕ) (found rest others : List (List Value)) (steps : ℕ) (row other : List Value) (left left_others : List (List Value)) → IsMerging all all_others start found rest others steps →
    rest ≡ row ∷ left → others ≡ other ∷ left_others → int_cmp (key_of row) (key_of other) ≡ Less → IsMerging all all_others start (found ++ row ∷ []) left others (one_more steps)
put_less all all_others start found rest others steps row other left left_others before is is_others less =
    let P : List (List Value) → Type 0 = λ r. IsMerging all all_others start found r (other ∷ left_others) steps in
    let Q : List (List Value) → Type 0 = λ o. IsMerging all all_others start found rest o steps in
    let here : IsMerging all all_others start found (row ∷ left) (other ∷ left_others) steps = subst P is (subst Q is_others before) in
    let R : List (List Value) → Type 0 = λ o. IsMerging all all_others start (found ++ row ∷ []) left o (one_more steps) in
    subst R (sym is_others) (put_row all all_others start found (row ∷ left) (other ∷ left_others) steps row left (other ∷ left_others) here
    (first_below row other left left_others (below_from_less (key_of row) (key_of other) less) here.order_others) here.order.1 here.order_others (omega arith) (omega arith))

pub put_equal : (all all_others : List (List Value)) (start : ℕ) (found rest others : List (List Value)) (steps : ℕ) (row other : List Value) (left left_others : List (List Value)) → IsMerging all all_others start found rest others steps →
    rest ≡ row ∷ left → others ≡ other ∷ left_others → int_cmp (key_of row) (key_of other) ≡ Equal → IsMerging all all_others start (found ++ row ∷ []) left left_others (one_more steps)
put_equal all all_others start found rest others steps row other left left_others before is is_others same =
    let P : List (List Value) → Type 0 = λ r. IsMerging all all_others start found r (other ∷ left_others) steps in
    let Q : List (List Value) → Type 0 = λ o. IsMerging all all_others start found rest o steps in
    let here : IsMerging all all_others start found (row ∷ left) (other ∷ left_others) steps = subst P is (subst Q is_others before) in
    put_row all all_others start found (row ∷ left) (other ∷ left_others) steps row left left_others here
    (first_same row other left left_others (same_keys (key_of row) (key_of other) same) here.order_others) here.order.1 here.order_others.1 (omega arith) (omega arith)

pub put_greater : (all all_others : List (List Value)) (start : ℕ) (found rest others : List (List Value)) (steps : ℕ) (row other : List Value) (left left_others : List (List Value)) → IsMerging all all_others start found rest others steps →
    rest ≡ row ∷ left → others ≡ other ∷ left_others → int_cmp (key_of row) (key_of other) ≡ Greater → IsMerging all all_others start (found ++ other ∷ []) rest left_others (one_more steps)
put_greater all all_others start found rest others steps row other left left_others before is is_others greater =
    let P : List (List Value) → Type 0 = λ r. IsMerging all all_others start found r (other ∷ left_others) steps in
    let Q : List (List Value) → Type 0 = λ o. IsMerging all all_others start found rest o steps in
    let here : IsMerging all all_others start found (row ∷ left) (other ∷ left_others) steps = subst P is (subst Q is_others before) in
    let R : List (List Value) → Type 0 = λ r. IsMerging all all_others start (found ++ other ∷ []) r left_others (one_more steps) in
    subst R (sym is) (put_row all all_others start found (row ∷ left) (other ∷ left_others) steps other (row ∷ left) left_others here
    (first_above row other left left_others (above_from_greater (key_of row) (key_of other) greater)) here.order here.order_others.1 (omega arith) (omega arith))

-- where one of both is gone through, the rest is put as it is
pub both_put : (all all_others : List (List Value)) (start : ℕ) (found rest others : List (List Value)) (steps : ℕ) → IsMerging all all_others start found rest others steps → (rest ≡ []) ⊎ (others ≡ []) → (found ++ rest) ++ others ≡ merged_rows all all_others
both_put all all_others start found rest others steps before (inl none) =
    append_assoc found rest others ∙ ap (λ (r : List (List Value)). found ++ (r ++ others)) none ∙ sym (ap (λ (r : List (List Value)). found ++ merged_rows r others) none) ∙ before.so_far
both_put all all_others start found rest others steps before (inr none) =
    ap (λ (o : List (List Value)). (found ++ rest) ++ o) none ∙ append-nil (found ++ rest) ∙ sym (ap (λ (r : List (List Value)). found ++ r) (ap (merged_rows rest) none ∙ merged_alone rest)) ∙ before.so_far

pub so_merged : (all all_others : List (List Value)) (start : ℕ) (found made rest others : List (List Value)) (steps new : ℕ) → IsMerging all all_others start found rest others steps → made ≡ found → new ≡ steps → IsMerging all all_others start made rest others new
so_merged all all_others start found made rest others steps new is made_is new_is =
    let P : List (List Value) → Type 0 = λ f. IsMerging all all_others start f rest others new in
    let Q : ℕ → Type 0 = λ n. IsMerging all all_others start found rest others n in
    subst P (sym made_is) (subst Q (sym new_is) is)

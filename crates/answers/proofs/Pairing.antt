-- Two lists of rows with ascending keys, gone through side by side for the rows that have one key.
use Rattle.std.proofs.Common.{◌≡◌, ◌⊎◌, inl, inr, ℕ, ◌+◌, ◌<◌, ◌≤◌, ℤ, ◌<ℤ◌, List, [], ◌∷◌, ◌++◌, length, Option, Some, None, option_map, refl, ap, ap₂, sym, ◌∙◌, subst, append-nil, append_assoc, arith}
use Rattle.std.proofs.lemmas.List.{length-append}
use Rattle.std.specs.List.{AllByRecursion, cons_option}
use Rattle.std.specs.Option.{option_to_list}
use Rattle.std.specs.Ordering.{int_cmp}
use Rattle.std.specs.Vec.Iter.{into_iter_items, into_iter_len, into_iter_steps}
use Rattle.std.specs.declared.vec.IntoIter.{IntoIter}
use Rattle.std.specs.declared.cmp.Ordering.TheVariants.{Less, Equal, Greater}
use Rattle.terms.specs.declared.value.Value.{Value}
use Rattle.terms.specs.Row.{key_of}
use Rattle.meaning.specs.Relation.{Ascends}
use Rattle.meaning.proofs.Keys.{above_from_greater, below_from_less}
use Rattle.meaning.proofs.Rows.{below_all}
use Rattle.catalog.specs.Keyed.{row_at}
use Rattle.answers.specs.Evaluated.{key_pairs, pair}
use Rattle.answers.specs.Ledger.{one_more}
use Rattle.answers.specs.Merged.{rows_above}
use Rattle.answers.proofs.Merged.{all_above, key_pairs_above}
use Rattle.answers.proofs.Picked.{no_length}
use Rattle.answers.proofs.Merging.{has_it, not_above, same_keys, step_least, step_most}

-- what is left of a list: the first one that was taken out, if there is one, and those that are to come
abbrev pub left : {A : Type 0} → Option A → List A → List A
left None rest = []
left (Some first) rest = first ∷ rest

module _ {A Z : Type 0} where
  pub next_left : (old new : IntoIter A Z) (first : Option A) → into_iter_len old ≡ length (into_iter_items old) → into_iter_steps old first new → left first (into_iter_items new) ≡ into_iter_items old
  next_left old new None long steps = sym (no_length (into_iter_items old) (sym long ∙ steps.0))
  next_left old new (Some first) long steps = sym steps.0

  pub next_long : (old new : IntoIter A Z) (first : Option A) → into_iter_len old ≡ length (into_iter_items old) → into_iter_items old ≡ option_to_list first ++ into_iter_items new → into_iter_len new + length (option_to_list first) ≡ into_iter_len old →
      into_iter_len new ≡ length (into_iter_items new)
  next_long old new first long items len = let all = ap (λ (l : List A). length l) items ∙ length-append (option_to_list first) (into_iter_items new) in omega (arith, long, all, len)

-- what is paired, by the first rows of both

first_alone : (columns columns_other : List ℕ) (row other : List Value) (rows others : List (List Value)) → key_of row <ℤ key_of other → Ascends (other ∷ others) →
    key_pairs columns columns_other (row ∷ rows) (other ∷ others) ≡ key_pairs columns columns_other rows (other ∷ others)
first_alone columns columns_other row other rows others below order =
    let all = all_above row (other ∷ others) (below, below_all (key_of row) other others below order.0) in
    ap (λ (o : Option (List Value)). cons_option (option_map (pair columns columns_other row) o) (key_pairs columns columns_other rows (other ∷ others))) all.same

first_paired : (columns columns_other : List ℕ) (row other : List Value) (rows others : List (List Value)) → key_of row ≡ key_of other → Ascends (row ∷ rows) → Ascends (other ∷ others) →
    key_pairs columns columns_other (row ∷ rows) (other ∷ others) ≡ pair columns columns_other row other ∷ key_pairs columns columns_other rows others
first_paired columns columns_other row other rows others same order order_others =
    let P : ℤ → Type 0 = λ k. AllByRecursion (λ later. k <ℤ key_of later) others in
    let all = all_above row others (subst P (sym same) order_others.0) in
    let here : row_at (key_of row) (other ∷ others) ≡ Some other = rw (has_it (key_of row) (key_of other) same) refl in
    let past : rows_above row (other ∷ others) ≡ others = rw (not_above (key_of row) (key_of other) same) all.above in
    ap₂ (λ (o : Option (List Value)) (rest : List (List Value)). cons_option (option_map (pair columns columns_other row) o) rest) here
    (sym (key_pairs_above columns columns_other row rows (other ∷ others) order.0) ∙ ap (key_pairs columns columns_other rows) past)

first_passed : (columns columns_other : List ℕ) (row other : List Value) (rows others : List (List Value)) → key_of other <ℤ key_of row → Ascends (row ∷ rows) → Ascends (other ∷ others) →
    key_pairs columns columns_other (row ∷ rows) (other ∷ others) ≡ key_pairs columns columns_other (row ∷ rows) others
first_passed columns columns_other row other rows others above order order_others =
    let all = all_above other others order_others.0 in
    let past : rows_above other (other ∷ others) ≡ others = rw (not_above (key_of other) (key_of other) refl) all.above in
    sym (key_pairs_above columns columns_other other (row ∷ rows) (other ∷ others) (above, below_all (key_of other) row rows above order.0)) ∙ ap (key_pairs columns columns_other (row ∷ rows)) past

pub none_paired : (columns columns_other : List ℕ) (rows : List (List Value)) → key_pairs columns columns_other rows [] ≡ []
none_paired columns columns_other [] = refl
none_paired columns columns_other (row ∷ rows) = none_paired columns columns_other rows

-- rows of two lists, paired up to what is left of them, in so many steps
pub record IsPairing (columns columns_other : List ℕ) (all all_others : List (List Value)) (start : ℕ) (found rest others : List (List Value)) (steps : ℕ) : Type 0 where
  pub so_far : found ++ key_pairs columns columns_other rest others ≡ key_pairs columns columns_other all all_others
  pub order : Ascends rest
  pub order_others : Ascends others
  pub most : steps + (length rest + length others) ≤ start + (length all + length all_others)
  pub least : steps < 18446744073709551615 → start + length found ≤ steps

-- one comparison more, of two rows of which one at least is done with
more_paired : (columns columns_other : List ℕ) (all all_others : List (List Value)) (start : ℕ) (found rest others : List (List Value)) (steps : ℕ) (made left left_others : List (List Value)) → IsPairing columns columns_other all all_others start found rest others steps →
    made ++ key_pairs columns columns_other left left_others ≡ found ++ key_pairs columns columns_other rest others → length made ≤ length found + 1 → Ascends left → Ascends left_others → 1 + (length left + length left_others) ≤ length rest + length others →
    IsPairing columns columns_other all all_others start made left left_others (one_more steps)
more_paired columns columns_other all all_others start found rest others steps made left left_others before is few order order_others less = record {
  so_far = is ∙ before.so_far;
  order = order;
  order_others = order_others;
  most = let most = before.most in omega (arith, most, less, step_most steps);
  least = λ below.
      let step = step_least steps below in
      let least = before.least (omega (arith, below, step)) in
      omega (arith, step, least, few);
}

pub pair_less : (columns columns_other : List ℕ) (all all_others : List (List Value)) (start : ℕ) (found rest others : List (List Value)) (steps : ℕ) (row other : List Value) (left left_others : List (List Value)) →
    IsPairing columns columns_other all all_others start found rest others steps → rest ≡ row ∷ left → others ≡ other ∷ left_others → int_cmp (key_of row) (key_of other) ≡ Less → IsPairing columns columns_other all all_others start found left others (one_more steps)
pair_less columns columns_other all all_others start found rest others steps row other left left_others before is is_others less =
    let P : List (List Value) → Type 0 = λ r. IsPairing columns columns_other all all_others start found r (other ∷ left_others) steps in
    let Q : List (List Value) → Type 0 = λ o. IsPairing columns columns_other all all_others start found rest o steps in
    let here : IsPairing columns columns_other all all_others start found (row ∷ left) (other ∷ left_others) steps = subst P is (subst Q is_others before) in
    let R : List (List Value) → Type 0 = λ o. IsPairing columns columns_other all all_others start found left o (one_more steps) in
    subst R (sym is_others) (more_paired columns columns_other all all_others start found (row ∷ left) (other ∷ left_others) steps found left (other ∷ left_others) here
    (ap (λ (rest : List (List Value)). found ++ rest) (sym (first_alone columns columns_other row other left left_others (below_from_less (key_of row) (key_of other) less) here.order_others))) (omega arith) here.order.1
    here.order_others (omega arith))

pub pair_equal : (columns columns_other : List ℕ) (all all_others : List (List Value)) (start : ℕ) (found rest others : List (List Value)) (steps : ℕ) (row other : List Value) (left left_others : List (List Value)) →
    IsPairing columns columns_other all all_others start found rest others steps → rest ≡ row ∷ left → others ≡ other ∷ left_others → int_cmp (key_of row) (key_of other) ≡ Equal →
    IsPairing columns columns_other all all_others start (found ++ pair columns columns_other row other ∷ []) left left_others (one_more steps)
pair_equal columns columns_other all all_others start found rest others steps row other left left_others before is is_others same =
    let P : List (List Value) → Type 0 = λ r. IsPairing columns columns_other all all_others start found r (other ∷ left_others) steps in
    let Q : List (List Value) → Type 0 = λ o. IsPairing columns columns_other all all_others start found rest o steps in
    let here : IsPairing columns columns_other all all_others start found (row ∷ left) (other ∷ left_others) steps = subst P is (subst Q is_others before) in
    let made : List Value = pair columns columns_other row other in
    let long = length-append found (made ∷ []) in
    more_paired columns columns_other all all_others start found (row ∷ left) (other ∷ left_others) steps (found ++ made ∷ []) left left_others here
    (append_assoc found (made ∷ []) (key_pairs columns columns_other left left_others)
    ∙ ap (λ (rest : List (List Value)). found ++ rest) (sym (first_paired columns columns_other row other left left_others (same_keys (key_of row) (key_of other) same) here.order here.order_others))) (omega (arith, long)) here.order.1
    here.order_others.1 (omega arith)

pub pair_greater : (columns columns_other : List ℕ) (all all_others : List (List Value)) (start : ℕ) (found rest others : List (List Value)) (steps : ℕ) (row other : List Value) (left left_others : List (List Value)) →
    IsPairing columns columns_other all all_others start found rest others steps → rest ≡ row ∷ left → others ≡ other ∷ left_others → int_cmp (key_of row) (key_of other) ≡ Greater → IsPairing columns columns_other all all_others start found rest left_others (one_more steps)
pair_greater columns columns_other all all_others start found rest others steps row other left left_others before is is_others greater =
    let P : List (List Value) → Type 0 = λ r. IsPairing columns columns_other all all_others start found r (other ∷ left_others) steps in
    let Q : List (List Value) → Type 0 = λ o. IsPairing columns columns_other all all_others start found rest o steps in
    let here : IsPairing columns columns_other all all_others start found (row ∷ left) (other ∷ left_others) steps = subst P is (subst Q is_others before) in
    let R : List (List Value) → Type 0 = λ r. IsPairing columns columns_other all all_others start found r left_others (one_more steps) in
    subst R (sym is) (more_paired columns columns_other all all_others start found (row ∷ left) (other ∷ left_others) steps found (row ∷ left) left_others here
    (ap (λ (rest : List (List Value)). found ++ rest) (sym (first_passed columns columns_other row other left left_others (above_from_greater (key_of row) (key_of other) greater) here.order here.order_others))) (omega arith) here.order
    here.order_others.1 (omega arith))

-- where one of both is gone through, no pair is left
pub both_paired : (columns columns_other : List ℕ) (all all_others : List (List Value)) (start : ℕ) (found rest others : List (List Value)) (steps : ℕ) → IsPairing columns columns_other all all_others start found rest others steps → (rest ≡ []) ⊎ (others ≡ []) →
    found ≡ key_pairs columns columns_other all all_others
both_paired columns columns_other all all_others start found rest others steps before (inl none) =
    sym (ap (λ (r : List (List Value)). found ++ key_pairs columns columns_other r others) none ∙ append-nil found) ∙ before.so_far
both_paired columns columns_other all all_others start found rest others steps before (inr none) =
    sym (ap (λ (o : List (List Value)). found ++ o) (ap (key_pairs columns columns_other rest) none ∙ none_paired columns columns_other rest) ∙ append-nil found) ∙ before.so_far

pub so_paired : (columns columns_other : List ℕ) (all all_others : List (List Value)) (start : ℕ) (found made rest left_rest others left_others : List (List Value)) (steps new : ℕ) → IsPairing columns columns_other all all_others start found rest others steps → made ≡ found → left_rest ≡ rest →
    left_others ≡ others → new ≡ steps → IsPairing columns columns_other all all_others start made left_rest left_others new
so_paired columns columns_other all all_others start found made rest left_rest others left_others steps new is made_is rest_is others_is new_is =
    let P : List (List Value) → Type 0 = λ f. IsPairing columns columns_other all all_others start f left_rest left_others new in
    let Q : List (List Value) → Type 0 = λ r. IsPairing columns columns_other all all_others start found r left_others new in
    let R : List (List Value) → Type 0 = λ o. IsPairing columns columns_other all all_others start found rest o new in
    let S : ℕ → Type 0 = λ n. IsPairing columns columns_other all all_others start found rest others n in
    subst P (sym made_is) (subst Q (sym rest_is) (subst R (sym others_is) (subst S (sym new_is) is)))

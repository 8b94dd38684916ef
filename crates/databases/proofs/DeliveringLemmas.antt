-- Lemmas on how letters are delivered.
use Rattle.std.proofs.Common.{◌≡◌, inl, inr, ℕ, zero, suc, ◌+◌, Bool, true, false, List, [], ◌∷◌, ◌++◌, Some, drop, refl, sym, ap, ◌∙◌, arith, append-nil, append_assoc, cond}
use Rattle.std.proofs.Math.ListN.{set}
use Rattle.databases.specs.Delivering.{DeliversAt, DeliversEach, first_due, first_due_from, is_due}
use Rattle.databases.specs.Schedule.{Stage, unseen}

-- one letter more, after others
pub DeliversEach-more : (but places : List ℕ) (place : ℕ) (before middle after : Stage) (told more : List ℕ) → DeliversEach but places before middle told → first_due but middle ≡ Some place → DeliversAt place true middle after more →
    DeliversEach but (places ++ place ∷ []) before after (told ++ more)
DeliversEach-more but [] place before middle after told more done due next =
    let start : before ≡ middle = sym done.0 in
    rw (start, done.1) (after, more, [], due, next, (refl, refl), sym (append-nil more))
DeliversEach-more but (first ∷ places) place before middle after told more done due next = (
  done.0,
  done.1,
  done.2 ++ more,
  done.3,
  done.4,
  DeliversEach-more but places place done.0 middle after done.2 more done.5 due next,
  ap (λ (front : List ℕ). front ++ more) done.6 ∙ append_assoc done.1 done.2 more,
)

-- once the first letter that is due has come, the next is looked for behind it
due_behind : (but : List ℕ) (came more : List Bool) (here i : ℕ) → first_due_from here but came ≡ Some (here + i) →
    first_due_from here but (set came i true ++ more) ≡ first_due_from (here + i + 1) but (drop (i + 1) (set came i true ++ more))
due_behind but [] more here i due = absurd (cc)
due_behind but (c ∷ came) more here zero due = let same : here + zero ≡ here = omega arith in rw same refl
due_behind but (c ∷ came) more here (suc j) due =
    let number : here + suc j ≡ here + 1 + j = omega arith in
    let places : suc j + 1 ≡ suc (j + 1) = omega arith in
    rw (number, places) (by_due (is_due but (here + 1) c) (due_behind but came more (here + 1) j) (due ∙ ap (λ (n : ℕ). Some n) number))
  where
    by_due : (is : Bool) → (first_due_from (here + 1) but came ≡ Some (here + 1 + j) → first_due_from (here + 1) but (set came j true ++ more) ≡ first_due_from (here + 1 + j + 1) but (drop (j + 1) (set came j true ++ more))) →
        cond is (Some here) (first_due_from (here + 1) but came) ≡ Some (here + 1 + j) → cond is (Some here) (first_due_from (here + 1) but (set came j true ++ more)) ≡ first_due_from (here + 1 + j + 1) but (drop (j + 1) (set came j true ++ more))
    by_due true next e = let same : here ≡ here + 1 + j = cc in absurd (omega arith)
    by_due false next e = next e

-- a letter that is delivered has come, and others may be sent
came_after : (place : ℕ) (before after : Stage) (text : List ℕ) → DeliversAt place true before after text → (more : List Bool) × (after.came ≡ set before.came place true ++ more)
came_after place before after text (inl happens) = (unseen happens.out.letters, happens.came)
came_after place before after text (inr refused) = ([], ap (λ (stage : Stage). stage.came) refused.turned_down.same ∙ sym (append-nil (set before.came place true)))

-- behind a letter that is delivered as the first that is due the next is looked for
pub next_behind : (but : List ℕ) (place : ℕ) (before after : Stage) (text : List ℕ) → first_due but before ≡ Some place → DeliversAt place true before after text → first_due but after ≡ first_due_from (place + 1) but (drop (place + 1) after.came)
next_behind but place before after text due delivered =
    let more = came_after place before after text delivered in
    let number : 0 + place ≡ place = omega arith in
    let behind : first_due_from 0 but (set before.came place true ++ more.0) ≡ first_due_from (place + 1) but (drop (place + 1) (set before.came place true ++ more.0)) =
    due_behind but before.came more.0 0 place (due ∙ ap (λ (n : ℕ). Some n) (sym number)) ∙ ap (λ (n : ℕ). first_due_from (n + 1) but (drop (place + 1) (set before.came place true ++ more.0))) number in
    rw more.1 behind

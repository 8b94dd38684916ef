-- Conditions that ask for one key find what stands at that key.
use Rattle.std.proofs.Common.{◌≡◌, ℤ, List, [], ◌∷◌, true, false, cond, T, Option, Some, None, IfSome, unwrap_or, option_to_list, map, refl, ap, sym, ◌∙◌, subst}
use Rattle.std.specs.Cmp.{int_cmp_total, tied_itself}
use Rattle.std.specs.FinMap as fin
use Rattle.std.specs.FinMap.Entries.{below_all}
use Rattle.std.specs.List.{AllByRecursion, filter}
use Rattle.std.specs.Ordering.{int_cmp, is_eq, is_lt}
use Rattle.std.specs.declared.cmp.Ordering.{Ordering}
use Rattle.std.specs.declared.cmp.Ordering.TheVariants.{Less, Equal, Greater}
use Rattle.terms.specs.declared.cond.Cond.{Cond}
use Rattle.terms.specs.declared.leaf.Leaf.{Leaf}
use Rattle.terms.specs.declared.value.Value.{Value}
use Rattle.terms.specs.Cond.{conds_hold}
use Rattle.terms.specs.Row.{key_of}
use Rattle.store.specs.Slot.{slot_of}
use Rattle.store.specs.Content.{Content, Changes, AreKeyed, IsKeyed, changed, parts}
use Rattle.store.specs.ContentLaws.{get-changed}
use Rattle.store.specs.Laws.{AskKey}
use Rattle.store.proofs.Scans.{and_left, and_right, find_below}

-- keys that differ don't tie
apart : (one other : ℤ) → (one ≡ other) → is_eq (int_cmp one other) ≡ true
apart one other same = ap (λ k. is_eq (int_cmp one k)) (sym same) ∙ ap is_eq (tied_itself int_cmp_total one)

-- a part that meets conditions on a key stands under it
module _ (conds : List Cond) (key : ℤ) (ask : AskKey conds key) where
  -- it isn't met where another key stands
  fails_elsewhere : (other : ℤ) (part : List Value) → key_of part ≡ other → is_eq (int_cmp key other) ≡ false → conds_hold conds part ≡ false
  fails_elsewhere other part under differ =
      elim (conds_hold conds part) as (λ b. conds_hold conds part ≡ b → b ≡ false) [
        | true ↦ λ holds. let tie = apart key other (sym (ask part holds) ∙ under) in cc
        | false ↦ λ fails. refl
      ] refl

  skipped : (other : ℤ) (part : List Value) (rest : List (List Value)) → key_of part ≡ other → is_eq (int_cmp key other) ≡ false → filter (conds_hold conds) (part ∷ rest) ≡ filter (conds_hold conds) rest
  skipped other part rest under differ = ap (λ b. cond b (part ∷ filter (conds_hold conds) rest) (filter (conds_hold conds) rest)) (fails_elsewhere other part under differ)

  -- nothing is met behind the key
  none_behind : (pairs : List (ℤ × List Value)) → T (below_all int_cmp key pairs) → AllByRecursion (λ pair. key_of pair.1 ≡ pair.0) pairs → filter (conds_hold conds) (map (λ pair. pair.1) pairs) ≡ []
  none_behind [] below keyed = refl
  none_behind (pair ∷ pairs) below keyed =
      skipped pair.0 pair.1 (map (λ p. p.1) pairs) keyed.0 (not_tied (int_cmp key pair.0) (and_left _ _ below))
      ∙ none_behind pairs (and_right _ _ below) keyed.1
    where
      not_tied : (r : Ordering) → T (is_lt r) → is_eq r ≡ false
      not_tied Less is = refl
      not_tied Equal is = absurd is
      not_tied Greater is = absurd is

  -- what is met is what the key finds
  met_at : (pairs : List (ℤ × List Value)) → T (fin.is_sorted int_cmp pairs) → AllByRecursion (λ pair. key_of pair.1 ≡ pair.0) pairs →
      filter (conds_hold conds) (map (λ pair. pair.1) pairs) ≡ filter (conds_hold conds) (option_to_list (fin.find int_cmp key pairs))
  met_at [] sorted keyed = refl
  met_at (pair ∷ pairs) sorted keyed =
      let later = map (λ p. p.1) pairs in
      let rest = met_at pairs (and_right _ _ sorted) keyed.1 in
      elim (int_cmp key pair.0) as (λ r. int_cmp key pair.0 ≡ r → filter (conds_hold conds) (pair.1 ∷ later) ≡ filter (conds_hold conds) (option_to_list (cond (is_eq r) (Some pair.1) (fin.find int_cmp key pairs)))) [
        | Less ↦ λ is. skipped pair.0 pair.1 later keyed.0 (ap is_eq is) ∙ rest
        | Equal ↦ λ tie.
            let behind = none_behind pairs (subst (λ k. T (below_all int_cmp k pairs)) (sym (fin.int_cmp-IsAntisymmetric key pair.0 tie)) (and_left _ _ sorted)) keyed.1 in
            ap (λ ps. cond (conds_hold conds pair.1) (pair.1 ∷ ps) ps) behind
        | Greater ↦ λ is. skipped pair.0 pair.1 later keyed.0 (ap is_eq is) ∙ rest
      ] refl

-- each entry of a keyed content has its key
keyed_pairs : (pairs : List (ℤ × List Value)) → T (fin.is_sorted int_cmp pairs) → ((key : ℤ) → IfSome (fin.find int_cmp key pairs) (λ part. key_of part ≡ key)) → AllByRecursion (λ pair. key_of pair.1 ≡ pair.0) pairs
keyed_pairs [] sorted keyed = tt
keyed_pairs (pair ∷ pairs) sorted keyed = (
  subst (λ r. IfSome (cond (is_eq r) (Some pair.1) (fin.find int_cmp pair.0 pairs)) (λ part. key_of part ≡ pair.0)) (tied_itself int_cmp_total pair.0) (keyed pair.0),
  keyed_pairs pairs (and_right _ _ sorted) later,
)
  where
    later : (key : ℤ) → IfSome (fin.find int_cmp key pairs) (λ part. key_of part ≡ key)
    later key =
        elim (int_cmp key pair.0) as (λ r. int_cmp key pair.0 ≡ r → IfSome (cond (is_eq r) (Some pair.1) (fin.find int_cmp key pairs)) (λ part. key_of part ≡ key) → IfSome (fin.find int_cmp key pairs) (λ part. key_of part ≡ key)) [
          | Less ↦ λ is here. here
          | Equal ↦ λ tie here.
              let none = find_below key pairs (subst (λ k. T (below_all int_cmp k pairs)) (sym (fin.int_cmp-IsAntisymmetric key pair.0 tie)) (and_left _ _ sorted)) in
              subst (λ (found : Option (List Value)). IfSome found (λ part. key_of part ≡ key)) (sym none) tt
          | Greater ↦ λ is here. here
        ] refl (keyed key)

-- what is changed stays keyed
keyed_changed : (leaf : Leaf) (changes : Changes) (content : Content) → AreKeyed changes → IsKeyed content → IsKeyed (changed leaf changes content)
keyed_changed leaf changes content keyed_changes keyed key =
    subst (λ (found : Option (List Value)). IfSome found (λ part. key_of part ≡ key)) (sym (get-changed leaf changes content key)) (here _ refl)
  where
    here : (found : Option (Option (List Value))) → fin.get changes (slot_of leaf key) ≡ found → IfSome (unwrap_or found (fin.get content key)) (λ part. key_of part ≡ key)
    here None is = keyed key
    here (Some None) is = tt
    here (Some (Some part)) is = keyed_changes (slot_of leaf key) part is

-- what conditions on one key find in a keyed content
pub found_by_key : (content : Content) (conds : List Cond) (key : ℤ) → IsKeyed content → AskKey conds key → parts conds content ≡ filter (conds_hold conds) (option_to_list (fin.get content key))
found_by_key content conds key keyed ask =
    let all_keyed = keyed_pairs (fin.entries content) (fin.entries_sorted content) (λ k. subst (λ (found : Option (List Value)). IfSome found (λ part. key_of part ≡ k)) (fin.get-entries content k) (keyed k)) in
    met_at conds key ask (fin.entries content) (fin.entries_sorted content) all_keyed
    ∙ ap (λ found. filter (conds_hold conds) (option_to_list found)) (sym (fin.get-entries content key))

-- and in one that was changed
pub changed_by_key : (leaf : Leaf) (changes : Changes) (content : Content) (conds : List Cond) (key : ℤ) → AreKeyed changes → IsKeyed content → AskKey conds key →
    parts conds (changed leaf changes content) ≡ filter (conds_hold conds) (option_to_list (unwrap_or (fin.get changes (slot_of leaf key)) (fin.get content key)))
changed_by_key leaf changes content conds key keyed_changes keyed ask =
    found_by_key (changed leaf changes content) conds key (keyed_changed leaf changes content keyed_changes keyed) ask
    ∙ ap (λ found. filter (conds_hold conds) (option_to_list found)) (get-changed leaf changes content key)

-- What one change more does to the content of a leaf, and to what is touched.
use Rattle.std.proofs.Common.{◌≡◌, ℤ, List, [], ◌∷◌, Bool, true, false, cond, ◌||◌, Option, Some, unwrap_or, map, refl, ap, sym, ◌∙◌, if◌then◌else◌}
use Rattle.std.specs.FinMap as fin
use Rattle.std.specs.FinMap.Entries.{by_order}
use Rattle.std.specs.List.{list_any}
use Rattle.std.specs.Ordering.{int_cmp, is_eq, ordering_then}
use Rattle.std.specs.declared.cmp.Ordering.TheVariants.{Less, Equal, Greater}
use Rattle.terms.specs.declared.leaf.Leaf.{Leaf}
use Rattle.terms.specs.declared.value.Value.{Value}
use Rattle.terms.specs.Leaf.{leaf_cmp}
use Rattle.store.specs.declared.slot.Slot.{Slot}
use Rattle.store.specs.Slot.{slot_of, slot_cmp}
use Rattle.store.specs.Orders.{slot_cmp_total, slot_cmp-IsAntisymmetric}
use Rattle.store.specs.Content.{Content, Changes, changed, is_of, set_at, touches}
use Rattle.store.specs.ContentLaws.{get-changed, get-set_at, same_content}
use Rattle.store.specs.Entries.{Entries}
use Rattle.store.proofs.Views.{sorted_view}

-- nothing is changed where there are no changes
pub changed_none : (leaf : Leaf) (content : Content) → changed leaf fin.empty content ≡ content
changed_none leaf content =
    same_content _ content (λ q. get-changed leaf fin.empty content q ∙ ap (λ found. unwrap_or found (fin.get content q)) (fin.get-empty slot_cmp (slot_of leaf q)))

-- and no leaf is touched
pub touches_none : (leaf : Leaf) → touches leaf fin.empty ≡ false
touches_none leaf = ap (λ (entries : Entries). list_any (is_of leaf) (map (λ entry. entry.0) entries)) (sorted_view slot_cmp_total slot_cmp-IsAntisymmetric [] tt)

-- at each key
changed_at : (leaf : Leaf) (slot : Slot) (part : Option (List Value)) (changes : Changes) (content : Content) (q : ℤ) →
    fin.get (changed leaf (fin.insert changes slot part) content) q ≡ fin.get (cond (is_of leaf slot) (set_at slot.key part (changed leaf changes content)) (changed leaf changes content)) q
changed_at leaf slot part changes content q =
    let before = fin.get changes (slot_of leaf q) in
    let there = fin.get content q in
    get-changed leaf (fin.insert changes slot part) content q
    ∙ ap (λ found. unwrap_or found there) (fin.get-insert slot_cmp_total changes slot part (slot_of leaf q))
    ∙ elim (leaf_cmp leaf slot.leaf) as (λ r. unwrap_or (cond (is_eq (ordering_then r (int_cmp q slot.key))) (Some part) before) there ≡ fin.get (cond (is_eq r) (set_at slot.key part (changed leaf changes content)) (changed leaf changes content)) q) [
      | Less ↦ sym (get-changed leaf changes content q)
      | Equal ↦
          elim (is_eq (int_cmp q slot.key)) as (λ b. unwrap_or (cond b (Some part) before) there ≡ cond b part (fin.get (changed leaf changes content) q)) [ true ↦ refl | false ↦ sym (get-changed leaf changes content q) ]
          ∙ sym (get-set_at slot.key part (changed leaf changes content) q)
      | Greater ↦ sym (get-changed leaf changes content q)
    ]

-- one change more is made last, in its leaf alone
pub changed_more : (leaf : Leaf) (slot : Slot) (part : Option (List Value)) (changes : Changes) (content : Content) →
    changed leaf (fin.insert changes slot part) content ≡ (if is_of leaf slot then set_at slot.key part (changed leaf changes content) else changed leaf changes content)
changed_more leaf slot part changes content = same_content _ _ (changed_at leaf slot part changes content)

swapped : (one other rest : Bool) → (one || (other || rest)) ≡ (other || (one || rest))
swapped true true rest = refl
swapped true false rest = refl
swapped false true rest = refl
swapped false false rest = refl

once : (one rest : Bool) → (one || (one || rest)) ≡ (one || rest)
once true rest = refl
once false rest = refl

touched_put : (leaf : Leaf) (slot : Slot) (part : Option (List Value)) (entries : Entries) → list_any (is_of leaf) (map (λ entry. entry.0) (fin.put slot_cmp slot part entries)) ≡ (is_of leaf slot || list_any (is_of leaf) (map (λ entry. entry.0) entries))
touched_put leaf slot part [] = refl
touched_put leaf slot part (entry ∷ entries) =
    let later = list_any (is_of leaf) (map (λ entry. entry.0) entries) in
    elim (slot_cmp slot entry.0) as (λ r. slot_cmp slot entry.0 ≡ r → list_any (is_of leaf) (map (λ entry. entry.0) (by_order r ((slot, part) ∷ entry ∷ entries) ((entry.0, part) ∷ entries) (entry ∷ fin.put slot_cmp slot part entries))) ≡ (is_of leaf slot || (is_of leaf entry.0 || later))) [
      | Less ↦ λ is. refl
      | Equal ↦ λ is. sym (ap (λ s. is_of leaf s || (is_of leaf entry.0 || later)) (slot_cmp-IsAntisymmetric slot entry.0 is) ∙ once (is_of leaf entry.0) later)
      | Greater ↦ λ is. ap (λ rest. is_of leaf entry.0 || rest) (touched_put leaf slot part entries) ∙ swapped (is_of leaf entry.0) (is_of leaf slot) later
    ] refl

-- one change more touches its leaf alone
pub touches_more : (leaf : Leaf) (slot : Slot) (part : Option (List Value)) (changes : Changes) → touches leaf (fin.insert changes slot part) ≡ (is_of leaf slot || touches leaf changes)
touches_more leaf slot part changes =
    ap (λ (entries : Entries). list_any (is_of leaf) (map (λ entry. entry.0) entries)) (fin.entries-insert slot_cmp_total changes slot part)
    ∙ touched_put leaf slot part (fin.entries changes)

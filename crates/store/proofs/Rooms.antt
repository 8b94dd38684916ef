-- Entries of the map that holds changes, as they are put and taken.
use Rattle.std.proofs.Common.{◌≡◌, List, ◌∷◌, true, false, cond, Option, Some, None, IsSome, is_some, unwrap_or, refl, ap, sym, ◌∙◌, subst}
use Rattle.std.specs.BTreeMap.{is_at}
use Rattle.std.specs.Cmp.{eq_by_cmp_equiv}
use Rattle.std.specs.Ordering.{is_eq}
use Rattle.std.specs.declared.cmp.Ordering.{Ordering}
use Rattle.std.specs.declared.cmp.Ordering.TheVariants.{Less, Equal, Greater}
use Rattle.terms.specs.declared.value.Value.{Value}
use Rattle.store.specs.declared.slot.Slot.{Slot}
use Rattle.store.specs.Slot.{slot_cmp}
use Rattle.store.specs.Orders.{slot_cmp-IsAntisymmetric, slot_cmp_total}
use Rattle.store.specs.Entries.{Entries, entry_at, part_at}

none_of : {X : Type 0} (found : Option X) → is_some found ≡ false → found ≡ None
none_of None is = refl
none_of (Some x) is = cc

-- room that is made puts no part anywhere
pub room_parts : (old new : Entries) (slot : Slot) → is_some (entry_at old slot) ≡ false → ((q : Slot) → entry_at new q ≡ cond (is_at (slot_cmp slot) q) (Some None) (entry_at old q)) → (q : Slot) → part_at new q ≡ part_at old q
room_parts old new slot absent updates q =
    ap (λ found. unwrap_or found None) (updates q)
    ∙ elim (slot_cmp slot q) as (λ r. slot_cmp slot q ≡ r → unwrap_or (cond (is_eq r) (Some None) (entry_at old q)) None ≡ unwrap_or (entry_at old q) None) [
      | Less ↦ λ is. refl
      | Equal ↦ λ is. ap (λ found. unwrap_or found None) (sym (none_of _ (ap (λ s. is_some (entry_at old s)) (sym (slot_cmp-IsAntisymmetric slot q is)) ∙ absent)))
      | Greater ↦ λ is. refl
    ] refl

-- and takes no entry away
pub room_grows : (old new : Entries) (slot : Slot) → ((q : Slot) → entry_at new q ≡ cond (is_at (slot_cmp slot) q) (Some None) (entry_at old q)) → (q : Slot) → IsSome (entry_at old q) → IsSome (entry_at new q)
room_grows old new slot updates q there =
    ap is_some (updates q)
    ∙ elim (is_at (slot_cmp slot) q) as (λ b. is_some (cond b (Some None) (entry_at old q)) ≡ true) [ true ↦ refl | false ↦ there ]

-- what was looked at has its room, and what is looked at now
pub rooms_more : (changes rest new : Entries) (before after : Slot → Option (Option (List Value))) (slot : Slot) (part : Option (List Value)) → ((q : Slot) (p : List Value) → entry_at changes q ≡ Some (Some p) → entry_at rest q ≡ None → IsSome (before q)) → rest ≡ (slot, part) ∷ new → entry_at changes slot ≡ Some part →
    ((q : Slot) → IsSome (before q) → IsSome (after q)) → (IsSome part → IsSome (after slot)) → (q : Slot) (p : List Value) → entry_at changes q ≡ Some (Some p) → entry_at new q ≡ None → IsSome (after q)
rooms_more changes rest new before after slot part so_far step turn grows made q p is gone =
    elim (slot_cmp q slot) as (λ r. slot_cmp q slot ≡ r → IsSome (after q)) [
      | Less ↦ λ apart. grows q (so_far q p is (ap (λ es. entry_at es q) step ∙ ap (λ r. cond (is_eq r) (Some part) (entry_at new q)) apart ∙ gone))
      | Equal ↦ λ tie.
          let same = slot_cmp-IsAntisymmetric q slot tie in
          subst (λ s. IsSome (after s)) (sym same) (made (ap (λ o. is_some (unwrap_or o None)) (sym turn ∙ ap (entry_at changes) (sym same) ∙ is)))
      | Greater ↦ λ apart. grows q (so_far q p is (ap (λ es. entry_at es q) step ∙ ap (λ r. cond (is_eq r) (Some part) (entry_at new q)) apart ∙ gone))
    ] refl

-- there is an entry wherever a part is to be put
abbrev pub HasRoomsAt : Entries → (Slot → Option (Option (List Value))) → Type 0
HasRoomsAt changes there = (slot : Slot) (part : List Value) → entry_at changes slot ≡ Some (Some part) → IsSome (there slot)

-- the room of the change that comes next
pub room_here : (rest : Entries) (slots : Slot → Option (Option (List Value))) (slot : Slot) (part : Option (List Value)) → HasRoomsAt rest slots → entry_at rest slot ≡ Some part → IsSome part → IsSome (slots slot)
room_here rest slots slot None rooms is some = cc
room_here rest slots slot (Some p) rooms is some = rooms slot p is

-- the changes that are left, over what was made
pub filled_more : (rest new : Entries) (slots after : Slot → Option (List Value)) (slot : Slot) (part : Option (List Value)) → ((q : Slot) → entry_at new q ≡ cond (is_at (slot_cmp slot) q) None (entry_at rest q)) → entry_at rest slot ≡ Some part → ((q : Slot) → after q ≡ cond (is_at (slot_cmp slot) q) part (slots q)) →
    (q : Slot) → unwrap_or (entry_at new q) (after q) ≡ unwrap_or (entry_at rest q) (slots q)
filled_more rest new slots after slot part updates value parts q =
    ap (λ o. unwrap_or o (after q)) (updates q)
    ∙ ap (unwrap_or (cond (is_at (slot_cmp slot) q) None (entry_at rest q))) (parts q)
    ∙ elim (slot_cmp slot q) as (λ r. slot_cmp slot q ≡ r → unwrap_or (cond (is_eq r) None (entry_at rest q)) (cond (is_eq r) part (slots q)) ≡ unwrap_or (entry_at rest q) (slots q)) [
      | Less ↦ λ is. refl
      | Equal ↦ λ is. sym (ap (λ o. unwrap_or o (slots q)) (ap (entry_at rest) (sym (slot_cmp-IsAntisymmetric slot q is)) ∙ value))
      | Greater ↦ λ is. refl
    ] refl

-- and their rooms
pub rooms_left : (rest new : Entries) (slots after : Slot → Option (Option (List Value))) (slot : Slot) → HasRoomsAt rest slots → ((q : Slot) → entry_at new q ≡ cond (is_at (slot_cmp slot) q) None (entry_at rest q)) → ((q : Slot) → is_at (slot_cmp slot) q ≡ false → after q ≡ slots q) → HasRoomsAt new after
rooms_left rest new slots after slot rooms updates others q p is =
    elim (is_at (slot_cmp slot) q) as (λ b. is_at (slot_cmp slot) q ≡ b → entry_at new q ≡ cond b None (entry_at rest q) → IsSome (after q)) [
      | true ↦ λ here none. let h = sym is ∙ none in cc
      | false ↦ λ apart same. ap is_some (others q apart) ∙ rooms q p (sym same ∙ is)
    ] refl (updates q)

-- what is not left to copy is copied
pub copied_more : (all rest new copies after : Entries) (slot : Slot) (part : Option (List Value)) → ((q : Slot) → entry_at rest q ≡ None → entry_at copies q ≡ entry_at all q) → rest ≡ (slot, part) ∷ new → entry_at all slot ≡ Some part →
    ((q : Slot) → entry_at after q ≡ cond (is_at (slot_cmp slot) q) (Some part) (entry_at copies q)) → (q : Slot) → entry_at new q ≡ None → entry_at after q ≡ entry_at all q
copied_more all rest new copies after slot part so_far step turn updates q gone =
    updates q
    ∙ elim (slot_cmp slot q) as (λ r. slot_cmp slot q ≡ r → cond (is_eq r) (Some part) (entry_at copies q) ≡ entry_at all q) [
      | Less ↦ λ is. so_far q (left is refl)
      | Equal ↦ λ is. sym turn ∙ ap (entry_at all) (slot_cmp-IsAntisymmetric slot q is)
      | Greater ↦ λ is. so_far q (left is refl)
    ] refl
  where
    left : {r : Ordering} → slot_cmp slot q ≡ r → is_eq r ≡ false → entry_at rest q ≡ None
    left {r} is apart =
        ap (λ es. entry_at es q) step
        ∙ ap (λ b. cond b (Some part) (entry_at new q)) (sym ((eq_by_cmp_equiv slot_cmp_total).symm slot q) ∙ ap is_eq is ∙ apart) ∙ gone

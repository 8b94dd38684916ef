-- The slots between the leaf before a leaf and the leaf after it have all entries of the leaf.
use Rattle.std.proofs.Common.{◌≡◌, ℕ, ℤ, ◌<◌, arith, append_assoc, append-nil, if◌then◌else◌, List, [], ◌∷◌, ◌++◌, Bool, true, false, cond, ◌&&◌, ◌||◌, not, Option, option_to_list, map, refl, ap, ap₂, sym, ◌∙◌}
use Rattle.std.specs.Cmp.{tied_itself}
use Rattle.std.specs.Cmp.Lexicographic.{slice_cmp, nat_list_cmp_total}
use Rattle.std.proofs.lemmas.Bool.Decides.{nat_tests}
use Rattle.std.specs.BTreeMap.Range.{entries_between, range_contains}
use Rattle.std.specs.List.{flat_map, list_any}
use Rattle.std.specs.Map.{keys_of}
use Rattle.std.specs.Ordering.{int_cmp, is_eq, is_gt, is_le, nat_cmp, ordering_reverse, ordering_then}
use Rattle.std.specs.declared.cmp.Ordering.TheVariants.{Less, Equal, Greater}
use Rattle.std.specs.declared.ops.Bound.TheVariants.{Included, Excluded, Unbounded}
use Rattle.terms.specs.declared.leaf.Leaf.{Leaf}
use Rattle.terms.specs.declared.value.Value.{Value}
use Rattle.terms.specs.Leaf.{leaf_cmp}
use Rattle.store.specs.declared.slot.Slot.{Slot}
use Rattle.store.specs.Slot.{slot_cmp}
use Rattle.store.specs.Orders.{leaf_cmp_total, leaf_cmp-IsAntisymmetric}
use Rattle.store.specs.Content.{is_of}
use Rattle.store.specs.Change.{by_key}
use Rattle.store.specs.Entries.{Encloses, Entries, entries_of, parts_of}

module _ (leaf : Leaf) (low high : Slot) (ends : Encloses low.leaf leaf high.leaf) where
  contains_leaf : (slot : Slot) → leaf_cmp leaf slot.leaf ≡ Equal → range_contains slot_cmp (Included low) (Excluded high) slot ≡ true
  contains_leaf slot tie =
      let same = leaf_cmp-IsAntisymmetric leaf slot.leaf tie in
      ap₂ (λ r s. is_le (ordering_then r (int_cmp low.key slot.key)) && not (is_le (ordering_then s (int_cmp high.key slot.key))))
      (ap (leaf_cmp low.leaf) (sym same) ∙ ends.0) (ap (leaf_cmp high.leaf) (sym same) ∙ ends.1)

  skipped : (entry : Slot × Option (List Value)) (kept : Entries) (b : Bool) → is_of leaf entry.0 ≡ false → entries_of leaf (cond b (entry ∷ kept) kept) ≡ entries_of leaf kept
  skipped entry kept true other = ap (λ b. cond b (entry ∷ entries_of leaf kept) (entries_of leaf kept)) other
  skipped entry kept false other = refl

  -- no entry of the leaf lies outside
  pub entries_within : (entries : Entries) → entries_of leaf (entries_between slot_cmp (Included low) (Excluded high) entries) ≡ entries_of leaf entries
  entries_within [] = refl
  entries_within (entry ∷ entries) =
      let kept = entries_between slot_cmp (Included low) (Excluded high) entries in
      let rest = entries_within entries in
      let inside = range_contains slot_cmp (Included low) (Excluded high) entry.0 in
      elim (leaf_cmp leaf entry.0.leaf) as (λ r. leaf_cmp leaf entry.0.leaf ≡ r → entries_of leaf (cond inside (entry ∷ kept) kept) ≡ cond (is_eq r) (entry ∷ entries_of leaf entries) (entries_of leaf entries)) [
        | Less ↦ λ is. skipped entry kept inside (ap is_eq is) ∙ rest
        | Equal ↦ λ tie.
            ap (λ b. entries_of leaf (cond b (entry ∷ kept) kept)) (contains_leaf entry.0 tie)
            ∙ ap (λ b. cond b (entry ∷ entries_of leaf kept) (entries_of leaf kept)) (ap is_eq tie)
            ∙ ap (λ es. entry ∷ es) rest
        | Greater ↦ λ is. skipped entry kept inside (ap is_eq is) ∙ rest
      ] refl

-- without bounds there are all entries
pub all_within : (entries : Entries) → entries_between slot_cmp Unbounded Unbounded entries ≡ entries
all_within [] = refl
all_within (entry ∷ entries) = ap (λ (es : Entries). entry ∷ es) (all_within entries)

nat_less : (one other : ℕ) → one < other → nat_cmp one other ≡ Less
nat_less one other less = grind (arith, nat_tests)

nat_greater : (one other : ℕ) → other < one → nat_cmp one other ≡ Greater
nat_greater one other less = grind (arith, nat_tests)

-- leaves of one relation by their numbers
pub leaf_less : (one other : Leaf) → one.relation ≡ other.relation → one.number < other.number → leaf_cmp one other ≡ Less
leaf_less one other same less =
    ap₂ ordering_then (ap (λ r. slice_cmp nat_cmp r other.relation) same ∙ tied_itself nat_list_cmp_total other.relation) (nat_less one.number other.number less)

pub leaf_greater : (one other : Leaf) → one.relation ≡ other.relation → other.number < one.number → leaf_cmp one other ≡ Greater
leaf_greater one other same less =
    ap₂ ordering_then (ap (λ r. slice_cmp nat_cmp r other.relation) same ∙ tied_itself nat_list_cmp_total other.relation) (nat_greater one.number other.number less)

-- slots before a leaf and behind it
pub ends_in_order : (leaf : Leaf) (low high : Slot) → Encloses low.leaf leaf high.leaf → is_gt (slot_cmp low high) ≡ false
ends_in_order leaf low high ends =
    ap (λ r. is_gt (ordering_then r (int_cmp low.key high.key)))
    (leaf_cmp_total.trans low.leaf leaf high.leaf ends.0 (leaf_cmp_total.antisymm leaf high.leaf ∙ ap ordering_reverse ends.1))

-- the parts of a leaf are those of its entries
pub parts_of_leaf : (leaf : Leaf) (entries : Entries) → parts_of leaf entries ≡ flat_map (λ entry. option_to_list entry.1) (entries_of leaf entries)
parts_of_leaf leaf [] = refl
parts_of_leaf leaf (entry ∷ entries) =
    let rest = parts_of_leaf leaf entries in
    elim (is_of leaf entry.0) as (λ b. cond b (option_to_list entry.1 ++ parts_of leaf entries) (parts_of leaf entries) ≡ flat_map (λ e. option_to_list e.1) (cond b (entry ∷ entries_of leaf entries) (entries_of leaf entries))) [
      | true ↦ ap (λ (ps : List (List Value)). option_to_list entry.1 ++ ps) rest
      | false ↦ rest
    ]

-- entries among which a leaf has the same have the same parts of it
pub same_parts : (leaf : Leaf) (one other : Entries) → entries_of leaf one ≡ entries_of leaf other → parts_of leaf one ≡ parts_of leaf other
same_parts leaf one other same = parts_of_leaf leaf one ∙ ap (flat_map (λ (entry : Slot × Option (List Value)). option_to_list entry.1)) same ∙ sym (parts_of_leaf leaf other)

-- a leaf is touched where it has entries
pub touched_of_leaf : (leaf : Leaf) (entries : Entries) → list_any (is_of leaf) (keys_of entries) ≡ list_any (is_of leaf) (keys_of (entries_of leaf entries))
touched_of_leaf leaf [] = refl
touched_of_leaf leaf (entry ∷ entries) =
    let rest = touched_of_leaf leaf entries in
    elim (is_of leaf entry.0) as (λ b. is_of leaf entry.0 ≡ b → (b || list_any (is_of leaf) (keys_of entries)) ≡ list_any (is_of leaf) (keys_of (cond b (entry ∷ entries_of leaf entries) (entries_of leaf entries)))) [
      | true ↦ λ is. sym (ap (λ b. b || list_any (is_of leaf) (keys_of (entries_of leaf entries))) is)
      | false ↦ λ is. rest
    ] refl

pub same_touched : (leaf : Leaf) (one other : Entries) → entries_of leaf one ≡ entries_of leaf other → list_any (is_of leaf) (keys_of one) ≡ list_any (is_of leaf) (keys_of other)
same_touched leaf one other same = touched_of_leaf leaf one ∙ ap (λ (es : Entries). list_any (is_of leaf) (keys_of es)) same ∙ sym (touched_of_leaf leaf other)

-- so it is where the first of them is of the leaf
pub touched_first : (leaf : Leaf) (entry : Slot × Option (List Value)) (entries : Entries) → is_of leaf entry.0 ≡ true → list_any (is_of leaf) (keys_of (entry ∷ entries)) ≡ true
touched_first leaf entry entries is = ap (λ b. b || list_any (is_of leaf) (keys_of entries)) is

-- what is listed, and what is left to list
pub listed_more : (leaf : Leaf) (all : List (List Value)) (rest new : Entries) (slot : Slot) (part : Option (List Value)) (parts after : List (List Value)) → parts ++ parts_of leaf rest ≡ all → rest ≡ (slot, part) ∷ new → after ≡ parts ++ (if is_of leaf slot then option_to_list part else []) → after ++ parts_of leaf new ≡ all
listed_more leaf all rest new slot part parts after so_far step pushed =
    ap (λ ps. ps ++ parts_of leaf new) pushed
    ∙ joined (is_of leaf slot)
    ∙ sym (ap (λ es. parts ++ parts_of leaf es) step) ∙ so_far
  where
    joined : (b : Bool) → (parts ++ cond b (option_to_list part) []) ++ parts_of leaf new ≡ parts ++ cond b (option_to_list part ++ parts_of leaf new) (parts_of leaf new)
    joined true = append_assoc parts (option_to_list part) (parts_of leaf new)
    joined false = ap (λ ps. ps ++ parts_of leaf new) (append-nil parts)

-- the same for changes
pub changes_more : (leaf : Leaf) (all : List (ℤ × Option (List Value))) (rest new : Entries) (slot : Slot) (part : Option (List Value)) (changes after : List (ℤ × Option (List Value))) → changes ++ by_key leaf rest ≡ all → rest ≡ (slot, part) ∷ new → after ≡ changes ++ (if is_of leaf slot then (slot.key, part) ∷ [] else []) → after ++ by_key leaf new ≡ all
changes_more leaf all rest new slot part changes after so_far step pushed =
    ap (λ cs. cs ++ by_key leaf new) pushed
    ∙ joined (is_of leaf slot)
    ∙ sym (ap (λ es. changes ++ by_key leaf es) step) ∙ so_far
  where
    joined : (b : Bool) → (changes ++ cond b ((slot.key, part) ∷ []) []) ++ by_key leaf new ≡ changes ++ map (λ (entry : Slot × Option (List Value)). (entry.0.key, entry.1)) (cond b ((slot, part) ∷ entries_of leaf new) (entries_of leaf new))
    joined true = append_assoc changes ((slot.key, part) ∷ []) (by_key leaf new)
    joined false = ap (λ cs. cs ++ by_key leaf new) (append-nil changes)

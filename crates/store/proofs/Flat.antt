-- The entries of all shelves find what the shelves have.
use Rattle.std.proofs.Common.{◌≡◌, ℤ, [], ◌∷◌, ◌++◌, false, cond, Some, None, unwrap_or, option_to_list, refl, ap, sym, ◌∙◌, append-nil}
use Rattle.std.specs.BTreeMap.{is_at}
use Rattle.std.specs.Cmp.{tied_itself}
use Rattle.std.specs.FinMap as fin
use Rattle.std.specs.List.{AllByRecursion}
use Rattle.std.specs.List.Sorted.{IsStrictlySortedBy}
use Rattle.std.specs.Map.{lookup, keys_of}
use Rattle.std.specs.Ordering.{int_cmp, is_eq, ordering_then}
use Rattle.std.specs.declared.cmp.Ordering.TheVariants.{Less, Equal, Greater}
use Rattle.std.proofs.lemmas.Map.Keys.{sorted_head, sorted_tail}
use Rattle.terms.specs.declared.leaf.Leaf.{Leaf}
use Rattle.terms.specs.Leaf.{leaf_cmp}
use Rattle.store.specs.declared.slot.Slot.{Slot}
use Rattle.store.specs.Slot.{slot_of, slot_cmp}
use Rattle.store.specs.Orders.{leaf_cmp_total, leaf_cmp-IsAntisymmetric}
use Rattle.store.specs.Content.{put_at, made_by}
use Rattle.store.specs.ContentLaws.{get-made_by, same_content}
use Rattle.store.specs.Entries.{Entries, entry_at, part_at, parts_of}
use Rattle.store.specs.Shelves.{Shelf, Shelves, entries_on, shelf_at, key_at, place_at, part_on, shelf_parts, on_leaf, all_on}
use Rattle.store.proofs.Keyed.{view, get_entry, put_part}
use Rattle.store.proofs.Scans.{values_made}

-- a leaf below all is not found
pub none_above : (leaf : Leaf) (shelves : Shelves) → AllByRecursion (λ later. leaf_cmp leaf later ≡ Less) (keys_of shelves) → lookup (is_at (leaf_cmp leaf)) shelves ≡ None
none_above leaf [] above = refl
none_above leaf (shelf ∷ shelves) above = ap (λ r. cond (is_eq r) (Some shelf.1) (lookup (is_at (leaf_cmp leaf)) shelves)) above.0 ∙ none_above leaf shelves above.1

-- slots of another leaf
on_other : (leaf : Leaf) (shelf : Shelf) (rest : Entries) (q : Slot) → is_eq (leaf_cmp q.leaf leaf) ≡ false → entry_at (on_leaf leaf shelf ++ rest) q ≡ entry_at rest q
on_other leaf [] rest q apart = refl
on_other leaf (entry ∷ shelf) rest q apart =
    elim (leaf_cmp q.leaf leaf) as (λ r. is_eq r ≡ false → cond (is_eq (ordering_then r (int_cmp q.key entry.0))) (Some entry.1) (entry_at (on_leaf leaf shelf ++ rest) q) ≡ entry_at (on_leaf leaf shelf ++ rest) q) [
      | Less ↦ λ is. refl
      | Equal ↦ λ is. cc
      | Greater ↦ λ is. refl
    ] apart
    ∙ on_other leaf shelf rest q apart

-- slots of the leaf
on_same : (leaf : Leaf) (shelf : Shelf) (rest : Entries) (q : Slot) → leaf_cmp q.leaf leaf ≡ Equal → entry_at rest q ≡ None → entry_at (on_leaf leaf shelf ++ rest) q ≡ key_at shelf q.key
on_same leaf [] rest q tie none = none
on_same leaf (entry ∷ shelf) rest q tie none =
    ap (λ r. cond (is_eq (ordering_then r (int_cmp q.key entry.0))) (Some entry.1) (entry_at (on_leaf leaf shelf ++ rest) q)) tie
    ∙ ap (cond (is_eq (int_cmp q.key entry.0)) (Some entry.1)) (on_same leaf shelf rest q tie none)

-- the entries of all shelves find what the shelves have
pub all_found : (shelves : Shelves) → IsStrictlySortedBy leaf_cmp (keys_of shelves) → (q : Slot) → entry_at (all_on shelves) q ≡ place_at shelves q
all_found [] sorted q = refl
all_found (shelf ∷ shelves) sorted q =
    let later = all_found shelves (sorted_tail leaf_cmp shelf.0 (keys_of shelves) sorted) q in
    elim (leaf_cmp q.leaf shelf.0) as (λ r. leaf_cmp q.leaf shelf.0 ≡ r → entry_at (on_leaf shelf.0 shelf.1.entries ++ all_on shelves) q ≡ key_at (entries_on (cond (is_eq r) (Some shelf.1) (lookup (is_at (leaf_cmp q.leaf)) shelves))) q.key) [
      | Less ↦ λ is. on_other shelf.0 shelf.1.entries (all_on shelves) q (ap is_eq is) ∙ later
      | Equal ↦ λ tie.
          let none = ap (λ l. lookup (is_at (leaf_cmp l)) shelves) (leaf_cmp-IsAntisymmetric q.leaf shelf.0 tie) ∙ none_above shelf.0 shelves (sorted_head leaf_cmp shelf.0 (keys_of shelves) sorted) in
          on_same shelf.0 shelf.1.entries (all_on shelves) q tie (later ∙ ap (λ o. key_at (entries_on o) q.key) none)
      | Greater ↦ λ is. on_other shelf.0 shelf.1.entries (all_on shelves) q (ap is_eq is) ∙ later
    ] refl

-- what stands at a slot, by the finite map
pub get_place : (shelves : Shelves) → IsStrictlySortedBy leaf_cmp (keys_of shelves) → (q : Slot) → fin.get (view (all_on shelves)) q ≡ place_at shelves q
get_place shelves sorted q = get_entry (all_on shelves) q ∙ all_found shelves sorted q

pub put_place : (shelves : Shelves) → IsStrictlySortedBy leaf_cmp (keys_of shelves) → (q : Slot) → put_at (view (all_on shelves)) q ≡ part_on shelves q
put_place shelves sorted q = ap (λ o. unwrap_or o None) (get_place shelves sorted q)

pub all_parts : (shelves : Shelves) → IsStrictlySortedBy leaf_cmp (keys_of shelves) → (q : Slot) → part_at (all_on shelves) q ≡ part_on shelves q
all_parts shelves sorted q = ap (λ o. unwrap_or o None) (all_found shelves sorted q)

-- one leaf alone
one_found : (leaf : Leaf) (shelf : Shelf) (key : ℤ) → entry_at (on_leaf leaf shelf) (slot_of leaf key) ≡ key_at shelf key
one_found leaf shelf key = ap (λ es. entry_at es (slot_of leaf key)) (sym (append-nil (on_leaf leaf shelf))) ∙ on_same leaf shelf [] (slot_of leaf key) (tied_itself leaf_cmp_total leaf) refl

one_sorted : (leaf : Leaf) (shelf : Shelf) → IsStrictlySortedBy int_cmp (keys_of shelf) → IsStrictlySortedBy slot_cmp (keys_of (on_leaf leaf shelf))
unfolding IsStrictlySortedBy
one_sorted leaf [] sorted = tt
one_sorted leaf (entry ∷ shelf) sorted = (all_later shelf sorted.0, one_sorted leaf shelf sorted.1)
  where
    all_later : (later : Shelf) → AllByRecursion (λ k. int_cmp entry.0 k ≡ Less) (keys_of later) → AllByRecursion (λ s. slot_cmp (slot_of leaf entry.0) s ≡ Less) (keys_of (on_leaf leaf later))
    all_later [] all = tt
    all_later (next ∷ later) all = (ap (λ r. ordering_then r (int_cmp entry.0 next.0)) (tied_itself leaf_cmp_total leaf) ∙ all.0, all_later later all.1)

one_listed : (leaf : Leaf) (shelf : Shelf) → parts_of leaf (on_leaf leaf shelf) ≡ shelf_parts shelf
one_listed leaf [] = refl
one_listed leaf (entry ∷ shelf) =
    ap (λ r. cond (is_eq r) (option_to_list entry.1 ++ parts_of leaf (on_leaf leaf shelf)) (parts_of leaf (on_leaf leaf shelf))) (tied_itself leaf_cmp_total leaf)
    ∙ ap (λ ps. option_to_list entry.1 ++ ps) (one_listed leaf shelf)

-- what the entries make of nothing in a leaf
pub leaf_listed : (shelves : Shelves) (leaf : Leaf) → IsStrictlySortedBy leaf_cmp (keys_of shelves) → IsStrictlySortedBy int_cmp (keys_of (shelf_at shelves leaf)) → fin.values (made_by (view (all_on shelves)) leaf) ≡ shelf_parts (shelf_at shelves leaf)
leaf_listed shelves leaf sorted keys =
    let shelf = shelf_at shelves leaf in
    ap fin.values (same_content (made_by (view (all_on shelves)) leaf) (made_by (view (on_leaf leaf shelf)) leaf) (λ q.
    get-made_by (view (all_on shelves)) leaf q ∙ put_place shelves sorted (slot_of leaf q)
    ∙ sym (get-made_by (view (on_leaf leaf shelf)) leaf q ∙ put_part (on_leaf leaf shelf) (slot_of leaf q) ∙ ap (λ o. unwrap_or o None) (one_found leaf shelf q))))
    ∙ values_made (on_leaf leaf shelf) (one_sorted leaf shelf keys) leaf
    ∙ one_listed leaf shelf

-- The parts that changes make of nothing in a leaf are those of the leaf's entries, in their order.
use Rattle.std.proofs.Common.{◌≡◌, ℤ, List, [], ◌∷◌, ◌++◌, Bool, true, false, cond, ◌&&◌, T, Option, Some, None, option_to_list, map, refl, ap, sym, ◌∙◌, subst}
use Rattle.std.specs.Cmp.{int_cmp_total}
use Rattle.std.specs.FinMap as fin
use Rattle.std.specs.FinMap.Entries.{below_all, by_order}
use Rattle.std.specs.List.Sorted.{IsStrictlySortedBy}
use Rattle.std.specs.Map.{keys_of}
use Rattle.std.specs.Ordering.{int_cmp, is_eq, is_lt, ordering_then}
use Rattle.std.specs.declared.cmp.Ordering.TheVariants.{Less, Equal, Greater}
use Rattle.terms.specs.declared.leaf.Leaf.{Leaf}
use Rattle.terms.specs.declared.value.Value.{Value}
use Rattle.terms.specs.Leaf.{leaf_cmp}
use Rattle.store.specs.declared.slot.Slot.{Slot}
use Rattle.store.specs.Slot.{slot_cmp}
use Rattle.store.specs.Orders.{leaf_cmp_total, slot_cmp_total, slot_cmp-IsAntisymmetric}
use Rattle.store.specs.Content.{Content, set_at, is_of, with_entries, made_by}
use Rattle.store.specs.ContentLaws.{same_content}
use Rattle.store.specs.Entries.{Entries, parts_of}
use Rattle.store.proofs.Keyed.{view}
use Rattle.store.proofs.Views.{sorted_from, sorted_view}

pub and_left : (one other : Bool) → T (one && other) → T one
and_left true other both = tt
and_left false other both = both

pub and_right : (one other : Bool) → T (one && other) → T other
and_right true other both = both
and_right false other both = absurd both

and_both : (one other : Bool) → T one → T other → T (one && other)
and_both true other first second = second
and_both false other first second = first

with_pair : ℤ → Option (List Value) → List (ℤ × List Value) → List (ℤ × List Value)
with_pair key None pairs = pairs
with_pair key (Some part) pairs = (key, part) ∷ pairs

-- the keys and parts of a leaf, in the order of the entries
pairs_of : Leaf → Entries → List (ℤ × List Value)
pairs_of leaf [] = []
pairs_of leaf (entry ∷ entries) = cond (is_of leaf entry.0) (with_pair entry.0.key entry.1 (pairs_of leaf entries)) (pairs_of leaf entries)

-- a part goes in front where its key is below all
put_below : (key : ℤ) (part : List Value) (pairs : List (ℤ × List Value)) → T (below_all int_cmp key pairs) → fin.put int_cmp key part pairs ≡ (key, part) ∷ pairs
put_below key part [] below = refl
put_below key part (pair ∷ pairs) below =
    elim (int_cmp key pair.0) as (λ r. T (is_lt r) → by_order r ((key, part) ∷ pair ∷ pairs) ((pair.0, part) ∷ pairs) (pair ∷ fin.put int_cmp key part pairs) ≡ (key, part) ∷ pair ∷ pairs) [
      | Less ↦ λ is. refl
      | Equal ↦ λ is. absurd is
      | Greater ↦ λ is. absurd is
    ] (and_left _ _ below)

-- a key below all is not found
pub find_below : (key : ℤ) (pairs : List (ℤ × List Value)) → T (below_all int_cmp key pairs) → fin.find int_cmp key pairs ≡ None
find_below key [] below = refl
find_below key (pair ∷ pairs) below =
    elim (int_cmp key pair.0) as (λ r. T (is_lt r) → cond (is_eq r) (Some pair.1) (fin.find int_cmp key pairs) ≡ None) [
      | Less ↦ λ is. find_below key pairs (and_right _ _ below)
      | Equal ↦ λ is. absurd is
      | Greater ↦ λ is. absurd is
    ] (and_left _ _ below)

gone_below : (key : ℤ) (content : Content) (pairs : List (ℤ × List Value)) → fin.entries content ≡ pairs → T (below_all int_cmp key pairs) → fin.remove content key ≡ content
gone_below key content pairs is below =
    let none : fin.get content key ≡ None = fin.get-entries content key ∙ ap (fin.find int_cmp key) is ∙ find_below key pairs below in
    same_content _ _ (λ q.
    fin.get-remove int_cmp_total content key q
    ∙ elim (int_cmp q key) as (λ r. int_cmp q key ≡ r → cond (is_eq r) None (fin.get content q) ≡ fin.get content q) [
      | Less ↦ λ apart. refl
      | Equal ↦ λ tie. sym (ap (fin.get content) (fin.int_cmp-IsAntisymmetric q key tie) ∙ none)
      | Greater ↦ λ apart. refl
    ] refl)

set_listed : (key : ℤ) (part : Option (List Value)) (content : Content) (pairs : List (ℤ × List Value)) → fin.entries content ≡ pairs → T (below_all int_cmp key pairs) → fin.entries (set_at key part content) ≡ with_pair key part pairs
unfolding with_pair
set_listed key None content pairs is below = ap fin.entries (gone_below key content pairs is below) ∙ is
set_listed key (Some part) content pairs is below = fin.entries-insert int_cmp_total content key part ∙ ap (fin.put int_cmp key part) is ∙ put_below key part pairs below

pair_below : (key other : ℤ) (part : Option (List Value)) (pairs : List (ℤ × List Value)) → T (is_lt (int_cmp key other)) → T (below_all int_cmp key pairs) → T (below_all int_cmp key (with_pair other part pairs))
unfolding with_pair
pair_below key other None pairs less below = below
pair_below key other (Some part) pairs less below = and_both _ _ less below

-- a slot below others is so by its key among those of its leaf
pairs_below : (leaf : Leaf) (slot : Slot) (entries : Entries) → leaf_cmp leaf slot.leaf ≡ Equal → T (below_all slot_cmp slot entries) → T (below_all int_cmp slot.key (pairs_of leaf entries))
unfolding pairs_of
pairs_below leaf slot [] tie below = tt
pairs_below leaf slot (entry ∷ entries) tie below =
    let later = pairs_below leaf slot entries tie (and_right _ _ below) in
    let less : T (is_lt (ordering_then (leaf_cmp leaf entry.0.leaf) (int_cmp slot.key entry.0.key))) =
    subst (λ r. T (is_lt (ordering_then r (int_cmp slot.key entry.0.key)))) (sym (leaf_cmp_total.congr leaf slot.leaf entry.0.leaf tie)) (and_left _ _ below) in
    elim (leaf_cmp leaf entry.0.leaf) as (λ r. T (is_lt (ordering_then r (int_cmp slot.key entry.0.key))) → T (below_all int_cmp slot.key (cond (is_eq r) (with_pair entry.0.key entry.1 (pairs_of leaf entries)) (pairs_of leaf entries)))) [
      | Less ↦ λ is. later
      | Equal ↦ λ is. pair_below slot.key entry.0.key entry.1 (pairs_of leaf entries) is later
      | Greater ↦ λ is. later
    ] less

entries_listed : (leaf : Leaf) (entries : Entries) → T (fin.is_sorted slot_cmp entries) → fin.entries (with_entries leaf entries fin.empty) ≡ pairs_of leaf entries
unfolding pairs_of
entries_listed leaf [] sorted = sorted_view int_cmp_total fin.int_cmp-IsAntisymmetric [] tt
entries_listed leaf (entry ∷ entries) sorted =
    let rest = with_entries leaf entries fin.empty in
    let so_far = entries_listed leaf entries (and_right _ _ sorted) in
    elim (leaf_cmp leaf entry.0.leaf) as (λ r. leaf_cmp leaf entry.0.leaf ≡ r → fin.entries (cond (is_eq r) (set_at entry.0.key entry.1 rest) rest) ≡ cond (is_eq r) (with_pair entry.0.key entry.1 (pairs_of leaf entries)) (pairs_of leaf entries)) [
      | Less ↦ λ is. so_far
      | Equal ↦ λ tie. set_listed entry.0.key entry.1 rest (pairs_of leaf entries) so_far (pairs_below leaf entry.0 entries tie (and_left _ _ sorted))
      | Greater ↦ λ is. so_far
    ] refl

part_listed : (key : ℤ) (part : Option (List Value)) (pairs : List (ℤ × List Value)) (parts : List (List Value)) → map (λ pair. pair.1) pairs ≡ parts → map (λ pair. pair.1) (with_pair key part pairs) ≡ option_to_list part ++ parts
unfolding with_pair
part_listed key None pairs parts is = is
part_listed key (Some part) pairs parts is = ap (λ ps. part ∷ ps) is

pairs_listed : (leaf : Leaf) (entries : Entries) → map (λ pair. pair.1) (pairs_of leaf entries) ≡ parts_of leaf entries
unfolding pairs_of
pairs_listed leaf [] = refl
pairs_listed leaf (entry ∷ entries) =
    elim (is_of leaf entry.0) as (λ b. map (λ pair. pair.1) (cond b (with_pair entry.0.key entry.1 (pairs_of leaf entries)) (pairs_of leaf entries)) ≡ cond b (option_to_list entry.1 ++ parts_of leaf entries) (parts_of leaf entries)) [
      | true ↦ part_listed entry.0.key entry.1 (pairs_of leaf entries) (parts_of leaf entries) (pairs_listed leaf entries)
      | false ↦ pairs_listed leaf entries
    ]

-- what entries in order make of nothing in a leaf
pub values_made : (entries : Entries) → IsStrictlySortedBy slot_cmp (keys_of entries) → (leaf : Leaf) → fin.values (made_by (view entries) leaf) ≡ parts_of leaf entries
values_made entries ordered leaf =
    let sorted = sorted_from slot_cmp entries ordered in
    ap (λ (es : Entries). fin.values (with_entries leaf es fin.empty)) (sorted_view slot_cmp_total slot_cmp-IsAntisymmetric entries sorted)
    ∙ ap (map (λ pair. pair.1)) (entries_listed leaf entries sorted)
    ∙ pairs_listed leaf entries

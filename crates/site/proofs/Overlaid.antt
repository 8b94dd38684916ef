-- A content's parts with changes made, in one pass over both, are those of the changed content.
use Rattle.std.proofs.Common.{◌≡◌, ℤ, int_lt, List, [], ◌∷◌, ◌++◌, true, false, Bool, cond, T, ◌&&◌, Option, Some, None, IfSome, unwrap_or, option_to_list, map, filter, refl, ap, ap₂, sym, ◌∙◌, subst, arith}
use Rattle.std.proofs.lemmas.Int.{ints}
use Rattle.std.proofs.lemmas.List.{map-append}
use Rattle.std.proofs.lemmas.List.Elements.{filter-append}
use Rattle.std.specs.Cmp.{int_cmp_total, tied_itself}
use Rattle.std.specs.FinMap as fin
use Rattle.std.specs.FinMap.Entries.{below_all, find-where_key, is_sorted-where_key, same_entries}
use Rattle.std.specs.List.{AllByRecursion}
use Rattle.std.specs.List.Sorted.{IsStrictlySortedBy}
use Rattle.std.specs.Ordering.{int_cmp, is_eq, is_lt, ordering_then}
use Rattle.std.specs.declared.cmp.Ordering.{Ordering}
use Rattle.std.specs.declared.cmp.Ordering.TheVariants.{Less, Equal, Greater}
use Rattle.terms.specs.declared.cond.Cond.{Cond}
use Rattle.terms.specs.declared.leaf.Leaf.{Leaf}
use Rattle.terms.specs.declared.value.Value.{Value}
use Rattle.terms.specs.Cond.{conds_hold}
use Rattle.terms.specs.Leaf.{leaf_cmp}
use Rattle.terms.specs.Row.{key_of}
use Rattle.store.specs.declared.slot.Slot.{Slot}
use Rattle.store.specs.Change.{by_key, changes_of}
use Rattle.store.specs.Slot.{slot_of, slot_cmp}
use Rattle.store.specs.Orders.{leaf_cmp_total}
use Rattle.store.specs.Content.{Content, Changes, IsKeyed, changed, parts}
use Rattle.store.specs.ContentLaws.{get-changed}
use Rattle.store.specs.Entries.{Entries, entries_of}
use Rattle.store.proofs.Scans.{and_left, and_right, find_below}
use Rattle.site.specs.Overlay.{overlaid, put_of}
use Rattle.site.proofs.TicketOrder.{is_equal}

both : (one other : Bool) → T one → T other → T (one && other)
both true other first second = second
both false other first second = first

-- the pairs with keys below one, and above it
abbrev below : ℤ → List (ℤ × List Value) → List (ℤ × List Value)
below key pairs = filter (λ pair. int_lt pair.0 key) pairs

abbrev above : ℤ → List (ℤ × List Value) → List (ℤ × List Value)
above key pairs = filter (λ pair. int_lt key pair.0) pairs

abbrev with_pair : ℤ → Option (List Value) → List (ℤ × List Value) → List (ℤ × List Value)
with_pair key None pairs = pairs
with_pair key (Some part) pairs = (key, part) ∷ pairs

-- pairs with changes made
abbrev over : List (ℤ × List Value) → List (ℤ × Option (List Value)) → List (ℤ × List Value)
over pairs [] = pairs
over pairs (change ∷ changes) = below change.0 pairs ++ with_pair change.0 change.1 (over (above change.0 pairs) changes)

-- what stands at each key

abbrev or_else : Option (List Value) → Option (List Value) → Option (List Value)
or_else None other = other
or_else (Some part) other = Some part

or_none : (part : Option (List Value)) → or_else part None ≡ part
or_none None = refl
or_none (Some part) = refl

found_append : (q : ℤ) (pairs others : List (ℤ × List Value)) → fin.find int_cmp q (pairs ++ others) ≡ or_else (fin.find int_cmp q pairs) (fin.find int_cmp q others)
found_append q [] others = refl
found_append q (pair ∷ pairs) others =
    elim (is_eq (int_cmp q pair.0)) as (λ b. cond b (Some pair.1) (fin.find int_cmp q (pairs ++ others)) ≡ or_else (cond b (Some pair.1) (fin.find int_cmp q pairs)) (fin.find int_cmp q others)) [ true ↦ refl | false ↦ found_append q pairs others ]

found_passed : (q : ℤ) (test : ℤ → Bool) (pairs : List (ℤ × List Value)) → fin.find int_cmp q (filter (λ pair. test pair.0) pairs) ≡ cond (test q) (fin.find int_cmp q pairs) None
found_passed q test pairs = find-where_key int_cmp test q (λ x tie. ap test (sym (fin.int_cmp-IsAntisymmetric q x tie))) pairs

found_with : (q key : ℤ) (part : Option (List Value)) (pairs : List (ℤ × List Value)) → fin.find int_cmp q (with_pair key part pairs) ≡ cond (is_eq (int_cmp q key)) (or_else part (fin.find int_cmp q pairs)) (fin.find int_cmp q pairs)
found_with q key None pairs = elim (is_eq (int_cmp q key)) as (λ b. fin.find int_cmp q pairs ≡ cond b (fin.find int_cmp q pairs) (fin.find int_cmp q pairs)) [ true ↦ refl | false ↦ refl ]
found_with q key (Some part) pairs = refl

-- keys below others

less : (r : Ordering) → T (is_lt r) → r ≡ Less
less Less is = refl
less Equal is = absurd is
less Greater is = absurd is

is_less : (r : Ordering) → r ≡ Less → T (is_lt r)
is_less r is = subst (λ o. T (is_lt o)) (sym is) tt

none_below : {X : Type 0} (key : ℤ) (pairs : List (ℤ × X)) → T (below_all int_cmp key pairs) → fin.find int_cmp key pairs ≡ None
none_below key [] all = refl
none_below key (pair ∷ pairs) all = ap (λ r. cond (is_eq r) (Some pair.1) (fin.find int_cmp key pairs)) (less (int_cmp key pair.0) (and_left _ _ all)) ∙ none_below key pairs (and_right _ _ all)

further_below : {X : Type 0} (q key : ℤ) (pairs : List (ℤ × X)) → int_cmp q key ≡ Less → T (below_all int_cmp key pairs) → T (below_all int_cmp q pairs)
further_below q key [] is all = tt
further_below q key (pair ∷ pairs) is all = both _ _ (is_less _ (int_cmp_total.trans q key pair.0 is (less (int_cmp key pair.0) (and_left _ _ all)))) (further_below q key pairs is (and_right _ _ all))

before_is : (a b : ℤ) (r : Ordering) → int_cmp a b ≡ r → int_lt a b ≡ is_lt r
before_is a b Less is = grind (arith, ints)
before_is a b Equal is = grind (arith, ints)
before_is a b Greater is = grind (arith, ints)

behind_is : (a b : ℤ) → int_lt a b ≡ true → int_cmp a b ≡ Less
behind_is a b is = grind (arith, ints)

not_behind : (a b : ℤ) → int_cmp a b ≡ Less → int_lt b a ≡ false
not_behind a b is = grind (arith, ints)

not_beside : (a b : ℤ) → int_cmp a b ≡ Equal → int_lt b a ≡ false
not_beside a b is = grind (arith, ints)

is_behind : (a b : ℤ) → int_cmp a b ≡ Greater → int_lt b a ≡ true
is_behind a b is = grind (arith, ints)

-- pairs with changes made have at each key what the changes say, and else what was there
found_over : (q : ℤ) (changes : List (ℤ × Option (List Value))) → T (fin.is_sorted int_cmp changes) → (pairs : List (ℤ × List Value)) → fin.find int_cmp q (over pairs changes) ≡ unwrap_or (fin.find int_cmp q changes) (fin.find int_cmp q pairs)
found_over q [] sorted pairs = refl
found_over q (change ∷ changes) sorted pairs =
    let key = change.0 in
    let rest = over (above key pairs) changes in
    let there = fin.find int_cmp q pairs in
    let said = fin.find int_cmp q changes in
    let all = and_left (below_all int_cmp key changes) _ sorted in
    let so_far : fin.find int_cmp q rest ≡ unwrap_or said (cond (int_lt key q) there None) =
    found_over q changes (and_right (below_all int_cmp key changes) _ sorted) (above key pairs) ∙ ap (unwrap_or said) (found_passed q (λ k. int_lt key k) pairs) in
    found_append q (below key pairs) (with_pair key change.1 rest)
    ∙ ap₂ or_else (found_passed q (λ k. int_lt k key) pairs)
    (found_with q key change.1 rest ∙ ap (λ (o : Option (List Value)). cond (is_eq (int_cmp q key)) (or_else change.1 o) o) so_far)
    ∙ elim (int_cmp q key) as (λ r. int_cmp q key ≡ r →
    or_else (cond (int_lt q key) there None) (cond (is_eq r) (or_else change.1 (unwrap_or said (cond (int_lt key q) there None))) (unwrap_or said (cond (int_lt key q) there None))) ≡ unwrap_or (cond (is_eq r) (Some change.1) said) there) [
      | Less ↦ λ is. at_less (int_lt q key) (int_lt key q) there said (before_is q key Less is) (not_behind q key is) (none_below q changes (further_below q key changes is all))
      | Equal ↦ λ is.
          let none : said ≡ None = none_below q changes (subst (λ k. T (below_all int_cmp k changes)) (sym (fin.int_cmp-IsAntisymmetric q key is)) all) in
          at_equal (int_lt q key) (int_lt key q) there said change.1 (before_is q key Equal is) (not_beside q key is) none
      | Greater ↦ λ is. at_greater (int_lt q key) (int_lt key q) there said (before_is q key Greater is) (is_behind q key is)
    ] refl
  where
    at_less : (before behind : Bool) (there : Option (List Value)) (said : Option (Option (List Value))) → before ≡ true → behind ≡ false → said ≡ None → or_else (cond before there None) (unwrap_or said (cond behind there None)) ≡ unwrap_or said there
    at_less before behind there said b n none = rw (b, n, none) (or_none there)

    at_equal : (before behind : Bool) (there : Option (List Value)) (said : Option (Option (List Value))) (part : Option (List Value)) → before ≡ false → behind ≡ false → said ≡ None →
        or_else (cond before there None) (or_else part (unwrap_or said (cond behind there None))) ≡ part
    at_equal before behind there said part b n none = rw (b, n, none) (or_none part)

    at_greater : (before behind : Bool) (there : Option (List Value)) (said : Option (Option (List Value))) → before ≡ false → behind ≡ true → or_else (cond before there None) (unwrap_or said (cond behind there None)) ≡ unwrap_or said there
    at_greater before behind there said b n = rw (b, n) refl

-- and their keys ascend

below_append : (q : ℤ) (pairs others : List (ℤ × List Value)) → T (below_all int_cmp q pairs) → T (below_all int_cmp q others) → T (below_all int_cmp q (pairs ++ others))
below_append q [] others all more = more
below_append q (pair ∷ pairs) others all more = both _ _ (and_left _ _ all) (below_append q pairs others (and_right _ _ all) more)

below_passed : (q : ℤ) (test : ℤ → Bool) (pairs : List (ℤ × List Value)) → T (below_all int_cmp q pairs) → T (below_all int_cmp q (filter (λ pair. test pair.0) pairs))
below_passed q test [] all = tt
below_passed q test (pair ∷ pairs) all =
    let rest = below_passed q test pairs (and_right _ _ all) in
    elim (test pair.0) as (λ b. T (below_all int_cmp q (cond b (pair ∷ filter (λ p. test p.0) pairs) (filter (λ p. test p.0) pairs)))) [ true ↦ both _ _ (and_left _ _ all) rest | false ↦ rest ]

below_with : (q key : ℤ) (part : Option (List Value)) (pairs : List (ℤ × List Value)) → T (is_lt (int_cmp q key)) → T (below_all int_cmp q pairs) → T (below_all int_cmp q (with_pair key part pairs))
below_with q key None pairs is all = all
below_with q key (Some part) pairs is all = both _ _ is all

below_over : (q : ℤ) (changes : List (ℤ × Option (List Value))) (pairs : List (ℤ × List Value)) → T (below_all int_cmp q changes) → T (below_all int_cmp q pairs) → T (below_all int_cmp q (over pairs changes))
below_over q [] pairs all_changes all = all
below_over q (change ∷ changes) pairs all_changes all =
    let key = change.0 in
    let rest = over (above key pairs) changes in
    below_append q (below key pairs) (with_pair key change.1 rest) (below_passed q (λ k. int_lt k key) pairs all)
    (below_with q key change.1 rest (and_left _ _ all_changes) (below_over q changes (above key pairs) (and_right _ _ all_changes) (below_passed q (λ k. int_lt key k) pairs all)))

all_below : (key : ℤ) (pairs : List (ℤ × List Value)) → AllByRecursion (λ pair. int_cmp pair.0 key ≡ Less) (below key pairs)
all_below key [] = tt
all_below key (pair ∷ pairs) =
    elim (int_lt pair.0 key) as (λ b. int_lt pair.0 key ≡ b → AllByRecursion (λ p. int_cmp p.0 key ≡ Less) (cond b (pair ∷ below key pairs) (below key pairs))) [
      | true ↦ λ is. (behind_is pair.0 key is, all_below key pairs)
      | false ↦ λ is. all_below key pairs
    ] refl

all_above : (key : ℤ) (pairs : List (ℤ × List Value)) → T (below_all int_cmp key (above key pairs))
all_above key [] = tt
all_above key (pair ∷ pairs) =
    elim (int_lt key pair.0) as (λ b. int_lt key pair.0 ≡ b → T (below_all int_cmp key (cond b (pair ∷ above key pairs) (above key pairs)))) [
      | true ↦ λ is. both _ _ (is_less _ (behind_is key pair.0 is)) (all_above key pairs)
      | false ↦ λ is. all_above key pairs
    ] refl

sorted_append : (key : ℤ) (pairs others : List (ℤ × List Value)) → AllByRecursion (λ pair. int_cmp pair.0 key ≡ Less) pairs → T (fin.is_sorted int_cmp pairs) → T (fin.is_sorted int_cmp others) → ((q : ℤ) → int_cmp q key ≡ Less → T (below_all int_cmp q others)) → T (fin.is_sorted int_cmp (pairs ++ others))
sorted_append key [] others all sorted more behind = more
sorted_append key (pair ∷ pairs) others all sorted more behind =
    both _ _ (below_append pair.0 pairs others (and_left (below_all int_cmp pair.0 pairs) _ sorted) (behind pair.0 all.0)) (sorted_append key pairs others all.1 (and_right (below_all int_cmp pair.0 pairs) _ sorted) more behind)

sorted_with : (key : ℤ) (part : Option (List Value)) (pairs : List (ℤ × List Value)) → T (below_all int_cmp key pairs) → T (fin.is_sorted int_cmp pairs) → T (fin.is_sorted int_cmp (with_pair key part pairs))
sorted_with key None pairs all sorted = sorted
sorted_with key (Some part) pairs all sorted = both _ _ all sorted

sorted_over : (changes : List (ℤ × Option (List Value))) → T (fin.is_sorted int_cmp changes) → (pairs : List (ℤ × List Value)) → T (fin.is_sorted int_cmp pairs) → T (fin.is_sorted int_cmp (over pairs changes))
sorted_over [] sorted_changes pairs sorted = sorted
sorted_over (change ∷ changes) sorted_changes pairs sorted =
    let key = change.0 in
    let rest = over (above key pairs) changes in
    let behind : T (below_all int_cmp key rest) = below_over key changes (above key pairs) (and_left (below_all int_cmp key changes) _ sorted_changes) (all_above key pairs) in
    let later : T (fin.is_sorted int_cmp rest) = sorted_over changes (and_right (below_all int_cmp key changes) _ sorted_changes) (above key pairs) (is_sorted-where_key int_cmp (λ k. int_lt key k) pairs sorted) in
    sorted_append key (below key pairs) (with_pair key change.1 rest) (all_below key pairs) (is_sorted-where_key int_cmp (λ k. int_lt k key) pairs sorted) (sorted_with key change.1 rest behind later)
    (λ q is. below_with q key change.1 rest (is_less _ is) (further_below q key rest is behind))

-- the changes of a leaf by their keys

found_by_key : (leaf : Leaf) (q : ℤ) (entries : Entries) → fin.find int_cmp q (by_key leaf entries) ≡ fin.find slot_cmp (slot_of leaf q) entries
found_by_key leaf q [] = refl
found_by_key leaf q (entry ∷ entries) =
    let rest = found_by_key leaf q entries in
    elim (leaf_cmp leaf entry.0.leaf) as (λ r. fin.find int_cmp q (map (λ (e : Slot × Option (List Value)). (e.0.key, e.1)) (cond (is_eq r) (entry ∷ entries_of leaf entries) (entries_of leaf entries))) ≡
    cond (is_eq (ordering_then r (int_cmp q entry.0.key))) (Some entry.1) (fin.find slot_cmp (slot_of leaf q) entries)) [
      | Less ↦ rest
      | Equal ↦ ap (λ (o : Option (Option (List Value))). cond (is_eq (int_cmp q entry.0.key)) (Some entry.1) o) rest
      | Greater ↦ rest
    ]

below_by_key : (leaf : Leaf) (slot : Slot) (entries : Entries) → leaf_cmp leaf slot.leaf ≡ Equal → T (below_all slot_cmp slot entries) → T (below_all int_cmp slot.key (by_key leaf entries))
below_by_key leaf slot [] tie all = tt
below_by_key leaf slot (entry ∷ entries) tie all =
    let later = below_by_key leaf slot entries tie (and_right _ _ all) in
    let here : T (is_lt (ordering_then (leaf_cmp leaf entry.0.leaf) (int_cmp slot.key entry.0.key))) =
    subst (λ r. T (is_lt (ordering_then r (int_cmp slot.key entry.0.key)))) (sym (leaf_cmp_total.congr leaf slot.leaf entry.0.leaf tie)) (and_left _ _ all) in
    elim (leaf_cmp leaf entry.0.leaf) as (λ r. T (is_lt (ordering_then r (int_cmp slot.key entry.0.key))) → T (below_all int_cmp slot.key (map (λ (e : Slot × Option (List Value)). (e.0.key, e.1)) (cond (is_eq r) (entry ∷ entries_of leaf entries) (entries_of leaf entries))))) [
      | Less ↦ λ is. later
      | Equal ↦ λ is. both _ _ is later
      | Greater ↦ λ is. later
    ] here

sorted_by_key : (leaf : Leaf) (entries : Entries) → T (fin.is_sorted slot_cmp entries) → T (fin.is_sorted int_cmp (by_key leaf entries))
sorted_by_key leaf [] sorted = tt
sorted_by_key leaf (entry ∷ entries) sorted =
    let later = sorted_by_key leaf entries (and_right (below_all slot_cmp entry.0 entries) _ sorted) in
    elim (leaf_cmp leaf entry.0.leaf) as (λ r. leaf_cmp leaf entry.0.leaf ≡ r → T (fin.is_sorted int_cmp (map (λ (e : Slot × Option (List Value)). (e.0.key, e.1)) (cond (is_eq r) (entry ∷ entries_of leaf entries) (entries_of leaf entries))))) [
      | Less ↦ λ is. later
      | Equal ↦ λ tie. both _ _ (below_by_key leaf entry.0 entries tie (and_left (below_all slot_cmp entry.0 entries) _ sorted)) later
      | Greater ↦ λ is. later
    ] refl

-- the pairs of a changed content
changed_pairs : (leaf : Leaf) (changes : Changes) (content : Content) → fin.entries (changed leaf changes content) ≡ over (fin.entries content) (changes_of leaf changes)
changed_pairs leaf changes content =
    let sorted = sorted_by_key leaf (fin.entries changes) (fin.entries_sorted changes) in
    same_entries int_cmp int_cmp_total fin.int_cmp-IsAntisymmetric _ _ (fin.entries_sorted (changed leaf changes content)) (sorted_over (changes_of leaf changes) sorted (fin.entries content) (fin.entries_sorted content)) (λ q.
    sym (fin.get-entries (changed leaf changes content) q)
    ∙ get-changed leaf changes content q
    ∙ ap₂ (λ (said : Option (Option (List Value))) (there : Option (List Value)). unwrap_or said there) (fin.get-entries changes (slot_of leaf q) ∙ sym (found_by_key leaf q (fin.entries changes))) (fin.get-entries content q)
    ∙ sym (found_over q (changes_of leaf changes) sorted (fin.entries content)))

-- pairs whose parts have their keys
abbrev AreUnder : List (ℤ × List Value) → Type 0
AreUnder pairs = AllByRecursion (λ pair. key_of pair.1 ≡ pair.0) pairs

pairs_under : (pairs : List (ℤ × List Value)) → T (fin.is_sorted int_cmp pairs) → ((key : ℤ) → IfSome (fin.find int_cmp key pairs) (λ part. key_of part ≡ key)) → AreUnder pairs
pairs_under [] sorted keyed = tt
pairs_under (pair ∷ pairs) sorted keyed =
    let here : IfSome (cond true (Some pair.1) (fin.find int_cmp pair.0 pairs)) (λ part. key_of part ≡ pair.0) = subst (λ r. IfSome (cond (is_eq r) (Some pair.1) (fin.find int_cmp pair.0 pairs)) (λ part. key_of part ≡ pair.0)) (tied_itself int_cmp_total pair.0) (keyed pair.0) in
    (here, pairs_under pairs (and_right (below_all int_cmp pair.0 pairs) _ sorted) (λ key. go key (is_eq (int_cmp key pair.0)) refl (keyed key)))
  where
    go : (key : ℤ) (b : Bool) → is_eq (int_cmp key pair.0) ≡ b → IfSome (cond b (Some pair.1) (fin.find int_cmp key pairs)) (λ part. key_of part ≡ key) → IfSome (fin.find int_cmp key pairs) (λ part. key_of part ≡ key)
    go key true e k = subst (λ o. IfSome o (λ part. key_of part ≡ key)) (sym (ap (λ x. fin.find int_cmp x pairs) (fin.int_cmp-IsAntisymmetric key pair.0 (is_equal _ e)) ∙ find_below pair.0 pairs (and_left (below_all int_cmp pair.0 pairs) _ sorted))) tt
    go key false e k = k

content_under : (content : Content) → IsKeyed content → AreUnder (fin.entries content)
content_under content keyed = pairs_under (fin.entries content) (fin.entries_sorted content) (λ key. subst (λ o. IfSome o (λ part. key_of part ≡ key)) (fin.get-entries content key) (keyed key))

under_passed : (test : ℤ → Bool) (pairs : List (ℤ × List Value)) → AreUnder pairs → AreUnder (filter (λ pair. test pair.0) pairs)
under_passed test [] under = tt
under_passed test (pair ∷ pairs) under =
    let rest = under_passed test pairs under.1 in
    elim (test pair.0) as (λ b. AreUnder (cond b (pair ∷ filter (λ p. test p.0) pairs) (filter (λ p. test p.0) pairs))) [ true ↦ (under.0, rest) | false ↦ rest ]

module _ (conds : List Cond) where
  -- the parts of pairs that meet conditions
  abbrev shown : List (ℤ × List Value) → List (List Value)
  shown pairs = filter (conds_hold conds) (map (λ pair. pair.1) pairs)

  -- of pairs whose keys pass a test the parts that meet conditions are those whose keys pass it
  shown_passed : (test : ℤ → Bool) (pairs : List (ℤ × List Value)) → AreUnder pairs → shown (filter (λ pair. test pair.0) pairs) ≡ filter (λ part. test (key_of part)) (shown pairs)
  shown_passed test [] under = refl
  shown_passed test (pair ∷ pairs) under = step (test pair.0) (conds_hold conds pair.1) refl refl (shown_passed test pairs under.1)
    where
      step : (passes holds : Bool) → test pair.0 ≡ passes → conds_hold conds pair.1 ≡ holds → shown (filter (λ p. test p.0) pairs) ≡ filter (λ part. test (key_of part)) (shown pairs) →
          shown (cond passes (pair ∷ filter (λ p. test p.0) pairs) (filter (λ p. test p.0) pairs)) ≡ filter (λ part. test (key_of part)) (cond holds (pair.1 ∷ shown pairs) (shown pairs))
      step true true is meets rest =
          ap (λ b. cond b (pair.1 ∷ shown (filter (λ p. test p.0) pairs)) (shown (filter (λ p. test p.0) pairs))) meets
          ∙ ap (λ (ps : List (List Value)). pair.1 ∷ ps) rest
          ∙ sym (ap (λ b. cond b (pair.1 ∷ filter (λ part. test (key_of part)) (shown pairs)) (filter (λ part. test (key_of part)) (shown pairs))) (ap test under.0 ∙ is))
      step true false is meets rest = ap (λ b. cond b (pair.1 ∷ shown (filter (λ p. test p.0) pairs)) (shown (filter (λ p. test p.0) pairs))) meets ∙ rest
      step false true is meets rest = rest ∙ sym (ap (λ b. cond b (pair.1 ∷ filter (λ part. test (key_of part)) (shown pairs)) (filter (λ part. test (key_of part)) (shown pairs))) (ap test under.0 ∙ is))
      step false false is meets rest = rest

  shown_with : (key : ℤ) (part : Option (List Value)) (pairs : List (ℤ × List Value)) → shown (with_pair key part pairs) ≡ filter (conds_hold conds) (option_to_list part) ++ shown pairs
  shown_with key None pairs = refl
  shown_with key (Some part) pairs = elim (conds_hold conds part) as (λ b. cond b (part ∷ shown pairs) (shown pairs) ≡ cond b (part ∷ []) [] ++ shown pairs) [ true ↦ refl | false ↦ refl ]

  -- what is shown of pairs with changes made
  shown_over : (changes : List (ℤ × Option (List Value))) (pairs : List (ℤ × List Value)) → AreUnder pairs → shown (over pairs changes) ≡ overlaid conds (shown pairs) changes
  shown_over [] pairs under = refl
  shown_over (change ∷ changes) pairs under =
      let key = change.0 in
      let rest = over (above key pairs) changes in
      ap (filter (conds_hold conds)) (map-append (λ (pair : ℤ × List Value). pair.1) (below key pairs) (with_pair key change.1 rest))
      ∙ filter-append (conds_hold conds) (map (λ (pair : ℤ × List Value). pair.1) (below key pairs)) (map (λ (pair : ℤ × List Value). pair.1) (with_pair key change.1 rest))
      ∙ ap₂ (λ (front back : List (List Value)). front ++ back) (shown_passed (λ k. int_lt k key) pairs under)
      (shown_with key change.1 rest
      ∙ ap (λ (back : List (List Value)). put_of conds change ++ back) (shown_over changes (above key pairs) (under_passed (λ k. int_lt key k) pairs under) ∙ ap (λ (kept : List (List Value)). overlaid conds kept changes) (shown_passed (λ k. int_lt key k) pairs under)))

  -- a content's parts, overlaid with a leaf's changes, are those of the changed content
  pub overlaid_is : (leaf : Leaf) (changes : Changes) (content : Content) → IsKeyed content → overlaid conds (parts conds content) (changes_of leaf changes) ≡ parts conds (changed leaf changes content)
  overlaid_is leaf changes content keyed =
      sym (shown_over (changes_of leaf changes) (fin.entries content) (content_under content keyed))
      ∙ ap shown (sym (changed_pairs leaf changes content))

  -- their keys ascend
  later_shown : (key : ℤ) (pairs : List (ℤ × List Value)) → AreUnder pairs → T (below_all int_cmp key pairs) → AllByRecursion (λ later. int_cmp key later ≡ Less) (map key_of (shown pairs))
  later_shown key [] under all = tt
  later_shown key (pair ∷ pairs) under all =
      let rest = later_shown key pairs under.1 (and_right _ _ all) in
      elim (conds_hold conds pair.1) as (λ b. AllByRecursion (λ later. int_cmp key later ≡ Less) (map key_of (cond b (pair.1 ∷ shown pairs) (shown pairs)))) [
        | true ↦ (ap (int_cmp key) under.0 ∙ less _ (and_left _ _ all), rest)
        | false ↦ rest
      ]

  ascending : (pairs : List (ℤ × List Value)) → AreUnder pairs → T (fin.is_sorted int_cmp pairs) → IsStrictlySortedBy int_cmp (map key_of (shown pairs))
  unfolding IsStrictlySortedBy
  ascending [] under sorted = tt
  ascending (pair ∷ pairs) under sorted =
      let rest = ascending pairs under.1 (and_right (below_all int_cmp pair.0 pairs) _ sorted) in
      let later = subst (λ (key : ℤ). AllByRecursion (λ later. int_cmp key later ≡ Less) (map key_of (shown pairs))) (sym under.0) (later_shown pair.0 pairs under.1 (and_left (below_all int_cmp pair.0 pairs) _ sorted)) in
      elim (conds_hold conds pair.1) as (λ b. IsStrictlySortedBy int_cmp (map key_of (cond b (pair.1 ∷ shown pairs) (shown pairs)))) [
        | true ↦ (later, rest)
        | false ↦ rest
      ]

  pub parts_ascend : (content : Content) → IsKeyed content → IsStrictlySortedBy int_cmp (map key_of (parts conds content))
  parts_ascend content keyed = ascending (fin.entries content) (content_under content keyed) (fin.entries_sorted content)

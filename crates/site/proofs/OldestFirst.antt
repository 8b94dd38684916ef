-- What a map with the youngest ticket first does, seen from the oldest on.
use Rattle.std.proofs.Common.{◌≡◌, refl, sym, ap, ◌∙◌, ℕ, Bool, true, false, cond, List, [], ◌∷◌, ◌++◌, Option, Some, None, append_assoc, append-nil}
use Rattle.std.specs.BTreeMap.{is_at, insert_entry}
use Rattle.std.specs.Cmp.{eq_by_cmp_equiv}
use Rattle.std.specs.List.{AllByRecursion}
use Rattle.std.specs.List.Sorted.{IsStrictlySortedBy}
use Rattle.std.specs.Map.{lookup, keys_of, set_value, remove_entry}
use Rattle.std.specs.Ordering.{is_eq, match_ordering, ordering_reverse}
use Rattle.std.specs.declared.cmp.Ordering.{Ordering}
use Rattle.std.specs.declared.cmp.Ordering.TheVariants.{Less, Equal, Greater}
use Rattle.std.specs.declared.cmp.Reverse.{Reverse}
use Rattle.store.specs.declared.letter.Letter as letters
use Rattle.store.specs.declared.name.Ticket.{Ticket}
use Rattle.store.specs.Name.{ticket_cmp}
use Rattle.store.specs.Orders.{ticket_cmp_total}
use Rattle.site.specs.declared.tickets.TicketState.{TicketState}
use Rattle.site.specs.declared.tickets.TicketState.TheVariants as standing
use Rattle.site.specs.Inquiries.{inquiries_of, with_inquiry}
use Rattle.site.specs.Youngest.{from_oldest}
use Rattle.site.proofs.TicketStates.{Entries}

abbrev pub Youngest : Type 0
Youngest = List (Reverse Ticket × TicketState)

abbrev pub young_cmp : Reverse Ticket → Reverse Ticket → Ordering
young_cmp one other = ticket_cmp other.0 one.0

abbrev at : Ticket → Ticket → Bool
at k j = is_at (ticket_cmp k) j

-- ---- the list with one entry at its end
all_join : (P : Ticket → Type 0) (xs : Entries) (e : Ticket × TicketState) → AllByRecursion P (keys_of xs) → P e.0 → AllByRecursion P (keys_of (xs ++ e ∷ []))
all_join P [] e all last = (last, tt)
all_join P (x ∷ xs) e all last = (all.0, all_join P xs e all.1 last)

sorted_join : (xs : Entries) (e : Ticket × TicketState) → IsStrictlySortedBy ticket_cmp (keys_of xs) → AllByRecursion (λ j. ticket_cmp j e.0 ≡ Less) (keys_of xs) → IsStrictlySortedBy ticket_cmp (keys_of (xs ++ e ∷ []))
unfolding IsStrictlySortedBy
sorted_join [] e sorted below = (tt, tt)
sorted_join (x ∷ xs) e sorted below = (all_join (λ j. ticket_cmp x.0 j ≡ Less) xs e sorted.0 below.0, sorted_join xs e sorted.1 below.1)

-- ---- a ticket that is above all but the last
module _ (k : Ticket) where
  passes_lookup : (xs ys : Entries) → AllByRecursion (λ j. ticket_cmp k j ≡ Greater) (keys_of xs) → lookup (at k) (xs ++ ys) ≡ lookup (at k) ys
  passes_lookup [] ys above = refl
  passes_lookup (x ∷ xs) ys above = ap (λ r. cond (is_eq r) (Some x.1) (lookup (at k) (xs ++ ys))) above.0 ∙ passes_lookup xs ys above.1

  passes_remove : (xs ys : Entries) → AllByRecursion (λ j. ticket_cmp k j ≡ Greater) (keys_of xs) → remove_entry (at k) (xs ++ ys) ≡ xs ++ remove_entry (at k) ys
  passes_remove [] ys above = refl
  passes_remove (x ∷ xs) ys above = ap (λ r. cond (is_eq r) (xs ++ ys) (x ∷ remove_entry (at k) (xs ++ ys))) above.0 ∙ ap (λ l. x ∷ l) (passes_remove xs ys above.1)

  passes_set : (w : TicketState) (xs ys : Entries) → AllByRecursion (λ j. ticket_cmp k j ≡ Greater) (keys_of xs) → set_value (at k) (xs ++ ys) w ≡ xs ++ set_value (at k) ys w
  passes_set w [] ys above = refl
  passes_set w (x ∷ xs) ys above = ap (λ r. cond (is_eq r) ((x.0, w) ∷ xs ++ ys) (x ∷ set_value (at k) (xs ++ ys) w)) above.0 ∙ ap (λ l. x ∷ l) (passes_set w xs ys above.1)

  passes_insert : (w : TicketState) (xs ys : Entries) → AllByRecursion (λ j. ticket_cmp k j ≡ Greater) (keys_of xs) → insert_entry ticket_cmp (xs ++ ys) k w ≡ xs ++ insert_entry ticket_cmp ys k w
  passes_insert w [] ys above = refl
  passes_insert w (x ∷ xs) ys above = ap (λ r. match_ordering r ((k, w) ∷ x ∷ xs ++ ys) ((x.0, w) ∷ xs ++ ys) (x ∷ insert_entry ticket_cmp (xs ++ ys) k w)) above.0 ∙ ap (λ l. x ∷ l) (passes_insert w xs ys above.1)

  -- ---- a ticket that isn't the last
  module _ (e : Ticket × TicketState) where
    other_lookup : (xs : Entries) → at k e.0 ≡ false → lookup (at k) (xs ++ e ∷ []) ≡ lookup (at k) xs
    other_lookup [] apart = ap (λ b. cond b (Some e.1) None) apart
    other_lookup (x ∷ xs) apart = ap (cond (at k x.0) (Some x.1)) (other_lookup xs apart)

    other_remove : (xs : Entries) → at k e.0 ≡ false → remove_entry (at k) (xs ++ e ∷ []) ≡ remove_entry (at k) xs ++ e ∷ []
    other_remove [] apart = ap (λ b. cond b [] (e ∷ [])) apart
    other_remove (x ∷ xs) apart =
        ap (λ l. cond (at k x.0) (xs ++ e ∷ []) (x ∷ l)) (other_remove xs apart)
        ∙ elim (at k x.0) as (λ b. cond b (xs ++ e ∷ []) (x ∷ remove_entry (at k) xs ++ e ∷ []) ≡ cond b xs (x ∷ remove_entry (at k) xs) ++ e ∷ []) [ true ↦ refl | false ↦ refl ]

    other_set : (w : TicketState) (xs : Entries) → at k e.0 ≡ false → set_value (at k) (xs ++ e ∷ []) w ≡ set_value (at k) xs w ++ e ∷ []
    other_set w [] apart = ap (λ b. cond b ((e.0, w) ∷ []) (e ∷ [])) apart
    other_set w (x ∷ xs) apart =
        ap (λ l. cond (at k x.0) ((x.0, w) ∷ xs ++ e ∷ []) (x ∷ l)) (other_set w xs apart)
        ∙ elim (at k x.0) as (λ b. cond b ((x.0, w) ∷ xs ++ e ∷ []) (x ∷ set_value (at k) xs w ++ e ∷ []) ≡ cond b ((x.0, w) ∷ xs) (x ∷ set_value (at k) xs w) ++ e ∷ []) [ true ↦ refl | false ↦ refl ]

    less_insert : (w : TicketState) (xs : Entries) → ticket_cmp k e.0 ≡ Less → insert_entry ticket_cmp (xs ++ e ∷ []) k w ≡ insert_entry ticket_cmp xs k w ++ e ∷ []
    less_insert w [] less = ap (λ r. match_ordering r ((k, w) ∷ e ∷ []) ((e.0, w) ∷ []) (e ∷ (k, w) ∷ [])) less
    less_insert w (x ∷ xs) less =
        ap (λ l. match_ordering (ticket_cmp k x.0) ((k, w) ∷ x ∷ xs ++ e ∷ []) ((x.0, w) ∷ xs ++ e ∷ []) (x ∷ l)) (less_insert w xs less)
        ∙ elim (ticket_cmp k x.0) as (λ r. match_ordering r ((k, w) ∷ x ∷ xs ++ e ∷ []) ((x.0, w) ∷ xs ++ e ∷ []) (x ∷ insert_entry ticket_cmp xs k w ++ e ∷ []) ≡ match_ordering r ((k, w) ∷ x ∷ xs) ((x.0, w) ∷ xs) (x ∷ insert_entry ticket_cmp xs k w) ++ e ∷ []) [
          | Less ↦ refl
          | Equal ↦ refl
          | Greater ↦ refl
        ]

-- ---- the order
all_below : (t : Ticket) (es : Youngest) → AllByRecursion (λ y. ticket_cmp y.0 t ≡ Less) (keys_of es) → AllByRecursion (λ j. ticket_cmp j t ≡ Less) (keys_of (from_oldest es))
all_below t [] below = tt
all_below t (e ∷ es) below = all_join (λ j. ticket_cmp j t ≡ Less) (from_oldest es) (e.0.0, e.1) (all_below t es below.1) below.0

pub oldest_sorted : (es : Youngest) → IsStrictlySortedBy young_cmp (keys_of es) → IsStrictlySortedBy ticket_cmp (keys_of (from_oldest es))
unfolding IsStrictlySortedBy
oldest_sorted [] sorted = tt
oldest_sorted (e ∷ es) sorted = sorted_join (from_oldest es) (e.0.0, e.1) (oldest_sorted es sorted.1) (all_below e.0.0 es sorted.0)

-- what is below one ticket is below a greater, and below one that ties
greater_all : (k t : Ticket) (xs : Entries) → ticket_cmp k t ≡ Greater → AllByRecursion (λ j. ticket_cmp j t ≡ Less) (keys_of xs) → AllByRecursion (λ j. ticket_cmp k j ≡ Greater) (keys_of xs)
greater_all k t [] greater below = tt
greater_all k t (x ∷ xs) greater below =
    let less : ticket_cmp t k ≡ Less = ticket_cmp_total.antisymm t k ∙ ap ordering_reverse greater in
    (ticket_cmp_total.antisymm k x.0 ∙ ap ordering_reverse (ticket_cmp_total.trans x.0 t k below.0 less), greater_all k t xs greater below.1)

tied_all : (k t : Ticket) (xs : Entries) → ticket_cmp k t ≡ Equal → AllByRecursion (λ j. ticket_cmp j t ≡ Less) (keys_of xs) → AllByRecursion (λ j. ticket_cmp k j ≡ Greater) (keys_of xs)
tied_all k t [] tie below = tt
tied_all k t (x ∷ xs) tie below = (ticket_cmp_total.congr k t x.0 tie ∙ ticket_cmp_total.antisymm t x.0 ∙ ap ordering_reverse below.0, tied_all k t xs tie below.1)

flipped : (k j : Ticket) → is_eq (ticket_cmp j k) ≡ is_eq (ticket_cmp k j)
flipped k j = (eq_by_cmp_equiv ticket_cmp_total).symm j k

-- ---- the calls
pub oldest_found : (k : Ticket) (es : Youngest) → IsStrictlySortedBy young_cmp (keys_of es) → lookup (λ y. is_eq (ticket_cmp y.0 k)) es ≡ lookup (at k) (from_oldest es)
unfolding IsStrictlySortedBy
oldest_found k [] sorted = refl
oldest_found k (e ∷ es) sorted =
    let xs = from_oldest es in
    let last : Ticket × TicketState = (e.0.0, e.1) in
    let below = all_below e.0.0 es sorted.0 in
    ap (λ b. cond b (Some e.1) (lookup (λ y. is_eq (ticket_cmp y.0 k)) es)) (flipped k e.0.0)
    ∙ ap (cond (at k e.0.0) (Some e.1)) (oldest_found k es sorted.1)
    ∙ elim (ticket_cmp k e.0.0) as (λ r. ticket_cmp k e.0.0 ≡ r → cond (is_eq r) (Some e.1) (lookup (at k) xs) ≡ lookup (at k) (xs ++ last ∷ [])) [
      | Less ↦ λ is. sym (other_lookup k last xs (ap is_eq is))
      | Equal ↦ λ tie. sym (passes_lookup k xs (last ∷ []) (tied_all k e.0.0 xs tie below) ∙ ap (λ r. cond (is_eq r) (Some e.1) None) tie)
      | Greater ↦ λ is. sym (other_lookup k last xs (ap is_eq is))
    ] refl

pub oldest_removed : (k : Ticket) (es : Youngest) → IsStrictlySortedBy young_cmp (keys_of es) → from_oldest (remove_entry (λ y. is_eq (ticket_cmp y.0 k)) es) ≡ remove_entry (at k) (from_oldest es)
unfolding IsStrictlySortedBy
oldest_removed k [] sorted = refl
oldest_removed k (e ∷ es) sorted =
    let xs = from_oldest es in
    let last : Ticket × TicketState = (e.0.0, e.1) in
    let rest = remove_entry (λ y. is_eq (ticket_cmp y.0 k)) es in
    let below = all_below e.0.0 es sorted.0 in
    let later = ap (λ l. l ++ last ∷ []) (oldest_removed k es sorted.1) in
    ap (λ b. from_oldest (cond b es (e ∷ rest))) (flipped k e.0.0)
    ∙ elim (ticket_cmp k e.0.0) as (λ r. ticket_cmp k e.0.0 ≡ r → from_oldest (cond (is_eq r) es (e ∷ rest)) ≡ remove_entry (at k) (xs ++ last ∷ [])) [
      | Less ↦ λ is. later ∙ sym (other_remove k last xs (ap is_eq is))
      | Equal ↦ λ tie. sym (passes_remove k xs (last ∷ []) (tied_all k e.0.0 xs tie below) ∙ ap (λ r. xs ++ cond (is_eq r) [] (last ∷ [])) tie ∙ append-nil xs)
      | Greater ↦ λ is. later ∙ sym (other_remove k last xs (ap is_eq is))
    ] refl

pub oldest_set : (k : Ticket) (w : TicketState) (es : Youngest) → IsStrictlySortedBy young_cmp (keys_of es) → from_oldest (set_value (λ y. is_eq (ticket_cmp y.0 k)) es w) ≡ set_value (at k) (from_oldest es) w
unfolding IsStrictlySortedBy
oldest_set k w [] sorted = refl
oldest_set k w (e ∷ es) sorted =
    let xs = from_oldest es in
    let last : Ticket × TicketState = (e.0.0, e.1) in
    let rest = set_value (λ y. is_eq (ticket_cmp y.0 k)) es w in
    let below = all_below e.0.0 es sorted.0 in
    let later = ap (λ l. l ++ last ∷ []) (oldest_set k w es sorted.1) in
    ap (λ b. from_oldest (cond b ((e.0, w) ∷ es) (e ∷ rest))) (flipped k e.0.0)
    ∙ elim (ticket_cmp k e.0.0) as (λ r. ticket_cmp k e.0.0 ≡ r → from_oldest (cond (is_eq r) ((e.0, w) ∷ es) (e ∷ rest)) ≡ set_value (at k) (xs ++ last ∷ []) w) [
      | Less ↦ λ is. later ∙ sym (other_set k last w xs (ap is_eq is))
      | Equal ↦ λ tie. sym (passes_set k w xs (last ∷ []) (tied_all k e.0.0 xs tie below) ∙ ap (λ r. xs ++ cond (is_eq r) ((e.0.0, w) ∷ []) (last ∷ [])) tie)
      | Greater ↦ λ is. later ∙ sym (other_set k last w xs (ap is_eq is))
    ] refl

pub oldest_inserted : (key : Reverse Ticket) (w : TicketState) (es : Youngest) → IsStrictlySortedBy young_cmp (keys_of es) → from_oldest (insert_entry young_cmp es key w) ≡ insert_entry ticket_cmp (from_oldest es) key.0 w
unfolding IsStrictlySortedBy
oldest_inserted key w [] sorted = refl
oldest_inserted key w (e ∷ es) sorted =
    let k = key.0 in
    let xs = from_oldest es in
    let last : Ticket × TicketState = (e.0.0, e.1) in
    let rest = insert_entry young_cmp es key w in
    let below = all_below e.0.0 es sorted.0 in
    ap (λ r. from_oldest (match_ordering r ((key, w) ∷ e ∷ es) ((e.0, w) ∷ es) (e ∷ rest))) (ticket_cmp_total.antisymm e.0.0 k)
    ∙ elim (ticket_cmp k e.0.0) as (λ r. ticket_cmp k e.0.0 ≡ r → from_oldest (match_ordering (ordering_reverse r) ((key, w) ∷ e ∷ es) ((e.0, w) ∷ es) (e ∷ rest)) ≡ insert_entry ticket_cmp (xs ++ last ∷ []) k w) [
      | Less ↦ λ is. ap (λ l. l ++ last ∷ []) (oldest_inserted key w es sorted.1) ∙ sym (less_insert k last w xs is)
      | Equal ↦ λ tie. sym (passes_insert k w xs (last ∷ []) (tied_all k e.0.0 xs tie below) ∙ ap (λ r. xs ++ match_ordering r ((k, w) ∷ last ∷ []) ((e.0.0, w) ∷ []) (last ∷ (k, w) ∷ [])) tie)
      | Greater ↦ λ is. append_assoc xs (last ∷ []) ((k, w) ∷ []) ∙ sym (passes_insert k w xs (last ∷ []) (greater_all k e.0.0 xs is below) ∙ ap (λ r. xs ++ match_ordering r ((k, w) ∷ last ∷ []) ((e.0.0, w) ∷ []) (last ∷ (k, w) ∷ [])) is)
    ] refl

-- what the calls of a visit's standing need
pub seen_found : (k : Ticket) (es : Youngest) (old : Entries) (found : Option TicketState) → IsStrictlySortedBy young_cmp (keys_of es) → from_oldest es ≡ old → lookup (at k) old ≡ found → lookup (λ y. is_eq (ticket_cmp y.0 k)) es ≡ found
seen_found k es old found sorted view is = oldest_found k es sorted ∙ ap (lookup (at k)) view ∙ is

pub seen_set : (k : Ticket) (w : TicketState) (es new : Youngest) (old : Entries) → IsStrictlySortedBy young_cmp (keys_of es) → from_oldest es ≡ old → new ≡ set_value (λ y. is_eq (ticket_cmp y.0 k)) es w → from_oldest new ≡ set_value (at k) old w
seen_set k w es new old sorted view is = ap from_oldest is ∙ oldest_set k w es sorted ∙ ap (λ l. set_value (at k) l w) view

-- ---- inquiries
pub inquired_last : (site : List ℕ) (xs : Entries) (e : Ticket × TicketState) (after : List letters.Letter) → inquiries_of site (xs ++ e ∷ []) ++ after ≡ inquiries_of site xs ++ with_inquiry site e.0 e.1 after
inquired_last site [] e after = one e.1
  where
    one : (s : TicketState) → with_inquiry site e.0 s [] ++ after ≡ with_inquiry site e.0 s after
    one (standing.Active visit) = refl
    one (standing.Prepared txn) = refl
inquired_last site (x ∷ xs) e after = one x.1 (inquired_last site xs e after)
  where
    one : (s : TicketState) → inquiries_of site (xs ++ e ∷ []) ++ after ≡ inquiries_of site xs ++ with_inquiry site e.0 e.1 after → with_inquiry site x.0 s (inquiries_of site (xs ++ e ∷ [])) ++ after ≡ with_inquiry site x.0 s (inquiries_of site xs) ++ with_inquiry site e.0 e.1 after
    one (standing.Active visit) rest = rest
    one (standing.Prepared txn) rest = ap (with_inquiry site x.0 (standing.Prepared txn)) rest

-- what is left to inquire about, and the inquiries so far
pub inquired_more : (site : List ℕ) (rest new : Youngest) (key : Reverse Ticket) (s : TicketState) (so_far after all : List letters.Letter) → rest ≡ (key, s) ∷ new → inquiries_of site (from_oldest rest) ++ so_far ≡ all → after ≡ with_inquiry site key.0 s so_far → inquiries_of site (from_oldest new) ++ after ≡ all
inquired_more site rest new key s so_far after all step is more =
    ap (λ l. inquiries_of site (from_oldest new) ++ l) more
    ∙ sym (inquired_last site (from_oldest new) (key.0, s) so_far)
    ∙ ap (λ es. inquiries_of site (from_oldest es) ++ so_far) (sym step) ∙ is

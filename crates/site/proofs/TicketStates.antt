-- What changes of the entries and of the locks make of what is read from them.
use Rattle.std.proofs.Common.{◌≡◌, refl, sym, ap, ◌∙◌, subst, ℕ, zero, suc, ◌+◌, ◌<◌, Bool, true, false, not, List, [], ◌∷◌, ◌++◌, map, length, Option, Some, None, IsSome, filter, cond, if◌then◌else◌, slice_get, slice_set, get_or, arith}
use Rattle.std.specs.BTreeMap.{is_at, insert_entry}
use Rattle.std.specs.Cmp.{eq_by_cmp_equiv}
use Rattle.std.specs.List.{position_from, AllByRecursion}
use Rattle.std.specs.List.Sorted.{IsStrictlySortedBy}
use Rattle.std.specs.Map.{lookup, keys_of, set_value, remove_entry}
use Rattle.std.specs.Ordering.{is_eq, match_ordering}
use Rattle.std.specs.Set.{remove_key}
use Rattle.std.specs.declared.cmp.Ordering.TheVariants.{Greater}
use Rattle.std.proofs.lemmas.Map.{lookup-set_value, lookup-remove_entry, keys-set_value}
use Rattle.std.proofs.lemmas.Map.Keys.{IsDistinct-from_sorted}
use Rattle.terms.specs.declared.leaf.Leaf.{Leaf}
use Rattle.terms.specs.Leaf.{leaf_cmp}
use Rattle.store.specs.declared.name.Ticket.{Ticket}
use Rattle.store.specs.Name.{ticket_cmp}
use Rattle.store.specs.Orders.{ticket_cmp_total}
use Rattle.store.specs.SiteContent.{is_ticket}
use Rattle.protocol.proofs.Basics.{either, if_true, if_false, some_is}
use Rattle.site.specs.declared.locks.Locks.{Locks}
use Rattle.site.specs.declared.tickets.TicketState.{TicketState}
use Rattle.site.specs.Locks.{free, reads, writes, locks_in, place_in, stops, stops_reading, stops_writing}
use Rattle.site.specs.Moves.{stood, locked}
use Rattle.site.proofs.Leaves.{removed}
use Rattle.site.proofs.TicketOrder.{ticket_is, ticket_sym, leaf_is}

abbrev pub Entries : Type 0
Entries = List (Ticket × TicketState)

-- what stands at a ticket
abbrev pub at_ticket : Entries → Ticket → Option TicketState
at_ticket entries ticket = lookup (is_at (ticket_cmp ticket)) entries

one_test : (k x y : Ticket) → is_ticket k x ≡ true → is_ticket k y ≡ is_ticket x y
one_test k x y e = ap (λ z. is_ticket z y) (ticket_is k x e)

pub set_there : (k : Ticket) (entries : Entries) (new old : TicketState) → at_ticket entries k ≡ Some old → (j : Ticket) → at_ticket (set_value (is_at (ticket_cmp k)) entries new) j ≡ stood k (Some new) (at_ticket entries) j
set_there k entries new old is j = lookup-set_value (eq_by_cmp_equiv ticket_cmp_total) (is_ticket k) (one_test k) j new entries (subst IsSome (sym is) refl)

pub set_keys : (k : Ticket) (entries : Entries) (new : TicketState) → keys_of (set_value (is_at (ticket_cmp k)) entries new) ≡ keys_of entries
set_keys k entries new = keys-set_value (is_at (ticket_cmp k)) entries new

pub removed_there : (k : Ticket) (entries : Entries) → IsStrictlySortedBy ticket_cmp (keys_of entries) → (j : Ticket) → at_ticket (remove_entry (is_at (ticket_cmp k)) entries) j ≡ stood k None (at_ticket entries) j
removed_there k entries sorted j = lookup-remove_entry (eq_by_cmp_equiv ticket_cmp_total) (is_ticket k) (one_test k) j entries (IsDistinct-from_sorted ticket_cmp (keys_of entries) sorted)

removed_key : (k : Ticket) (entries : Entries) → keys_of (remove_entry (is_at (ticket_cmp k)) entries) ≡ remove_key (is_at (ticket_cmp k)) (keys_of entries)
removed_key k [] = refl
removed_key k (e ∷ entries) = go (is_ticket k e.0) (removed_key k entries)
  where
    go : (b : Bool) → keys_of (remove_entry (is_at (ticket_cmp k)) entries) ≡ remove_key (is_at (ticket_cmp k)) (keys_of entries) → keys_of (cond b entries (e ∷ remove_entry (is_at (ticket_cmp k)) entries)) ≡ cond b (keys_of entries) (e.0 ∷ remove_key (is_at (ticket_cmp k)) (keys_of entries))
    go true rest = refl
    go false rest = ap (λ l. e.0 ∷ l) rest

pub removed_keys : (k : Ticket) (entries : Entries) → IsStrictlySortedBy ticket_cmp (keys_of entries) → keys_of (remove_entry (is_at (ticket_cmp k)) entries) ≡ filter (λ j. not (is_ticket k j)) (keys_of entries)
removed_keys k entries sorted = removed_key k entries ∙ removed k (keys_of entries) sorted

-- a key after all others
pub put_last : (k : Ticket) (new : TicketState) (entries : Entries) → AllByRecursion (λ j. ticket_cmp k j ≡ Greater) (keys_of entries) → insert_entry ticket_cmp entries k new ≡ entries ++ (k, new) ∷ []
put_last k new [] above = refl
put_last k new (e ∷ entries) above = ap (λ r. match_ordering r ((k, new) ∷ e ∷ entries) ((e.0, new) ∷ entries) (e ∷ insert_entry ticket_cmp entries k new)) above.0 ∙ ap (λ l. e ∷ l) (put_last k new entries above.1)

pub last_keys : (k : Ticket) (new : TicketState) (entries : Entries) → keys_of (entries ++ (k, new) ∷ []) ≡ keys_of entries ++ k ∷ []
last_keys k new [] = refl
last_keys k new (e ∷ entries) = ap (λ l. e.0 ∷ l) (last_keys k new entries)

pub last_there : (k : Ticket) (new : TicketState) (entries : Entries) → AllByRecursion (λ j. ticket_cmp k j ≡ Greater) (keys_of entries) → (j : Ticket) → at_ticket (entries ++ (k, new) ∷ []) j ≡ stood k (Some new) (at_ticket entries) j
last_there k new [] above j = ap (λ b. cond b (Some new) None) (ticket_sym j k)
last_there k new (e ∷ entries) above j = go (is_ticket k j) refl (last_there k new entries above.1 j)
  where
    go : (b : Bool) → is_ticket k j ≡ b → at_ticket (entries ++ (k, new) ∷ []) j ≡ (if is_ticket k j then Some new else at_ticket entries j) →
        at_ticket (e ∷ (entries ++ (k, new) ∷ [])) j ≡ (if b then Some new else at_ticket (e ∷ entries) j)
    go true is rest = if_false (is_ticket j e.0) (Some e.1) (at_ticket (entries ++ (k, new) ∷ []) j) (subst (λ i. is_ticket i e.0 ≡ false) (ticket_is k j is) (ap is_eq above.0)) ∙ rest ∙ if_true (is_ticket k j) (Some new) _ is
    go false is rest = ap (cond (is_ticket j e.0) (Some e.1)) (rest ∙ if_false (is_ticket k j) (Some new) _ is)

-- ---- locks
-- a change of all locks that keeps their leaves
pub locks_all : (f : Locks → Locks) → ((l : Locks) → (f l).leaf ≡ l.leaf) → ((g : Leaf) → f (free g) ≡ free g) → (ls : List Locks) (g : Leaf) → locks_in g (map f ls) ≡ f (locks_in g ls)
locks_all f keeps none [] g = sym (none g)
locks_all f keeps none (l ∷ ls) g = ap (λ h. if is_eq (leaf_cmp g h) then f l else locks_in g (map f ls)) (keeps l) ∙ go (is_eq (leaf_cmp g l.leaf)) (locks_all f keeps none ls g)
  where
    go : (b : Bool) → locks_in g (map f ls) ≡ f (locks_in g ls) → (if b then f l else locks_in g (map f ls)) ≡ f (if b then l else locks_in g ls)
    go true rest = refl
    go false rest = rest

reading_leaf : (k : Ticket) (n : ℕ) (l : Locks) → (stops_reading k n l).leaf ≡ l.leaf
reading_leaf k n l = either (λ m. m.leaf ≡ l.leaf) (reads k l) _ l refl refl

writing_leaf : (k : Ticket) (n : ℕ) (l : Locks) → (stops_writing k n l).leaf ≡ l.leaf
writing_leaf k n l = either (λ m. m.leaf ≡ l.leaf) (writes k l) _ l refl refl

pub all_stop_reading : (k : Ticket) (n : ℕ) (ls : List Locks) (g : Leaf) → locks_in g (map (stops_reading k n) ls) ≡ stops_reading k n (locks_in g ls)
all_stop_reading k n ls g = locks_all (stops_reading k n) (reading_leaf k n) (λ h. refl) ls g

pub all_stop : (k : Ticket) (n : ℕ) (ls : List Locks) (g : Leaf) → locks_in g (map (stops k n) ls) ≡ stops k n (locks_in g ls)
all_stop k n ls g = locks_all (stops k n) (λ l. writing_leaf k n (stops_reading k n l) ∙ reading_leaf k n l) (λ h. refl) ls g

-- the locks at the place of a leaf
pub record IsPlace (leaf : Leaf) (place : ℕ) (ls : List Locks) : Type 0 where
  pub below : place < length ls
  pub here : slice_get ls place ≡ Some (locks_in leaf ls)
  pub leaf_at : is_eq (leaf_cmp leaf (locks_in leaf ls).leaf) ≡ true
  pub set : (x : Locks) → is_eq (leaf_cmp leaf x.leaf) ≡ true → (g : Leaf) → locks_in g (slice_set ls place x) ≡ (if is_eq (leaf_cmp g leaf) then x else locks_in g ls)

found_place : (leaf : Leaf) (ls : List Locks) (from place : ℕ) → position_from (λ other. is_eq (leaf_cmp leaf other.leaf)) from ls ≡ Some place → (q : ℕ) × (place ≡ from + q) × IsPlace leaf q ls
found_place leaf [] from place e = cc
found_place leaf (l ∷ ls) from place e = go (λ f. found_place leaf ls (from + 1) place f) (is_eq (leaf_cmp leaf l.leaf)) refl e
  where
    same_as : (g : Leaf) → is_eq (leaf_cmp leaf l.leaf) ≡ true → is_eq (leaf_cmp g l.leaf) ≡ is_eq (leaf_cmp g leaf)
    same_as g is = ap (λ h. is_eq (leaf_cmp g h)) (sym (leaf_is leaf l.leaf is))

    first : is_eq (leaf_cmp leaf l.leaf) ≡ true → IsPlace leaf 0 (l ∷ ls)
    first is = record {
      below = omega arith;
      here = ap Some (sym (if_true (is_eq (leaf_cmp leaf l.leaf)) l (locks_in leaf ls) is));
      leaf_at = subst (λ m. is_eq (leaf_cmp leaf m.leaf) ≡ true) (sym (if_true (is_eq (leaf_cmp leaf l.leaf)) l (locks_in leaf ls) is)) is;
      set = λ x at g. ap (λ b. if b then x else locks_in g ls) (ap (λ h. is_eq (leaf_cmp g h)) (sym (leaf_is leaf x.leaf at))) ∙ other x g (is_eq (leaf_cmp g leaf)) (same_as g is);
    }
      where
        other : (x : Locks) (g : Leaf) (b : Bool) → is_eq (leaf_cmp g l.leaf) ≡ b → (if b then x else locks_in g ls) ≡ (if b then x else (if is_eq (leaf_cmp g l.leaf) then l else locks_in g ls))
        other x g true f = refl
        other x g false f = sym (if_false (is_eq (leaf_cmp g l.leaf)) l (locks_in g ls) f)

    further : is_eq (leaf_cmp leaf l.leaf) ≡ false → (q : ℕ) → IsPlace leaf q ls → IsPlace leaf (suc q) (l ∷ ls)
    further is q at =
        let skip = if_false (is_eq (leaf_cmp leaf l.leaf)) l (locks_in leaf ls) is in
        record {
          below = let b : q < length ls = at.below in omega arith;
          here = at.here ∙ ap Some (sym skip);
          leaf_at = subst (λ m. is_eq (leaf_cmp leaf m.leaf) ≡ true) (sym skip) at.leaf_at;
          set = λ x y g. other x g (is_eq (leaf_cmp g leaf)) refl (at.set x y g);
        }
      where
        other : (x : Locks) (g : Leaf) (b : Bool) → is_eq (leaf_cmp g leaf) ≡ b → locks_in g (slice_set ls q x) ≡ (if is_eq (leaf_cmp g leaf) then x else locks_in g ls) →
            (if is_eq (leaf_cmp g l.leaf) then l else locks_in g (slice_set ls q x)) ≡ (if b then x else (if is_eq (leaf_cmp g l.leaf) then l else locks_in g ls))
        other x g true f rest =
            if_false (is_eq (leaf_cmp g l.leaf)) l _ (subst (λ h. is_eq (leaf_cmp h l.leaf) ≡ false) (sym (leaf_is g leaf f)) is) ∙ rest ∙ if_true (is_eq (leaf_cmp g leaf)) x _ f
        other x g false f rest = ap (λ m. if is_eq (leaf_cmp g l.leaf) then l else m) (rest ∙ if_false (is_eq (leaf_cmp g leaf)) x _ f)

    go : ((position_from (λ other. is_eq (leaf_cmp leaf other.leaf)) (from + 1) ls ≡ Some place) → (q : ℕ) × (place ≡ from + 1 + q) × IsPlace leaf q ls) → (b : Bool) → is_eq (leaf_cmp leaf l.leaf) ≡ b → cond b (Some from) (position_from (λ other. is_eq (leaf_cmp leaf other.leaf)) (from + 1) ls) ≡ Some place → (q : ℕ) × (place ≡ from + q) × IsPlace leaf q (l ∷ ls)
    go rest true is f = (0, (let g : from ≡ place = cc in omega arith), first is)
    go rest false is f = let r = rest f in (suc r.0, (let g : place ≡ from + 1 + r.0 = r.1 in omega arith), further is r.0 r.2)

pub is_place : (leaf : Leaf) (ls : List Locks) (place : ℕ) → place_in leaf ls ≡ Some place → IsPlace leaf place ls
is_place leaf ls place e = let r = found_place leaf ls 0 place e in subst (λ q. IsPlace leaf q ls) (let g : place ≡ 0 + r.0 = r.1 in let h : r.0 ≡ place = omega arith in h) r.2

-- one leaf's locks changed
pub locked_there : (leaf : Leaf) (ls : List Locks) (place : ℕ) → place_in leaf ls ≡ Some place → (step : Locks → Locks) → ((l : Locks) → (step l).leaf ≡ l.leaf) → (g : Leaf) →
    locks_in g (slice_set ls place (step (locks_in leaf ls))) ≡ locked leaf step (λ h. locks_in h ls) g
locked_there leaf ls place is step keeps g =
    let at = is_place leaf ls place is in
    at.set (step (locks_in leaf ls)) (subst (λ h. is_eq (leaf_cmp leaf h) ≡ true) (sym (keeps (locks_in leaf ls))) at.leaf_at) g
    ∙ go (is_eq (leaf_cmp g leaf)) refl
  where
    go : (b : Bool) → is_eq (leaf_cmp g leaf) ≡ b → (if b then step (locks_in leaf ls) else locks_in g ls) ≡ (if b then step (locks_in g ls) else locks_in g ls)
    go true e = ap (λ h. step (locks_in h ls)) (sym (leaf_is g leaf e))
    go false e = refl

-- what is at a place
pub got : {A : Type 0} (xs : List A) (i : ℕ) (v d : A) → slice_get xs i ≡ Some v → get_or xs i d ≡ v
got [] zero v d e = cc
got [] (suc i) v d e = cc
got (x ∷ xs) zero v d e = some_is e
got (x ∷ xs) (suc i) v d e = got xs i v d e

-- What letting go of locks at a ticket's places does to all locks, and why every lock of a ticket stays at one of its places.
use Rattle.std.proofs.Common.{◌≡◌, refl, sym, ap, ◌∙◌, subst, ℕ, zero, suc, ◌+◌, Bool, true, false, ◌||◌, List, [], ◌∷◌, ◌++◌, map, length, Option, Some, None, cond, if◌then◌else◌, slice_get, slice_set, inl, inr, ⊎_elim, ◌⊎◌, ◌<◌, ◌≤◌, take, drop, is_some, not, filter, get_or, Result, Ok, Err, OnOk, OnErr, arith}
use Rattle.std.specs.BTreeMap.{is_at}
use Rattle.std.specs.Bool.{⊤}
use Rattle.std.specs.Global.{Vec}
use Rattle.std.specs.List.{list_any, position_from}
use Rattle.std.specs.Map.{lookup}
use Rattle.std.specs.Ordering.{is_eq}
use Rattle.terms.specs.declared.leaf.Leaf.{Leaf}
use Rattle.terms.specs.Leaf.{leaf_cmp}
use Rattle.store.specs.declared.name.Ticket.{Ticket}
use Rattle.store.specs.Name.{ticket_cmp}
use Rattle.store.specs.SiteContent.{is_ticket}
use Rattle.protocol.specs.Parts.{In}
use Rattle.protocol.proofs.Basics.{clash, either_if, if_false, some_is, or_left, or_right, or_cases, by_test}
use Rattle.site.specs.declared.locks.Locks.{Locks}
use Rattle.site.specs.Locks.{free, reads, writes, leaves_in, with_reader, with_writer, stops, stops_reading, stops_writing}
use Rattle.site.specs.LockTable.{IsHeld, IsIndexed, KeepsPlaces, change_at, change_each, has_lock, items_in, or_place, places_of}
use Rattle.site.proofs.LeavesKept.{leaves_set, leaves_stop, leaves_stop_reading}
use Rattle.site.proofs.LockLaws.{any_insert, reads-stops_reading}
use Rattle.site.proofs.Leaves.{front_more}
use Rattle.site.proofs.TicketOrder.{leaf_is, leaf_sym, ticket_is, ticket_self}
use Rattle.site.proofs.TicketStates.{got}

-- ---- what changes a list at those places where it changes anything changes all of it
module _ {A : Type 0} (f : A → A) (P : A → Bool) (idle : (x : A) → P x ≡ false → f x ≡ x) (done : (x : A) → P (f x) ≡ false) where
  none_left : (xs : List A) → ((i : ℕ) (x : A) → slice_get xs i ≡ Some x → P x ≡ true → ⊥) → xs ≡ map f xs
  none_left [] covers = refl
  none_left (x ∷ xs) covers = λ i. sym (idle x (not_so (P x) (covers 0 x refl))) i ∷ none_left xs (λ j. covers (suc j)) i
    where
      not_so : (b : Bool) → (b ≡ true → ⊥) → b ≡ false
      not_so b never = ⊎_elim (λ is. absurd (never is)) (λ none. none) (by_test b)

  twice_changed : (place : ℕ) (xs : List A) → map f (change_at f place xs) ≡ map f xs
  twice_changed place [] = refl
  twice_changed zero (x ∷ xs) = ap (λ y. y ∷ map f xs) (idle (f x) (done x))
  twice_changed (suc place) (x ∷ xs) = ap (λ ys. f x ∷ ys) (twice_changed place xs)

  -- what is at a place after a change elsewhere, or there
  still_there : (place : ℕ) (xs : List A) (i : ℕ) (y : A) → slice_get (change_at f place xs) i ≡ Some y → P y ≡ true → (slice_get xs i ≡ Some y) × ((i ≡ place) → ⊥)
  still_there place [] i y is holds = cc
  still_there zero (x ∷ xs) zero y is holds = clash holds (subst (λ z. P z ≡ false) (some_is is) (done x))
  still_there zero (x ∷ xs) (suc i) y is holds = (is, λ e. cc)
  still_there (suc place) (x ∷ xs) zero y is holds = (is, λ e. cc)
  still_there (suc place) (x ∷ xs) (suc i) y is holds = let rest = still_there place xs i y is holds in (rest.0, λ e. rest.1 (suc_is e))
    where
      suc_is : suc i ≡ suc place → i ≡ place
      suc_is e = omega arith

  pub change_all : (places : List ℕ) (xs : List A) → ((i : ℕ) (x : A) → slice_get xs i ≡ Some x → P x ≡ true → In i places) → change_each f places xs ≡ map f xs
  change_all [] xs covers = none_left xs covers
  change_all (place ∷ places) xs covers =
      change_all places (change_at f place xs) (λ i x is holds. let here = still_there place xs i x is holds in ⊎_elim (λ e. absurd (here.1 e)) (λ rest. rest) (covers i x here.0 holds))
      ∙ twice_changed place xs

-- ---- one place of a list that the code changes
pub changed_there : {A : Type 0} (f : A → A) (xs : List A) (i : ℕ) (x : A) → slice_get xs i ≡ Some x → slice_set xs i (f x) ≡ change_at f i xs
changed_there f [] i x is = cc
changed_there f (y ∷ xs) zero x is = ap (λ z. f z ∷ xs) (sym (some_is is))
changed_there f (y ∷ xs) (suc i) x is = ap (λ l. y ∷ l) (changed_there f xs i x is)

pub changed_nowhere : {A : Type 0} (f : A → A) (xs : List A) (i : ℕ) → slice_get xs i ≡ None → xs ≡ change_at f i xs
changed_nowhere f [] i is = refl
changed_nowhere f (y ∷ xs) zero is = cc
changed_nowhere f (y ∷ xs) (suc i) is = ap (λ l. y ∷ l) (changed_nowhere f xs i is)

-- ---- locks that are let go
module _ (ticket : Ticket) (drawn : ℕ) where
  pub idle_reading : (l : Locks) → reads ticket l ≡ false → stops_reading ticket drawn l ≡ l
  idle_reading l none = if_false (reads ticket l) _ l none

  idle_writing : (l : Locks) → writes ticket l ≡ false → stops_writing ticket drawn l ≡ l
  idle_writing l none = if_false (writes ticket l) _ l none

  neither : (a b : Bool) → (a || b) ≡ false → (a ≡ false) × (b ≡ false)
  neither true b e = cc
  neither false b e = (refl, e)

  pub idle_stops : (l : Locks) → has_lock ticket l ≡ false → stops ticket drawn l ≡ l
  idle_stops l none =
      let each = neither (reads ticket l) (writes ticket l) none in
      ap (stops_writing ticket drawn) (idle_reading l each.0) ∙ idle_writing l each.1

  writes_gone : (l : Locks) → writes ticket (stops_writing ticket drawn l) ≡ false
  writes_gone l = either_if (λ m. writes ticket m ≡ false) (writes ticket l) _ l (λ held. refl) (λ none. none)

  reads_stay : (j : Ticket) (l : Locks) → reads j (stops_writing ticket drawn l) ≡ reads j l
  reads_stay j l = either_if (λ m. reads j m ≡ reads j l) (writes ticket l) _ l (λ held. refl) (λ none. refl)

  pub stopped : (l : Locks) → has_lock ticket (stops ticket drawn l) ≡ false
  stopped l = both (reads ticket (stops ticket drawn l)) (writes ticket (stops ticket drawn l)) (reads_stay ticket (stops_reading ticket drawn l) ∙ reads-stops_reading ticket drawn l) (writes_gone (stops_reading ticket drawn l))
    where
      both : (a b : Bool) → a ≡ false → b ≡ false → (a || b) ≡ false
      both true b e f = e
      both false b e f = f

  either_or : (a b c d : Bool) → (a ≡ true → c ≡ true) → (b ≡ true → d ≡ true) → (a || b) ≡ true → (c || d) ≡ true
  either_or true b c d left right e = or_left c d (left refl)
  either_or false b c d left right e = or_right c d (right e)

  -- whoever has a lock after it had one before it
  reads_before : (j : Ticket) (l : Locks) → reads j (stops_reading ticket drawn l) ≡ true → reads j l ≡ true
  reads_before j l = either_if (λ m. reads j m ≡ true → reads j l ≡ true) (reads ticket l) _ l
      (λ held. subset l.readers.keys)
      (λ none is. is)
    where
      subset : (keys : List Ticket) → list_any (λ x. is_ticket j x) (filter (λ x. not (is_ticket ticket x)) keys) ≡ true → list_any (λ x. is_ticket j x) keys ≡ true
      subset [] is = is
      subset (x ∷ keys) is =
          either_if (λ l. list_any (λ x. is_ticket j x) l ≡ true → (is_ticket j x || list_any (λ x. is_ticket j x) keys) ≡ true) (not (is_ticket ticket x)) _ _
          (λ kept here. either_or (is_ticket j x) _ (is_ticket j x) _ (λ e. e) (subset keys) here)
          (λ gone here. or_right (is_ticket j x) _ (subset keys here))
          is

  writes_before : (j : Ticket) (l : Locks) → writes j (stops_writing ticket drawn l) ≡ true → writes j l ≡ true
  writes_before j l = either_if (λ m. writes j m ≡ true → writes j l ≡ true) (writes ticket l) _ l (λ held is. cc) (λ none is. is)

  writes_stay : (j : Ticket) (l : Locks) → writes j (stops_reading ticket drawn l) ≡ writes j l
  writes_stay j l = either_if (λ m. writes j m ≡ writes j l) (reads ticket l) _ l (λ held. refl) (λ none. refl)

  pub reading_before : (j : Ticket) (l : Locks) → has_lock j (stops_reading ticket drawn l) ≡ true → has_lock j l ≡ true
  reading_before j l = either_or (reads j (stops_reading ticket drawn l)) (writes j (stops_reading ticket drawn l)) (reads j l) (writes j l) (reads_before j l) (λ is. sym (writes_stay j l) ∙ is)

  pub stops_before : (j : Ticket) (l : Locks) → has_lock j (stops ticket drawn l) ≡ true → has_lock j l ≡ true
  stops_before j l = either_or (reads j (stops ticket drawn l)) (writes j (stops ticket drawn l)) (reads j l) (writes j l)
      (λ is. reads_before j l (sym (reads_stay j (stops_reading ticket drawn l)) ∙ is))
      (λ is. sym (writes_stay j l) ∙ writes_before j (stops_reading ticket drawn l) is)

-- ---- every lock of a ticket is at one of its places
abbrev pub HeldMap : Type 0
HeldMap = List (Ticket × Vec ℕ)

-- places are kept
pub held_more : (old new : HeldMap) (locks : List Locks) → KeepsPlaces old new → IsHeld old locks → IsHeld new locks
held_more old new locks keeps held ticket place at there has = keeps ticket place (held ticket place at there has)

-- no ticket has a lock that it hadn't
mapped_there : {A B : Type 0} (f : A → B) (xs : List A) (i : ℕ) (y : B) → slice_get (map f xs) i ≡ Some y → (x : A) × (slice_get xs i ≡ Some x) × (y ≡ f x)
mapped_there f [] i y is = cc
mapped_there f (x ∷ xs) zero y is = (x, refl, sym (some_is is))
mapped_there f (x ∷ xs) (suc i) y is = mapped_there f xs i y is

pub held_fewer : (held : HeldMap) (locks : List Locks) (f : Locks → Locks) → ((j : Ticket) (l : Locks) → has_lock j (f l) ≡ true → has_lock j l ≡ true) → IsHeld held locks → IsHeld held (map f locks)
held_fewer held locks f before all ticket place at there has =
    let old = mapped_there f locks place at there in
    all ticket place old.0 old.1 (before ticket old.0 (subst (λ l. has_lock ticket l ≡ true) old.2 has))

-- a ticket without locks needs no places
pub held_without : (held less : HeldMap) (locks : List Locks) (ticket : Ticket) → ((j : Ticket) → is_ticket ticket j ≡ false → places_of j less ≡ places_of j held) → ((place : ℕ) (l : Locks) → slice_get locks place ≡ Some l → has_lock ticket l ≡ false) →
    IsHeld held locks → IsHeld less locks
held_without held less locks ticket others none all j place at there has = ⊎_elim
    (λ same. absurd (no (subst (λ t. has_lock t at ≡ true) (sym (ticket_is ticket j same)) has) (none place at there)))
    (λ apart. subst (λ (ps : List ℕ). In place ps) (sym (others j apart)) (all j place at there has))
    (by_test (is_ticket ticket j))
  where
    no : {b : Bool} → b ≡ true → b ≡ false → ⊥
    no e f = clash e f

-- one place is changed, where its new lock is a ticket's whose place it is
set_there : {A : Type 0} (xs : List A) (p i : ℕ) (x y : A) → slice_get (slice_set xs p x) i ≡ Some y → ((i ≡ p) × (y ≡ x)) ⊎ (slice_get xs i ≡ Some y)
set_there [] p i x y is = cc
set_there (z ∷ xs) zero zero x y is = inl (refl, sym (some_is is))
set_there (z ∷ xs) zero (suc i) x y is = inr is
set_there (z ∷ xs) (suc p) zero x y is = inr is
set_there (z ∷ xs) (suc p) (suc i) x y is = ⊎_elim (λ here. inl (ap suc here.0, here.1)) inr (set_there xs p i x y is)

pub held_set : (held : HeldMap) (locks : List Locks) (ticket : Ticket) (place : ℕ) (old new : Locks) → slice_get locks place ≡ Some old → In place (places_of ticket held) →
    ((j : Ticket) → has_lock j new ≡ true → (is_ticket j ticket ≡ true) ⊎ (has_lock j old ≡ true)) → IsHeld held locks → IsHeld held (slice_set locks place new)
held_set held locks ticket place old new here own more all j i at there has = ⊎_elim
    (λ set. ⊎_elim
    (λ same. subst (λ (t : Ticket). In i (places_of t held)) (sym (ticket_is j ticket same)) (subst (λ (n : ℕ). In n (places_of ticket held)) (sym set.0) own))
    (λ before. all j i old (ap (slice_get locks) set.0 ∙ here) before)
    (more j (subst (λ l. has_lock j l ≡ true) set.1 has)))
    (λ other. all j i at other has)
    (set_there locks place i new at there)

pub reader_more : (ticket : Ticket) (l : Locks) (j : Ticket) → has_lock j (with_reader ticket l) ≡ true → (is_ticket j ticket ≡ true) ⊎ (has_lock j l ≡ true)
reader_more ticket l j has = ⊎_elim
    (λ read. ⊎_elim inl (λ before. inr (or_left (reads j l) (writes j l) before)) (or_cases (is_ticket j ticket) (reads j l) (sym (any_insert (λ x. is_ticket j x) l.readers.keys ticket) ∙ read)))
    (λ wrote. inr (or_right (reads j l) (writes j l) wrote))
    (or_cases (reads j (with_reader ticket l)) (writes j (with_reader ticket l)) has)

pub writer_more : (ticket : Ticket) (l : Locks) (j : Ticket) → has_lock j (with_writer ticket l) ≡ true → (is_ticket j ticket ≡ true) ⊎ (has_lock j l ≡ true)
writer_more ticket l j has = ⊎_elim (λ read. inr (or_left (reads j l) (writes j l) read)) inl (or_cases (reads j (with_writer ticket l)) (writes j (with_writer ticket l)) has)

-- ---- each leaf is found at its place
at_leaves : (leaf : Leaf) (n : ℕ) (locks : List Locks) → position_from (λ other. is_eq (leaf_cmp leaf other.leaf)) n locks ≡ position_from (λ g. is_eq (leaf_cmp leaf g)) n (leaves_in locks)
at_leaves leaf n [] = refl
at_leaves leaf n (l ∷ locks) = ap (cond (is_eq (leaf_cmp leaf l.leaf)) (Some n)) (at_leaves leaf (n + 1) locks)

-- the place depends on the leaves alone
pub same_leaves : (places : List (Leaf × ℕ)) (old new : List Locks) → leaves_in new ≡ leaves_in old → IsIndexed places old → IsIndexed places new
same_leaves places old new same index leaf = index leaf ∙ at_leaves leaf 0 old ∙ ap (position_from (λ g. is_eq (leaf_cmp leaf g)) 0) (sym same) ∙ sym (at_leaves leaf 0 new)

-- ---- one place of the table
pub there : {A : Type 0} (xs : List A) (i : ℕ) (d : A) → i < length xs → slice_get xs i ≡ Some (get_or xs i d)
there [] i d below = absurd (omega arith)
there (x ∷ xs) zero d below = refl
there (x ∷ xs) (suc i) d below = there xs i d (omega arith)

-- its locks became others of the same leaf, which a ticket whose place it is has, or another had before
pub one_locked : (places : List (Leaf × ℕ)) (held : HeldMap) (locks : List Locks) (place : ℕ) (old new : Locks) (ticket : Ticket) → place < length locks → old ≡ get_or locks place old → new.leaf ≡ old.leaf → In place (places_of ticket held) →
    ((j : Ticket) → has_lock j new ≡ true → (is_ticket j ticket ≡ true) ⊎ (has_lock j old ≡ true)) → IsIndexed places locks × IsHeld held locks → IsIndexed places (slice_set locks place new) × IsHeld held (slice_set locks place new)
one_locked places held locks place old new ticket below here leaf own more is = (
  same_leaves places locks (slice_set locks place new) (leaves_set locks place new old here leaf) is.0,
  held_set held locks ticket place old new (there locks place old below ∙ ap Some (sym here)) own more is.1,
)

-- a step that may fail, and then changes nothing
pub reader_or_same : {E : Type 0} (result : Result ⊤ E) (ticket : Ticket) (old new : Locks) → OnOk result (new ≡ with_reader ticket old) → OnErr result (new ≡ old) → (j : Ticket) → has_lock j new ≡ true → (is_ticket j ticket ≡ true) ⊎ (has_lock j old ≡ true)
reader_or_same (Ok x) ticket old new done same j has = reader_more ticket old j (subst (λ l. has_lock j l ≡ true) done has)
reader_or_same (Err e) ticket old new done same j has = inr (subst (λ l. has_lock j l ≡ true) same has)

-- the locks at a place as the code indexes them are those that stand there
pub is_there : (locks : List Locks) (place : ℕ) (at found : Locks) → slice_get locks place ≡ Some at → found ≡ get_or locks place found → found ≡ at
is_there locks place at found there value = value ∙ got locks place at found there

-- a place that is set to what it has
pub set_same : {A : Type 0} (xs : List A) (i : ℕ) (x : A) → slice_get xs i ≡ Some x → xs ≡ slice_set xs i x
set_same [] i x is = refl
set_same (y ∷ xs) zero x is = ap (λ z. z ∷ xs) (some_is is)
set_same (y ∷ xs) (suc i) x is = ap (λ l. y ∷ l) (set_same xs i x is)

-- ---- the places of a ticket after a change of its entry
pub kept_updates : (old new : HeldMap) (k : Ticket) (w : Option (Vec ℕ)) → ((j : Ticket) → lookup (is_at (ticket_cmp j)) new ≡ cond (is_ticket k j) w (lookup (is_at (ticket_cmp j)) old)) →
    ((place : ℕ) → In place (places_of k old) → In place (items_in w)) → KeepsPlaces old new
kept_updates old new k w updates more j place here = go (is_ticket k j) refl
  where
    go : (b : Bool) → is_ticket k j ≡ b → In place (places_of j new)
    go true e = subst (λ o. In place (items_in o)) (sym (updates j ∙ ap (λ b. cond b w (lookup (is_at (ticket_cmp j)) old)) e)) (more place (subst (λ (t : Ticket). In place (places_of t old)) (sym (ticket_is k j e)) here))
    go false e = subst (λ o. In place (items_in o)) (sym (updates j ∙ ap (λ b. cond b w (lookup (is_at (ticket_cmp j)) old)) e)) here

pub others_same : (old new : HeldMap) (k : Ticket) (w : Option (Vec ℕ)) → ((j : Ticket) → lookup (is_at (ticket_cmp j)) new ≡ cond (is_ticket k j) w (lookup (is_at (ticket_cmp j)) old)) → (j : Ticket) → is_ticket k j ≡ false → places_of j new ≡ places_of j old
others_same old new k w updates j apart = ap items_in (updates j ∙ ap (λ b. cond b w (lookup (is_at (ticket_cmp j)) old)) apart)

pub own_place : (new : HeldMap) (k : Ticket) (w : Vec ℕ) (old : HeldMap) → ((j : Ticket) → lookup (is_at (ticket_cmp j)) new ≡ cond (is_ticket k j) (Some w) (lookup (is_at (ticket_cmp j)) old)) → places_of k new ≡ w.items
own_place new k w old updates = ap items_in (updates k ∙ ap (λ b. cond b (Some w) (lookup (is_at (ticket_cmp k)) old)) (ticket_self k))

-- ---- one leaf more
placed_more : (t : Locks → Bool) (n : ℕ) (locks : List Locks) (l : Locks) → position_from t n (locks ++ l ∷ []) ≡ or_place (position_from t n locks) (t l) (n + length locks)
placed_more t n [] l = as_if (t l) ∙ ap (λ m. if t l then Some m else None) (let e : n ≡ n + 0 = omega arith in e)
  where
    as_if : (b : Bool) → cond b (Some n) None ≡ (if b then Some n else None)
    as_if true = refl
    as_if false = refl
placed_more t n (x ∷ locks) l = ap (cond (t x) (Some n)) (placed_more t (n + 1) locks l) ∙ go (t x) ∙ ap (λ m. or_place (cond (t x) (Some n) (position_from t (n + 1) locks)) (t l) m) (let e : (n + 1) + length locks ≡ n + suc (length locks) = omega arith in e)
  where
    go : (b : Bool) → cond b (Some n) (or_place (position_from t (n + 1) locks) (t l) ((n + 1) + length locks)) ≡ or_place (cond b (Some n) (position_from t (n + 1) locks)) (t l) ((n + 1) + length locks)
    go true = refl
    go false = refl

pub indexed_more : (old new : List (Leaf × ℕ)) (locks : List Locks) (l : Locks) (leaf : Leaf) → l.leaf ≡ leaf → ((g : Leaf) → lookup (is_at (leaf_cmp g)) new ≡ or_place (lookup (is_at (leaf_cmp g)) old) (is_eq (leaf_cmp leaf g)) (length locks)) →
    IsIndexed old locks → IsIndexed new (locks ++ l ∷ [])
indexed_more old new locks l leaf of updates index g =
    updates g ∙ ap (λ o. or_place o (is_eq (leaf_cmp leaf g)) (length locks)) (index g)
    ∙ ap (λ b. or_place (position_from (λ other. is_eq (leaf_cmp g other.leaf)) 0 locks) b (length locks)) (leaf_sym leaf g ∙ ap (λ h. is_eq (leaf_cmp g h)) (sym of))
    ∙ ap (λ n. or_place (position_from (λ other. is_eq (leaf_cmp g other.leaf)) 0 locks) (is_eq (leaf_cmp g l.leaf)) n) (let e : length locks ≡ 0 + length locks = omega arith in e)
    ∙ sym (placed_more (λ other. is_eq (leaf_cmp g other.leaf)) 0 locks l)

-- no locks that are free are anybody's
pub free_held : (leaves : List Leaf) → IsHeld [] (map free leaves)
free_held leaves ticket place at there has = let old = mapped_there free leaves place at there in clash (subst (λ l. has_lock ticket l ≡ true) old.2 has) refl

-- ---- a leaf's place in the map
pub index_there : (places : List (Leaf × ℕ)) (leaf : Leaf) (place : ℕ) → is_some (lookup (is_at (leaf_cmp leaf)) places) ≡ true → (g : Leaf) → lookup (is_at (leaf_cmp g)) places ≡ or_place (lookup (is_at (leaf_cmp g)) places) (is_eq (leaf_cmp leaf g)) place
index_there places leaf place has g = go (lookup (is_at (leaf_cmp g)) places) refl (is_eq (leaf_cmp leaf g)) refl
  where
    go : (o : Option ℕ) → lookup (is_at (leaf_cmp g)) places ≡ o → (b : Bool) → is_eq (leaf_cmp leaf g) ≡ b → o ≡ or_place o b place
    go (Some at) found b same = refl
    go None found false same = refl
    go None found true same = clash (subst (λ h. is_some (lookup (is_at (leaf_cmp h)) places) ≡ true) (leaf_is leaf g same) has) (ap is_some found)

pub index_new : (old new : List (Leaf × ℕ)) (leaf : Leaf) (place : ℕ) → is_some (lookup (is_at (leaf_cmp leaf)) old) ≡ false →
    ((g : Leaf) → lookup (is_at (leaf_cmp g)) new ≡ cond (is_eq (leaf_cmp leaf g)) (Some place) (lookup (is_at (leaf_cmp g)) old)) → (g : Leaf) → lookup (is_at (leaf_cmp g)) new ≡ or_place (lookup (is_at (leaf_cmp g)) old) (is_eq (leaf_cmp leaf g)) place
index_new old new leaf place none updates g = updates g ∙ go (lookup (is_at (leaf_cmp g)) old) refl (is_eq (leaf_cmp leaf g)) refl
  where
    go : (o : Option ℕ) → lookup (is_at (leaf_cmp g)) old ≡ o → (b : Bool) → is_eq (leaf_cmp leaf g) ≡ b → cond b (Some place) o ≡ or_place o b place
    go None found true same = refl
    go None found false same = refl
    go (Some at) found false same = refl
    go (Some at) found true same = clash (ap is_some found) (subst (λ h. is_some (lookup (is_at (leaf_cmp h)) old) ≡ false) (leaf_is leaf g same) none)

-- ---- as the code changes one place
pub code_changed : {A : Type 0} (f : A → A) (xs : List A) (i : ℕ) (d y : A) → i < length xs → d ≡ get_or xs i d → y ≡ f d → slice_set xs i y ≡ change_at f i xs
code_changed f xs i d y below here is = ap (slice_set xs i) is ∙ changed_there f xs i d (there xs i d below ∙ ap Some (sym here))

pub code_unchanged : {A : Type 0} (f : A → A) (xs : List A) (i : ℕ) → length xs ≤ i → xs ≡ change_at f i xs
code_unchanged f [] i past = refl
code_unchanged f (x ∷ xs) zero past = absurd (omega arith)
code_unchanged f (x ∷ xs) (suc i) past = ap (λ l. x ∷ l) (code_unchanged f xs i (omega arith))

-- the item at a place of which those before were changed
next_item : {A : Type 0} (f : A → A) (xs : List A) (i : ℕ) → i < length xs → (x : A) × (slice_get (map f (take i xs) ++ drop i xs) i ≡ Some x)
next_item f [] i below = absurd (omega arith)
next_item f (x ∷ xs) zero below = (x, refl)
next_item f (x ∷ xs) (suc i) below = next_item f xs i (omega arith)

pub one_further : {A : Type 0} (f : A → A) (xs ys zs : List A) (i : ℕ) → i < length xs → ys ≡ map f (take i xs) ++ drop i xs → ((x : A) → slice_get ys i ≡ Some x → zs ≡ slice_set ys i (f x)) → zs ≡ map f (take (i + 1) xs) ++ drop (i + 1) xs
one_further f xs ys zs i below so_far step =
    let item = next_item f xs i below in
    let here : slice_get ys i ≡ Some item.0 = ap (λ l. slice_get l i) so_far ∙ item.1 in
    step item.0 here ∙ front_more f xs ys i item.0 (f item.0) below so_far (ap f (sym (got ys i item.0 item.0 here)))

-- ---- a ticket's locks at its places are let go
module _ (ticket : Ticket) (drawn : ℕ) (held : HeldMap) (locks new : List Locks) (places : List ℕ) (of : places ≡ places_of ticket held) where
  at_places : (i : ℕ) (x : Locks) → slice_get locks i ≡ Some x → has_lock ticket x ≡ true → IsHeld held locks → In i places
  at_places i x there has all = subst (In i) (sym of) (all ticket i x there has)

  pub released_all : new ≡ change_each (stops ticket drawn) places locks → IsHeld held locks → new ≡ map (stops ticket drawn) locks
  released_all is all = is ∙ change_all (stops ticket drawn) (has_lock ticket) (idle_stops ticket drawn) (stopped ticket drawn) places locks (λ i x there has. at_places i x there has all)

  pub released_shared : new ≡ change_each (stops_reading ticket drawn) places locks → IsHeld held locks → new ≡ map (stops_reading ticket drawn) locks
  released_shared is all = is ∙ change_all (stops_reading ticket drawn) (reads ticket) (idle_reading ticket drawn) (reads-stops_reading ticket drawn) places locks (λ i x there has. at_places i x there (or_left (reads ticket x) (writes ticket x) has) all)

  pub still_held : (index : List (Leaf × ℕ)) (less : HeldMap) → new ≡ map (stops ticket drawn) locks → ((j : Ticket) → is_ticket ticket j ≡ false → places_of j less ≡ places_of j held) → IsIndexed index locks × IsHeld held locks → IsIndexed index new × IsHeld less new
  still_held index less is others all = (
    same_leaves index locks new (ap leaves_in is ∙ leaves_stop ticket drawn locks) all.0,
    subst (IsHeld less) (sym is) (held_without held less (map (stops ticket drawn) locks) ticket others
        (λ place l there. let old = mapped_there (stops ticket drawn) locks place l there in subst (λ m. has_lock ticket m ≡ false) (sym old.2) (stopped ticket drawn old.0))
        (held_fewer held locks (stops ticket drawn) (stops_before ticket drawn) all.1)),
  )

  pub still_shared : (index : List (Leaf × ℕ)) → new ≡ map (stops_reading ticket drawn) locks → IsIndexed index locks × IsHeld held locks → IsIndexed index new × IsHeld held new
  still_shared index is all = (
    same_leaves index locks new (ap leaves_in is ∙ leaves_stop_reading ticket drawn locks) all.0,
    subst (IsHeld held) (sym is) (held_fewer held locks (stops_reading ticket drawn) (reading_before ticket drawn) all.1),
  )

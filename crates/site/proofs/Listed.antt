-- Lists of tickets, and who has locks by them.
use Rattle.std.proofs.Common.{◌≡◌, refl, sym, ap, ◌∙◌, subst, ◌&&◌, ◌||◌, Bool, true, false, not, List, [], ◌∷◌, map, Option, Some, None, is_some, filter, inl, inr, ⊎_elim}
use Rattle.std.specs.List.{list_any}
use Rattle.std.specs.Option.{option_map}
use Rattle.terms.specs.declared.leaf.Leaf.{Leaf}
use Rattle.store.specs.declared.name.Ticket.{Ticket}
use Rattle.store.specs.declared.prepared.Prepared.{Prepared as Row}
use Rattle.store.specs.SiteContent.{SiteContent, is_ticket}
use Rattle.protocol.specs.Language.{Name, same}
use Rattle.protocol.specs.Parts.{In}
use Rattle.protocol.specs.Site.{Status, Dead, Active, Prepared, is_dead, has_exclusive, has_lock, others_exclusive, others_lock}
use Rattle.protocol.proofs.Basics.{any_in, found, or_cases, or_left, or_right, left_true, right_true, both_true, not_true, clash, if_true, if_false}
use Rattle.site.specs.declared.locks.Locks.{Locks}
use Rattle.site.specs.declared.tickets.TicketState as standings
use Rattle.site.specs.declared.tickets.TicketState.TheVariants as standing
use Rattle.protocol.specs.Local.{local}
use Rattle.protocol.specs.Letters.{name_of, ticket_of}
use Rattle.site.specs.Locks.{reads, writes, is_writer, is_other, others_write, others_have}
use Rattle.site.specs.State.{VolatileState, Fits, state_of, stands, visiting, is_visit, txn_in}
use Rattle.site.proofs.TicketOrder.{same_bool, same_is, ticket_is, ticket_self, ticket_sym}

-- all that pass are all
pub filter_all : {A : Type 0} (p : A → Bool) (xs : List A) → ((x : A) → In x xs → p x ≡ true) → filter p xs ≡ xs
filter_all p [] all = refl
filter_all p (x ∷ xs) all = if_true (p x) (x ∷ filter p xs) (filter p xs) (all x (inl refl)) ∙ ap (λ l. x ∷ l) (filter_all p xs (λ y here. all y (inr here)))

-- names of those that pass are the names that pass
pub filter_names : (p : Name → Bool) (q : Ticket → Bool) (xs : List Ticket) → ((x : Ticket) → In x xs → p (name_of x) ≡ q x) → filter p (map name_of xs) ≡ map name_of (filter q xs)
filter_names p q [] same = refl
filter_names p q (x ∷ xs) same = go (q x) refl (filter_names p q xs (λ y here. same y (inr here)))
  where
    go : (b : Bool) → q x ≡ b → filter p (map name_of xs) ≡ map name_of (filter q xs) → filter p (map name_of (x ∷ xs)) ≡ map name_of (filter q (x ∷ xs))
    go true is rest = if_true (p (name_of x)) _ _ (same x (inl refl) ∙ is) ∙ ap (λ l. name_of x ∷ l) rest ∙ ap (map name_of) (sym (if_true (q x) (x ∷ filter q xs) (filter q xs) is))
    go false is rest = if_false (p (name_of x)) _ _ (same x (inl refl) ∙ is) ∙ rest ∙ ap (map name_of) (sym (if_false (q x) (x ∷ filter q xs) (filter q xs) is))

pub in_names : (x : Ticket) (xs : List Ticket) → In x xs → In (name_of x) (map name_of xs)
in_names x [] here = absurd here
in_names x (y ∷ xs) (inl e) = inl (ap name_of e)
in_names x (y ∷ xs) (inr below) = inr (in_names x xs below)

pub from_names : (n : Name) (xs : List Ticket) → In n (map name_of xs) → In (ticket_of n) xs
from_names n [] here = absurd here
from_names n (y ∷ xs) (inl e) = inl (ap ticket_of e)
from_names n (y ∷ xs) (inr below) = inr (from_names n xs below)

-- an element of a list of tickets
pub any_ticket : (p : Ticket → Bool) (xs : List Ticket) → list_any p xs ≡ true → (x : Ticket) × In x xs × (p x ≡ true)
any_ticket p xs e = found p xs e

dead_none : (locks : Leaf → Locks) (ticket : Ticket) (o : Option standings.TicketState) → is_visit o ≡ is_dead (visiting locks ticket o) → is_visit o ≡ false
dead_none locks ticket None e = refl
dead_none locks ticket (Some (standing.Active v)) e = cc
dead_none locks ticket (Some (standing.Prepared t)) e = refl

some_visit : (locks : Leaf → Locks) (ticket : Ticket) (o : Option standings.TicketState) → is_dead (visiting locks ticket o) ≡ false → is_some o ≡ true
some_visit locks ticket None e = cc
some_visit locks ticket (Some o) e = refl

some_txn : {A : Type 0} (o : Option standings.TicketState) (t : A) → (is_some (txn_in o) ≡ true) → is_some o ≡ true
some_txn None t e = cc
some_txn (Some o) t e = refl

module _ (kept : SiteContent) (table : VolatileState) (fits : Fits kept table) where
  abbrev row_map : Option Row → Bool
  row_map row = is_some row

  -- a prepared row stands in memory too
  row_stands : (j : Ticket) (row : Row) → kept.prepared j ≡ Some row → is_some (table.standing j) ≡ true
  row_stands j row e = some_txn (table.standing j) row (ap is_some (fits.prepared j) ∙ ap (λ o. is_some (option_map (λ (r : Row). r.txn) o)) e)

  -- what isn't dead is listed
  pub listed_alive : (j : Ticket) → is_dead (stands table j (kept.prepared j)) ≡ false → In j table.tickets
  listed_alive j e = go (kept.prepared j) refl e
    where
      go : (row : Option Row) → kept.prepared j ≡ row → is_dead (stands table j row) ≡ false → In j table.tickets
      go None is live = fits.listed j (some_visit table.locks j (table.standing j) live)
      go (Some row) is live = fits.listed j (row_stands j row is)

  -- nothing but a visit, or a row, stands in memory
  pub row_none : (j : Ticket) → txn_in (table.standing j) ≡ None → kept.prepared j ≡ None
  row_none j e = go (kept.prepared j) (sym (fits.prepared j) ∙ e)
    where
      go : (row : Option Row) → option_map (λ (r : Row). r.txn) row ≡ None → row ≡ None
      go None f = refl
      go (Some row) f = cc

  live_of : (j : Ticket) (o : Option standings.TicketState) → table.standing j ≡ o → is_some o ≡ true → is_dead (stands table j (kept.prepared j)) ≡ false
  live_of j None e live = cc
  live_of j (Some (standing.Active v)) e live = rw (row_none j (ap txn_in e), e) refl
  live_of j (Some (standing.Prepared t)) e live = go (kept.prepared j) (sym (fits.prepared j) ∙ ap txn_in e)
    where
      go : (row : Option Row) → option_map (λ (r : Row). r.txn) row ≡ Some t → is_dead (stands table j row) ≡ false
      go None f = cc
      go (Some row) f = refl

  -- what is listed isn't dead
  pub lives_listed : (j : Ticket) → In j table.tickets → is_dead (stands table j (kept.prepared j)) ≡ false
  lives_listed j here = live_of j (table.standing j) refl (fits.lives j here)

  not_reading : (j : Ticket) (g : Leaf) → is_visit (table.standing j) ≡ false → reads j (table.locks g) ≡ false
  not_reading j g e = go (reads j (table.locks g)) refl
    where
      go : (b : Bool) → reads j (table.locks g) ≡ b → b ≡ false
      go true f = clash (fits.readers g j f) e
      go false f = refl

  -- who has a lock reads or writes
  has_lock_is : (j : Ticket) (g : Leaf) (row : Option Row) (o : Option standings.TicketState) → kept.prepared j ≡ row → table.standing j ≡ o → has_lock g (stands table j row) ≡ (reads j (table.locks g) || has_exclusive g (stands table j row))
  has_lock_is j g None None e f = rw (f, not_reading j g (ap is_visit f)) refl
  has_lock_is j g None (Some (standing.Active v)) e f = rw f refl
  has_lock_is j g None (Some (standing.Prepared t)) e f = rw (f, not_reading j g (ap is_visit f)) refl
  has_lock_is j g (Some row) o e f = rw (not_reading j g (go (table.standing j) (fits.prepared j ∙ ap (option_map (λ (r : Row). r.txn)) e))) refl
    where
      go : (p : Option standings.TicketState) → txn_in p ≡ Some row.txn → is_visit p ≡ false
      go None h = refl
      go (Some (standing.Active v)) h = cc
      go (Some (standing.Prepared t)) h = refl

  pub locks_are : (j : Ticket) (g : Leaf) → has_lock g (stands table j (kept.prepared j)) ≡ (reads j (table.locks g) || writes j (table.locks g))
  locks_are j g = has_lock_is j g (kept.prepared j) (table.standing j) refl refl ∙ ap (λ b. reads j (table.locks g) || b) (sym (fits.writers g j))

  another : (j k : Ticket) → not (same (name_of j) (name_of k)) ≡ true → is_ticket k j ≡ false
  another j k e = ticket_sym k j ∙ sym (same_is j k) ∙ not_true _ e

  an_other : (j k : Ticket) → is_ticket k j ≡ false → not (same (name_of j) (name_of k)) ≡ true
  an_other j k e = ap not (same_is j k ∙ ticket_sym j k ∙ e)

  writer_other : (j k : Ticket) (w : Option Ticket) → is_ticket k j ≡ false → is_writer j w ≡ true → is_other k w ≡ true
  writer_other j k None apart held = cc
  writer_other j k (Some w) apart held = ap not (subst (λ x. is_ticket k x ≡ false) (ticket_is j w held) apart)

  the_writer : (k : Ticket) (w : Option Ticket) → is_other k w ≡ true → (j : Ticket) × (is_writer j w ≡ true) × (is_ticket k j ≡ false)
  the_writer k None e = cc
  the_writer k (Some w) e = (w, ticket_self w, not_true _ e)

  dead_not : (j : Ticket) (g : Leaf) → has_lock g (stands table j (kept.prepared j)) ≡ true → is_dead (stands table j (kept.prepared j)) ≡ false
  dead_not j g e = go (stands table j (kept.prepared j)) e
    where
      go : (st : Status local) → has_lock g st ≡ true → is_dead st ≡ false
      go Dead f = cc
      go (Active v) f = refl
      go (Prepared t i) f = refl

  exclusive_lock : (j : Ticket) (g : Leaf) → writes j (table.locks g) ≡ true → has_lock g (stands table j (kept.prepared j)) ≡ true
  exclusive_lock j g e = locks_are j g ∙ or_right (reads j (table.locks g)) _ e

  pub exclusive_is : (k : Ticket) (g : Leaf) → others_exclusive (state_of kept table) (name_of k) g ≡ others_write k (table.locks g)
  exclusive_is k g = same_bool _ _
      (λ e. let f = found (λ n. not (same n (name_of k)) && has_exclusive g ((state_of kept table).status n)) (map name_of table.tickets) e in
      let j = ticket_of f.0 in
      writer_other j k (table.locks g).writer (another j k (left_true _ _ f.2)) (fits.writers g j ∙ right_true (not (same f.0 (name_of k))) _ f.2))
      (λ e. let w = the_writer k (table.locks g).writer e in
      any_in (λ n. not (same n (name_of k)) && has_exclusive g ((state_of kept table).status n)) (name_of w.0) (map name_of table.tickets)
      (in_names w.0 table.tickets (listed_alive w.0 (dead_not w.0 g (exclusive_lock w.0 g w.1))))
      (both_true _ _ (an_other w.0 k w.2) (sym (fits.writers g w.0) ∙ w.1)))

  reader_other : (j k : Ticket) (keys : List Ticket) → is_ticket k j ≡ false → list_any (λ x. is_ticket j x) keys ≡ true → list_any (λ x. not (is_ticket k x)) keys ≡ true
  reader_other j k keys apart e = let f = found (λ x. is_ticket j x) keys e in any_in (λ x. not (is_ticket k x)) f.0 keys f.1 (ap not (subst (λ x. is_ticket k x ≡ false) (ticket_is j f.0 f.2) apart))

  have_other : (j k : Ticket) (l : Locks) → is_ticket k j ≡ false → (reads j l || writes j l) ≡ true → others_have k l ≡ true
  have_other j k l apart e = ⊎_elim
      (λ r. or_right (others_write k l) _ (reader_other j k l.readers.keys apart r))
      (λ w. or_left (others_write k l) _ (writer_other j k l.writer apart w))
      (or_cases (reads j l) (writes j l) e)

  the_holder : (k : Ticket) (l : Locks) → others_have k l ≡ true → (j : Ticket) × ((reads j l || writes j l) ≡ true) × (is_ticket k j ≡ false)
  the_holder k l e = ⊎_elim
      (λ w. let h = the_writer k l.writer w in (h.0, or_right (reads h.0 l) _ h.1, h.2))
      (λ r. let f = found (λ x. not (is_ticket k x)) l.readers.keys r in (f.0, or_left _ (writes f.0 l) (any_in (λ x. is_ticket f.0 x) f.0 l.readers.keys f.1 (ticket_self f.0)), not_true _ f.2))
      (or_cases (others_write k l) _ e)

  pub lock_is : (k : Ticket) (g : Leaf) → others_lock (state_of kept table) (name_of k) g ≡ others_have k (table.locks g)
  lock_is k g = same_bool _ _
      (λ e. let f = found (λ n. not (same n (name_of k)) && has_lock g ((state_of kept table).status n)) (map name_of table.tickets) e in
      let j = ticket_of f.0 in
      have_other j k (table.locks g) (another j k (left_true _ _ f.2)) (sym (locks_are j g) ∙ right_true (not (same f.0 (name_of k))) _ f.2))
      (λ e. let h = the_holder k (table.locks g) e in
      let held = locks_are h.0 g ∙ h.1 in
      any_in (λ n. not (same n (name_of k)) && has_lock g ((state_of kept table).status n)) (name_of h.0) (map name_of table.tickets)
      (in_names h.0 table.tickets (listed_alive h.0 (dead_not h.0 g held)))
      (both_true _ _ (an_other h.0 k h.2) held))

-- What granting and letting go make of the locks on one leaf.
use Rattle.std.proofs.Common.{◌≡◌, refl, sym, ap, ◌∙◌, subst, ℕ, ◌≤◌, nat_le, Bool, true, false, not, ◌||◌, List, [], ◌∷◌, Option, Some, None, filter, arith}
use Rattle.std.specs.List.{list_any}
use Rattle.std.specs.BTreeSet.{insert_key}
use Rattle.std.specs.Ordering.{match_ordering}
use Rattle.std.specs.declared.cmp.Ordering.{Ordering}
use Rattle.std.specs.declared.cmp.Ordering.TheVariants.{Less, Equal, Greater}
use Rattle.store.specs.declared.name.Ticket.{Ticket}
use Rattle.store.specs.Name.{ticket_cmp}
use Rattle.store.specs.SiteContent.{is_ticket}
use Rattle.store.specs.Orders.{ticket_cmp-IsAntisymmetric}
use Rattle.protocol.proofs.Basics.{either, either_if, or_left, or_right, clash}
use Rattle.site.specs.declared.locks.Locks.{Locks}
use Rattle.site.specs.Locks.{free, reads, writes, is_writer, is_other, others_write, others_have, is_foreign, with_reader, with_writer, stops_reading, stops_writing, stops}
use Rattle.site.proofs.TicketOrder.{ticket_is, ticket_self, ticket_sym}

swap : (a b c : Bool) → (a || (b || c)) ≡ (b || (a || c))
swap true true c = refl
swap true false c = refl
swap false b c = refl

twice : (a c : Bool) → (a || c) ≡ (a || (a || c))
twice true c = refl
twice false c = refl

-- one key more
pub any_insert : (p : Ticket → Bool) (keys : List Ticket) (k : Ticket) → list_any p (insert_key ticket_cmp keys k) ≡ (p k || list_any p keys)
any_insert p [] k = refl
any_insert p (x ∷ xs) k = go (ticket_cmp k x) refl (any_insert p xs k)
  where
    go : (r : Ordering) → ticket_cmp k x ≡ r → list_any p (insert_key ticket_cmp xs k) ≡ (p k || list_any p xs) → list_any p (match_ordering r (k ∷ x ∷ xs) (x ∷ xs) (x ∷ insert_key ticket_cmp xs k)) ≡ (p k || (p x || list_any p xs))
    go Less e rest = refl
    go Equal e rest = subst (λ y. (p y || list_any p xs) ≡ (p k || (p y || list_any p xs))) (ticket_cmp-IsAntisymmetric k x e) (twice (p k) (list_any p xs))
    go Greater e rest = ap (λ b. p x || b) rest ∙ swap (p x) (p k) (list_any p xs)

-- what passes the test as well as another is in the list where it is in the part that passes the other
any_filter : (p q : Ticket → Bool) (keys : List Ticket) → ((x : Ticket) → p x ≡ true → q x ≡ true) → list_any p (filter q keys) ≡ list_any p keys
any_filter p q [] to = refl
any_filter p q (x ∷ xs) to =
    either_if (λ l. list_any p l ≡ (p x || list_any p xs)) (q x) (x ∷ filter q xs) (filter q xs)
    (λ is. ap (λ b. p x || b) (any_filter p q xs to))
    (λ other. any_filter p q xs to ∙ ap (λ b. b || list_any p xs) (sym (not_so (p x) (λ is. clash (to x is) other))))
  where
    not_so : (b : Bool) → (b ≡ true → b ≡ false) → b ≡ false
    not_so true f = f refl
    not_so false f = refl

none_filter : (p q : Ticket → Bool) (keys : List Ticket) → ((x : Ticket) → p x ≡ true → q x ≡ false) → list_any p (filter q keys) ≡ false
none_filter p q [] to = refl
none_filter p q (x ∷ xs) to =
    either_if (λ l. list_any p l ≡ false) (q x) (x ∷ filter q xs) (filter q xs)
    (λ is. ap (λ b. b || list_any p (filter q xs)) (not_so (p x) (λ e. clash is (to x e))) ∙ none_filter p q xs to)
    (λ other. none_filter p q xs to)
  where
    not_so : (b : Bool) → (b ≡ true → b ≡ false) → b ≡ false
    not_so true f = f refl
    not_so false f = refl

-- a reader that isn't this ticket
pub others_read : (j k : Ticket) (keys : List Ticket) → is_ticket j k ≡ false → list_any (λ x. is_ticket k x) keys ≡ true → list_any (λ x. not (is_ticket j x)) keys ≡ true
others_read j k [] apart e = cc
others_read j k (x ∷ xs) apart e = go (is_ticket k x) refl e (others_read j k xs apart)
  where
    go : (b : Bool) → is_ticket k x ≡ b → (b || list_any (λ y. is_ticket k y) xs) ≡ true → (list_any (λ y. is_ticket k y) xs ≡ true → list_any (λ y. not (is_ticket j y)) xs ≡ true) → (not (is_ticket j x) || list_any (λ y. not (is_ticket j y)) xs) ≡ true
    go true is all rest = or_left _ _ (ap not (subst (λ y. is_ticket j y ≡ false) (ticket_is k x is) apart))
    go false is all rest = or_right _ _ (rest all)

or_none : (b : Bool) → (b || false) ≡ b
or_none true = refl
or_none false = refl

or_all : (b : Bool) → (b || true) ≡ true
or_all true = refl
or_all false = refl

le_true : (a b : ℕ) → a ≤ b → nat_le a b ≡ true
le_true a b le = grind (arith)

-- who lets go in this life was seen by all who were drawn before
seen_gone : (j : Ticket) (drawn : ℕ) (rest : Bool) → j.visit ≤ drawn → (nat_le j.visit drawn || rest) ≡ true
seen_gone j drawn rest le = or_left _ _ (le_true j.visit drawn le)

module _ (j k : Ticket) (drawn : ℕ) (apart : is_ticket j k ≡ false) (before : j.visit ≤ drawn) where
  reader_is_foreign : (l : Locks) → reads k l ≡ true → is_foreign j l ≡ true
  reader_is_foreign l held = or_right (nat_le j.visit l.released) (others_have j l) (or_right (others_write j l) _ (others_read j k l.readers.keys apart held))

  other_writer : (w : Option Ticket) → is_writer k w ≡ true → is_other j w ≡ true
  other_writer None held = cc
  other_writer (Some w) held = ap not (subst (λ x. is_ticket j x ≡ false) (ticket_is k w held) apart)

  writer_is_foreign : (l : Locks) → writes k l ≡ true → is_foreign j l ≡ true
  writer_is_foreign l held = or_right (nat_le j.visit l.released) (others_have j l) (or_left (others_write j l) _ (other_writer l.writer held))

  -- for another who was there before, a leaf stays foreign, and becomes so by no lock let go
  pub foreign-stops_reading : (l : Locks) → is_foreign j (stops_reading k drawn l) ≡ is_foreign j l
  foreign-stops_reading l =
      either_if (λ m. is_foreign j m ≡ is_foreign j l) (reads k l) _ l
      (λ held. seen_gone j drawn _ before ∙ sym (reader_is_foreign l held))
      (λ none. refl)

  pub foreign-stops_writing : (l : Locks) → is_foreign j (stops_writing k drawn l) ≡ is_foreign j l
  foreign-stops_writing l =
      either_if (λ m. is_foreign j m ≡ is_foreign j l) (writes k l) _ l
      (λ held. seen_gone j drawn _ before ∙ sym (writer_is_foreign l held))
      (λ none. refl)

  pub foreign-stops : (l : Locks) → is_foreign j (stops k drawn l) ≡ is_foreign j l
  foreign-stops l = foreign-stops_writing (stops_reading k drawn l) ∙ foreign-stops_reading l

-- readers and writers
pub reads-stops_reading : (k : Ticket) (drawn : ℕ) (l : Locks) → reads k (stops_reading k drawn l) ≡ false
reads-stops_reading k drawn l =
    either_if (λ m. reads k m ≡ false) (reads k l) _ l
    (λ held. none_filter (λ x. is_ticket k x) (λ x. not (is_ticket k x)) l.readers.keys (λ x is. ap not is))
    (λ none. none)

pub others-stops_reading : (j k : Ticket) (drawn : ℕ) (l : Locks) → is_ticket j k ≡ false → reads j (stops_reading k drawn l) ≡ reads j l
others-stops_reading j k drawn l apart =
    either_if (λ m. reads j m ≡ reads j l) (reads k l) _ l
    (λ held. any_filter (λ x. is_ticket j x) (λ x. not (is_ticket k x)) l.readers.keys (λ x is. ap not (subst (λ y. is_ticket k y ≡ false) (ticket_is j x is) (ticket_sym k j ∙ apart))))
    (λ none. refl)

pub writes-stops_reading : (j k : Ticket) (drawn : ℕ) (l : Locks) → writes j (stops_reading k drawn l) ≡ writes j l
writes-stops_reading j k drawn l = either (λ m. writes j m ≡ writes j l) (reads k l) _ l refl refl

pub reads-stops_writing : (j k : Ticket) (drawn : ℕ) (l : Locks) → reads j (stops_writing k drawn l) ≡ reads j l
reads-stops_writing j k drawn l = either (λ m. reads j m ≡ reads j l) (writes k l) _ l refl refl

pub writes-stops_writing : (k : Ticket) (drawn : ℕ) (l : Locks) → writes k (stops_writing k drawn l) ≡ false
writes-stops_writing k drawn l = either_if (λ m. writes k m ≡ false) (writes k l) _ l (λ held. refl) (λ none. none)

one_writer : (j k : Ticket) (w : Option Ticket) → is_ticket j k ≡ false → is_writer k w ≡ true → is_writer j w ≡ false
one_writer j k None apart held = cc
one_writer j k (Some w) apart held = subst (λ x. is_ticket j x ≡ false) (ticket_is k w held) apart

pub others-stops_writing : (j k : Ticket) (drawn : ℕ) (l : Locks) → is_ticket j k ≡ false → writes j (stops_writing k drawn l) ≡ writes j l
others-stops_writing j k drawn l apart =
    either_if (λ m. writes j m ≡ writes j l) (writes k l) _ l
    (λ held. sym (one_writer j k l.writer apart held))
    (λ none. refl)

pub released-stops_reading : (k : Ticket) (drawn : ℕ) (l : Locks) → l.released ≤ drawn → (stops_reading k drawn l).released ≤ drawn
released-stops_reading k drawn l le = either (λ m. m.released ≤ drawn) (reads k l) _ l (omega arith) le

pub released-stops_writing : (k : Ticket) (drawn : ℕ) (l : Locks) → l.released ≤ drawn → (stops_writing k drawn l).released ≤ drawn
released-stops_writing k drawn l le = either (λ m. m.released ≤ drawn) (writes k l) _ l (omega arith) le

-- a lock is granted
pub foreign-with_reader : (k : Ticket) (l : Locks) → is_foreign k (with_reader k l) ≡ is_foreign k l
foreign-with_reader k l =
    ap (λ b. nat_le k.visit l.released || (others_write k l || b))
    (any_insert (λ x. not (is_ticket k x)) l.readers.keys k ∙ ap (λ b. not b || list_any (λ x. not (is_ticket k x)) l.readers.keys) (ticket_self k))

pub reads-with_reader : (j k : Ticket) (l : Locks) → reads j (with_reader k l) ≡ (is_ticket j k || reads j l)
reads-with_reader j k l = any_insert (λ x. is_ticket j x) l.readers.keys k

pub foreign-with_reader-others : (j k : Ticket) (l : Locks) → is_ticket j k ≡ false → is_foreign j (with_reader k l) ≡ true
foreign-with_reader-others j k l apart =
    or_right (nat_le j.visit l.released) _ (or_right (others_write j l) _ (any_insert (λ x. not (is_ticket j x)) l.readers.keys k ∙ ap (λ b. not b || list_any (λ x. not (is_ticket j x)) l.readers.keys) apart))

-- the exclusive lock, to one to whom the leaf isn't foreign
pub foreign-with_writer : (k : Ticket) (l : Locks) → is_foreign k l ≡ false → is_foreign k (with_writer k l) ≡ false
foreign-with_writer k l free = ap (λ b. nat_le k.visit l.released || (not b || list_any (λ x. not (is_ticket k x)) l.readers.keys)) (ticket_self k) ∙ drop (nat_le k.visit l.released) (others_write k l) _ free
  where
    drop : (a b c : Bool) → (a || (b || c)) ≡ false → (a || c) ≡ false
    drop true b c e = e
    drop false true c e = cc
    drop false false c e = e

pub foreign-with_writer-others : (j k : Ticket) (l : Locks) → is_ticket j k ≡ false → is_foreign j (with_writer k l) ≡ true
foreign-with_writer-others j k l apart = or_right (nat_le j.visit l.released) _ (ap (λ b. not b || list_any (λ x. not (is_ticket j x)) l.readers.keys) apart)

-- A life begins: the memory fits the store, and the state is that of a restart.
use Rattle.std.proofs.Common.{Result, Ok, Err, ◌≡◌, refl, sym, ap, ◌∙◌, subst, ℕ, ◌+◌, ◌^◌, ◌<◌, nat_le, true, false, List, [], map, Option, Some, None, is_some, inl, arith}
use Rattle.std.specs.List.Sorted.{IsStrictlySortedBy}
use Rattle.std.specs.Map.{keys_of}
use Rattle.std.specs.Option.{option_map}
use Rattle.std.specs.Result.{IsErrAnd}
use Rattle.terms.specs.declared.leaf.Leaf.{Leaf}
use Rattle.store.specs.declared.name.Ticket.{Ticket}
use Rattle.store.specs.declared.prepared.Prepared.{Prepared as Row}
use Rattle.store.specs.declared.prepared.PreparedRow.{PreparedRow}
use Rattle.store.specs.declared.prepared.SiteRows.{SiteRows}
use Rattle.store.specs.Name.{ticket_cmp}
use Rattle.store.specs.SiteContent.{SiteContent, BeginsLife, ListsRows, row_of}
use Rattle.protocol.specs.Parts.{In}
use Rattle.protocol.specs.Site.{has_exclusive, is_short}
use Rattle.protocol.proofs.Basics.{clash}
use Rattle.store.specs.declared.fault.StoreFault.{StoreFault}
use Rattle.site.specs.declared.fault.SiteFault.{SiteFault}
use Rattle.site.specs.declared.fault.SiteFault.TheVariants as faults
use Rattle.site.specs.declared.locks.Locks.{Locks}
use Rattle.site.specs.declared.tickets.TicketState as standings
use Rattle.protocol.specs.Letters.{name_of, ticket_of}
use Rattle.protocol.specs.Local.{local}
use Rattle.site.specs.Locks.{free}
use Rattle.site.specs.Recovery.{Begins, granted, stood_by, all_may_stand, resting}
use Rattle.site.specs.State.{AreHad, VolatileState, volatile_from, stands, visiting, is_visit, txn_in}
use Rattle.site.proofs.Counting.{none_pass}
use Rattle.site.proofs.PreparedRows.{all_leaves, standing_of, holds, rows_there, rows_drawn, none_read, none_released, all_write, some_listed, listed_some}
use Rattle.site.proofs.TicketStates.{Entries}

module _ (leaves : List Leaf) (all : SiteRows) (kept after : SiteContent) (lists : ListsRows kept all) (life : BeginsLife kept after) (had : AreHad leaves kept)
    (right : all_may_stand leaves all.life all.prepared (map free leaves) ≡ true)
    (sorted : IsStrictlySortedBy ticket_cmp (keys_of (stood_by all.prepared []))) where
  abbrev entries : Entries
  entries = stood_by all.prepared []

  abbrev ls : List Locks
  ls = granted all.prepared (map free leaves)

  abbrev table : VolatileState
  table = volatile_from entries ls 0 after.life 0

  row_is : (j : Ticket) → row_of j all.prepared ≡ after.prepared j
  row_is j = lists.rows j ∙ sym (life.prepared j)

  there : (j : Ticket) → table.standing j ≡ standing_of (after.prepared j) None
  there j = rows_there all.prepared [] lists.ascend j ∙ ap (λ r. standing_of r None) (row_is j)

  txn_is : (r : Option Row) → txn_in (standing_of r None) ≡ option_map (λ (row : Row). row.txn) r
  txn_is None = refl
  txn_is (Some row) = refl

  no_visit : (r : Option Row) → is_visit (standing_of r None) ≡ false
  no_visit None = refl
  no_visit (Some row) = refl

  is_row : (r : Option Row) → is_some (standing_of r None) ≡ is_some r
  is_row None = refl
  is_row (Some row) = refl

  rests : (r : Option Row) (j : Ticket) (o : Option standings.TicketState) → o ≡ standing_of r None → table.standing j ≡ o → stands table j r ≡ resting r
  rests None j o e f = ap (visiting table.locks j) (f ∙ e)
  rests (Some row) j o e f = refl

  exclusive_rests : (g : Leaf) (r : Option Row) → has_exclusive {L = local} g (resting r) ≡ holds g r
  exclusive_rests g None = refl
  exclusive_rests g (Some row) = refl

  rests_at : (j : Ticket) → stands table j (after.prepared j) ≡ resting (after.prepared j)
  rests_at j = rests (after.prepared j) j (table.standing j) (there j) refl

  short_rests : (r : Option Row) → is_short (resting r) ≡ true
  short_rests None = refl
  short_rests (Some row) = refl

  pub begins : after.life < 2 ^ 63 → Begins after table
  begins lower = record {
    fits = record {
      prepared = λ j. ap txn_in (there j) ∙ txn_is (after.prepared j);
      life = refl;
      had = λ g here. life.has g ∙ had g (subst (In g) (all_leaves leaves all.prepared) here);
      listed = λ j e. some_listed entries j e;
      lives = λ j here. listed_some entries j here;
      readers = λ g j e. clash e (none_read g leaves all.prepared j);
      writers = λ g j. all_write leaves all.life all.prepared lists.ascend right g j ∙ ap (holds g) (row_is j) ∙ sym (ap (has_exclusive {L = local} g) (rests_at j) ∙ exclusive_rests g (after.prepared j));
      drawn = λ j e.
          let below : nat_le j.life all.life ≡ true = rows_drawn leaves all.life all.prepared (map free leaves) right j (ap is_some (row_is j) ∙ sym (is_row (after.prepared j)) ∙ sym (ap is_some (there j)) ∙ e) in
          let a : after.life ≡ kept.life + 1 = life.life in
          let b : all.life ≡ kept.life = lists.incarnation in
          let h : j.life < after.life = grind (arith) in
          inl h;
      fresh = λ j e. clash e (ap is_visit (there j) ∙ no_visit (after.prepared j));
      released = λ g. let r : (table.locks g).released ≡ 0 = none_released g leaves all.prepared in omega arith;
      ascend = sorted;
      counted = sym (none_pass (λ j. is_visit (table.standing j)) table.tickets (λ j. ap is_visit (there j) ∙ no_visit (after.prepared j)));
      few = omega arith;
      short = λ j. ap is_short (rests_at j) ∙ short_rests (after.prepared j);
      low = (lower, omega arith);
    };
    state = λ i. record { kept = after.content; status = λ name. rests_at (ticket_of name) i; known = map name_of table.tickets; life = after.life; number = 0 };
    active = refl;
  }

pub begins_from : (leaves : List Leaf) (all : SiteRows) (kept after : SiteContent) → ListsRows kept all → BeginsLife kept after → AreHad leaves kept → (rows : List PreparedRow) → rows ≡ all.prepared → (es : Entries) (locks : List Locks) (life : ℕ) →
    after.life < 2 ^ 63 → es ≡ stood_by rows [] → locks ≡ granted rows (map free leaves) → all_may_stand leaves all.life rows (map free leaves) ≡ true → IsStrictlySortedBy ticket_cmp (keys_of es) → life ≡ after.life → Begins after (volatile_from es locks 0 life 0)
begins_from leaves all kept after lists begun had rows rows_are es locks life lower stand lock_exclusive right sorted life_is =
    let entries_are = stand ∙ ap (λ r. stood_by r []) rows_are in
    let locks_are = lock_exclusive ∙ ap (λ r. granted r (map free leaves)) rows_are in
    subst (λ n. Begins after (volatile_from es locks 0 n 0)) (sym life_is)
    (subst (λ l. Begins after (volatile_from es l 0 after.life 0)) (sym locks_are)
    (subst (λ x. Begins after (volatile_from x (granted all.prepared (map free leaves)) 0 after.life 0)) (sym entries_are)
    (begins leaves all kept after lists begun had
    (subst (λ r. all_may_stand leaves all.life r (map free leaves) ≡ true) rows_are right)
    (subst (λ x. IsStrictlySortedBy ticket_cmp (keys_of x)) entries_are sorted) lower)))

-- want of memory is no fault of the store
pub not_memory : {A Q : Type 0} (result : Result A SiteFault) (fault : SiteFault) (of : StoreFault) → IsErrAnd result (λ e. e ≡ fault) → result ≡ Err (faults.Store of) → fault ≡ faults.Memory → Q
not_memory (Ok a) fault of e f m = absurd (let h : (Ok a) ≡ Err (faults.Store of) = f in cc)
not_memory (Err x) fault of e f m = absurd (let h : faults.Store of ≡ faults.Memory = cc in cc)

-- the fault that was handed on
pub fault_is : {A : Type 0} (result : Result A SiteFault) (fault other : SiteFault) → IsErrAnd result (λ e. e ≡ fault) → result ≡ Err other → fault ≡ other
fault_is (Ok a) fault other e f = absurd (let h : (Ok a) ≡ Err other = f in cc)
fault_is (Err x) fault other e f = sym e ∙ (let h : x ≡ other = cc in h)

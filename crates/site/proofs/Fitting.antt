-- The memory still fits the store after each move.
use Rattle.std.proofs.Common.{◌≡◌, refl, sym, ap, ◌∙◌, subst, ℕ, suc, ◌-◌, ◌^◌, ◌≤◌, ◌<◌, ◌⊎◌, nat_lt, length, Bool, true, false, not, List, [], ◌∷◌, ◌++◌, Option, Some, None, is_some, filter, if◌then◌else◌, inl, inr, ⊎_elim, arith}
use Rattle.std.specs.FinMap as fin
use Rattle.std.specs.Option.{option_map}
use Rattle.std.specs.Ordering.{is_eq}
use Rattle.std.proofs.lemmas.List.Kept.{IsStrictlySortedBy-filter}
use Rattle.terms.specs.declared.leaf.Leaf.{Leaf}
use Rattle.terms.specs.Leaf.{leaf_cmp}
use Rattle.store.specs.declared.name.Ticket.{Ticket}
use Rattle.store.specs.declared.name.Txn.{Txn}
use Rattle.store.specs.declared.prepared.Prepared.{Prepared as Row}
use Rattle.store.specs.Content.{Changes, touches}
use Rattle.store.specs.Name.{ticket_cmp}
use Rattle.store.specs.SiteContent.{SiteContent, is_ticket}
use Rattle.store.proofs.Changing.{touches_none}
use Rattle.protocol.specs.Parts.{In}
use Rattle.protocol.specs.Site.{has_exclusive, is_short}
use Rattle.protocol.proofs.Basics.{if_true, if_false, clash, in_left, in_right, in_append, in_filter}
use Rattle.protocol.proofs.Locks.{from_filter}
use Rattle.site.specs.declared.locks.Locks as locks
use Rattle.site.specs.declared.tickets.TicketState as standings
use Rattle.site.specs.declared.tickets.Visit as visits
use Rattle.site.specs.declared.tickets.TicketState.TheVariants as standing
use Rattle.site.specs.Locks.{reads, writes, stops, stops_reading}
use Rattle.site.specs.State.{VolatileState, Fits, IsDrawn, stands, visiting, is_visit, txn_in, visits_among}
use Rattle.site.specs.Moves.{next_of, stood, locked, opened, gone, prepared}
use Rattle.site.proofs.Counting.{drawn_below, last_passes, one_fewer, same_pass, sorted_last, without}
use Rattle.site.proofs.LockLaws.{others-stops_reading, writes-stops_reading, reads-stops_reading, reads-stops_writing, writes-stops_writing, others-stops_writing, released-stops_reading, released-stops_writing}
use Rattle.site.proofs.Listed.{row_none}
use Rattle.site.proofs.Steps.{stood_all, nothing_next}
use Rattle.site.proofs.TicketOrder.{ticket_is, ticket_self, ticket_sym, ticket_same}

-- who has what exclusively is told by what stands there and by the row
has_by : (new old : VolatileState) (j : Ticket) (row : Option Row) (leaf : Leaf) → new.standing j ≡ old.standing j → has_exclusive leaf (stands new j row) ≡ has_exclusive leaf (stands old j row)
has_by new old j (Some row) leaf e = refl
has_by new old j None leaf e = ap (λ o. has_exclusive leaf (visiting new.locks j o)) e ∙ go (old.standing j)
  where
    go : (o : Option standings.TicketState) → has_exclusive leaf (visiting new.locks j o) ≡ has_exclusive leaf (visiting old.locks j o)
    go None = refl
    go (Some (standing.Active v)) = refl
    go (Some (standing.Prepared t)) = refl

-- so is how many operations it has done
short_by : (new old : VolatileState) (j : Ticket) (row : Option Row) → new.standing j ≡ old.standing j → is_short (stands old j row) ≡ true → is_short (stands new j row) ≡ true
short_by new old j (Some row) e short = refl
short_by new old j None e short = ap (λ o. is_short (visiting new.locks j o)) e ∙ go (old.standing j) short
  where
    go : (o : Option standings.TicketState) → is_short (visiting old.locks j o) ≡ true → is_short (visiting new.locks j o) ≡ true
    go None short = refl
    go (Some (standing.Active v)) short = short
    go (Some (standing.Prepared t)) short = refl

below_limit : (n : ℕ) → n < 2 ^ 63 → nat_lt n (2 ^ 63) ≡ true
below_limit n below = ltb n below
  where
    ltb : (n : ℕ) → n < 2 ^ 63 → nat_lt n (2 ^ 63) ≡ true
    ltb n below = grind (arith)

-- what was drawn before is drawn still
drawn_still : (life number : ℕ) (j : Ticket) → (j.life < life) ⊎ ((j.life ≡ life) × (j.visit ≤ number)) → (j.life < life) ⊎ ((j.life ≡ life) × (j.visit ≤ suc number))
drawn_still life number j (inl below) = inl below
drawn_still life number j (inr here) = inr (here.0, (let h : j.visit ≤ number = here.1 in omega arith))

module _ (kept : SiteContent) (table : VolatileState) (fits : Fits kept table) where
  abbrev next : Ticket
  next = next_of table

  pub fits_opened : suc table.active ≤ 1024 → suc table.number < 2 ^ 63 → Fits kept (opened table)
  fits_opened room lower =
      let new = Some (standing.Active (record { done = 0; changes = fin.empty })) in
      let none = row_none kept table fits next (ap txn_in (nothing_next kept table fits)) in
      record {
        prepared = stood_all next new table.standing (λ j o. txn_in o ≡ option_map (λ row. row.txn) (kept.prepared j)) (sym (ap (option_map (λ row. row.txn)) none)) (λ j apart. fits.prepared j);
        life = fits.life;
        had = fits.had;
        listed = stood_all next new table.standing (λ j o. is_some o ≡ true → In j (table.tickets ++ next ∷ [])) (λ e. in_right next table.tickets (next ∷ []) (inl refl)) (λ j apart e. in_left j table.tickets (next ∷ []) (fits.listed j e));
        lives = stood_all next new table.standing (λ j o. In j (table.tickets ++ next ∷ []) → is_some o ≡ true) (λ here. refl)
            (λ j apart here. ⊎_elim (fits.lives j) (λ last. ⊎_elim (λ e. clash (ticket_same next j (sym e)) apart) (λ no_one. absurd no_one) last) (in_append j table.tickets (next ∷ []) here));
        readers = λ leaf. stood_all next new table.standing (λ j o. reads j (table.locks leaf) ≡ true → is_visit o ≡ true) (λ e. refl) (λ j apart. fits.readers leaf j);
        writers = λ leaf j. fits.writers leaf j ∙ go leaf j (is_ticket next j) refl;
        drawn = stood_all next new table.standing (λ j o. is_some o ≡ true → IsDrawn (opened table) j) (λ e. inr (refl, omega arith)) (λ j apart e. drawn_still table.life table.number j (fits.drawn j e));
        fresh = stood_all next new table.standing (λ j o. is_visit o ≡ true → (j.life ≡ table.life) × (j.visit ≤ suc table.number)) (λ e. (refl, omega arith)) (λ j apart e. let f = fits.fresh j e in (f.0, (let h : j.visit ≤ table.number = f.1 in omega arith)));
        released = λ leaf. let r : (table.locks leaf).released ≤ table.number = fits.released leaf in omega arith;
        ascend = sorted_last table.tickets next fits.ascend (λ j here. drawn_below table.life table.number j (fits.drawn j (fits.lives j here)));
        counted =
            let now : Ticket → Bool = λ j. is_visit (stood next new table.standing j) in
            let one = last_passes now table.tickets next (ap is_visit (if_true (is_ticket next next) new (table.standing next) (ticket_self next))) in
            let same = same_pass now (λ j. is_visit (table.standing j)) table.tickets
            (λ j here. stood_all next new table.standing (λ i o. In i table.tickets → is_visit o ≡ is_visit (table.standing i)) (λ listed. clash (fits.lives next listed) (ap is_some (nothing_next kept table fits))) (λ i apart listed. refl) j here) in
            ap suc fits.counted ∙ ap (λ l. suc (length l)) (sym same) ∙ sym one;
        few = room;
        short = λ j. shorter j (is_ticket next j) refl;
        low = (fits.low.0, lower);
      }
    where
      shorter : (j : Ticket) (b : Bool) → is_ticket next j ≡ b → is_short (stands (opened table) j (kept.prepared j)) ≡ true
      shorter j true e = subst (λ i. is_short (stands (opened table) i (kept.prepared i)) ≡ true) (ticket_is next j e)
          (let none = row_none kept table fits next (ap txn_in (nothing_next kept table fits)) in
          ap (λ row. is_short (stands (opened table) next row)) none ∙ ap (λ o. is_short (visiting table.locks next o)) (if_true (is_ticket next next) _ (table.standing next) (ticket_self next)))
      shorter j false e = short_by (opened table) table j (kept.prepared j) (if_false (is_ticket next j) _ (table.standing j) e) (fits.short j)

      go : (leaf : Leaf) (j : Ticket) (b : Bool) → is_ticket next j ≡ b → has_exclusive leaf (stands table j (kept.prepared j)) ≡ has_exclusive leaf (stands (opened table) j (kept.prepared j))
      go leaf j true e = subst (λ i. has_exclusive leaf (stands table i (kept.prepared i)) ≡ has_exclusive leaf (stands (opened table) i (kept.prepared i))) (ticket_is next j e)
          (let none = row_none kept table fits next (ap txn_in (nothing_next kept table fits)) in
          ap (λ row. has_exclusive leaf (stands table next row)) none ∙ ap (λ o. has_exclusive leaf (visiting table.locks next o)) (nothing_next kept table fits)
          ∙ sym (touches_none leaf)
          ∙ sym (ap (λ row. has_exclusive leaf (stands (opened table) next row)) none ∙ ap (λ o. has_exclusive leaf (visiting table.locks next o)) (if_true (is_ticket next next) _ (table.standing next) (ticket_self next))))
      go leaf j false e = sym (has_by (opened table) table j (kept.prepared j) leaf (if_false (is_ticket next j) _ (table.standing j) e))

  -- a visit has done an operation, by which it has a lock more
  module _ (k : Ticket) (op : ℕ) (before after : Changes) (done : ℕ) (leaf : Leaf) (step : locks.Locks → locks.Locks)
      (visit : table.standing k ≡ Some (standing.Active (record { done = done; changes = before }))) where
    abbrev new : Option standings.TicketState
    new = Some (standing.Active (record { done = op; changes = after }))

    abbrev operated : VolatileState
    operated = record table { standing = stood k new table.standing; locks = locked leaf step table.locks }

    no_row : kept.prepared k ≡ None
    no_row = row_none kept table fits k (ap txn_in visit)

    module _ (reads_step : (j : Ticket) (l : locks.Locks) → is_ticket k j ≡ false → reads j (step l) ≡ reads j l)
        (released_step : (l : locks.Locks) → (step l).released ≡ l.released)
        (writes_step : (g : Leaf) (j : Ticket) → is_ticket k j ≡ false → writes j (locked leaf step table.locks g) ≡ writes j (table.locks g))
        (own_writes : (g : Leaf) → writes k (locked leaf step table.locks g) ≡ touches g after) where
      read_before : (g : Leaf) (j : Ticket) → is_ticket k j ≡ false → reads j (locked leaf step table.locks g) ≡ reads j (table.locks g)
      read_before g j apart = go (is_eq (leaf_cmp g leaf))
        where
          go : (b : Bool) → reads j (if b then step (table.locks g) else table.locks g) ≡ reads j (table.locks g)
          go true = reads_step j (table.locks g) apart
          go false = refl

      released_before : (g : Leaf) → (locked leaf step table.locks g).released ≡ (table.locks g).released
      released_before g = go (is_eq (leaf_cmp g leaf))
        where
          go : (b : Bool) → (if b then step (table.locks g) else table.locks g).released ≡ (table.locks g).released
          go true = released_step (table.locks g)
          go false = refl

      pub fits_operated : op < 2 ^ 63 → Fits kept operated
      fits_operated low_op = record {
        prepared = stood_all k new table.standing (λ j o. txn_in o ≡ option_map (λ row. row.txn) (kept.prepared j)) (sym (ap (option_map (λ row. row.txn)) no_row)) (λ j apart. fits.prepared j);
        life = fits.life;
        had = fits.had;
        listed = stood_all k new table.standing (λ j o. is_some o ≡ true → In j table.tickets) (λ e. fits.listed k (ap is_some visit)) (λ j apart. fits.listed j);
        lives = stood_all k new table.standing (λ j o. In j table.tickets → is_some o ≡ true) (λ here. refl) (λ j apart. fits.lives j);
        readers = λ g. stood_all k new table.standing (λ j o. reads j (locked leaf step table.locks g) ≡ true → is_visit o ≡ true) (λ e. refl) (λ j apart e. fits.readers g j (sym (read_before g j apart) ∙ e));
        writers = λ g j. go g j (is_ticket k j) refl;
        drawn = stood_all k new table.standing (λ j o. is_some o ≡ true → IsDrawn table j) (λ e. fits.drawn k (ap is_some visit)) (λ j apart. fits.drawn j);
        fresh = stood_all k new table.standing (λ j o. is_visit o ≡ true → (j.life ≡ table.life) × (j.visit ≤ table.number)) (λ e. fits.fresh k (ap is_visit visit)) (λ j apart. fits.fresh j);
        released = λ g. subst (λ n. n ≤ table.number) (sym (released_before g)) (fits.released g);
        ascend = fits.ascend;
        counted = fits.counted ∙ ap length (same_pass (λ j. is_visit (table.standing j)) (λ j. is_visit (stood k new table.standing j)) table.tickets (λ j here. stood_all k new table.standing (λ i o. is_visit (table.standing i) ≡ is_visit o) (ap is_visit visit) (λ i apart. refl) j));
        few = fits.few;
        short = λ j. shorter j (is_ticket k j) refl;
        low = fits.low;
      }
        where
          shorter : (j : Ticket) (b : Bool) → is_ticket k j ≡ b → is_short (stands operated j (kept.prepared j)) ≡ true
          shorter j true e = subst (λ i. is_short (stands operated i (kept.prepared i)) ≡ true) (ticket_is k j e)
              (ap (λ row. is_short (stands operated k row)) no_row ∙ ap (λ o. is_short (visiting (locked leaf step table.locks) k o)) (if_true (is_ticket k k) new (table.standing k) (ticket_self k)) ∙ below_limit op low_op)
          shorter j false e = short_by operated table j (kept.prepared j) (if_false (is_ticket k j) new (table.standing j) e) (fits.short j)

          go : (g : Leaf) (j : Ticket) (b : Bool) → is_ticket k j ≡ b → writes j (locked leaf step table.locks g) ≡ has_exclusive g (stands operated j (kept.prepared j))
          go g j true e = subst (λ i. writes i (locked leaf step table.locks g) ≡ has_exclusive g (stands operated i (kept.prepared i))) (ticket_is k j e)
              (own_writes g
              ∙ sym (ap (λ row. has_exclusive g (stands operated k row)) no_row ∙ ap (λ o. has_exclusive g (visiting (locked leaf step table.locks) k o)) (if_true (is_ticket k k) new (table.standing k) (ticket_self k))))
          go g j false e = writes_step g j e ∙ fits.writers g j ∙ sym (has_by operated table j (kept.prepared j) g (if_false (is_ticket k j) new (table.standing j) e))

  -- a ticket lets go of locks
  module _ (k : Ticket) (o : Option standings.TicketState) (row : Option Row) (after : SiteContent) (active : ℕ)
      (rows : (j : Ticket) → after.prepared j ≡ (if is_ticket k j then row else kept.prepared j)) (life : after.life ≡ kept.life) where
    at_rows : (Q : Ticket → Option Row → Type 0) → Q k row → ((j : Ticket) → is_ticket k j ≡ false → Q j (kept.prepared j)) → (j : Ticket) → Q j (after.prepared j)
    at_rows Q here there j = subst (Q j) (sym (rows j)) (go (is_ticket k j) refl)
      where
        go : (b : Bool) → is_ticket k j ≡ b → Q j (if b then row else kept.prepared j)
        go true e = subst (λ i. Q i row) (ticket_is k j e) here
        go false e = there j e

    others_row : (j : Ticket) → is_ticket k j ≡ false → after.prepared j ≡ kept.prepared j
    others_row j apart = rows j ∙ if_false (is_ticket k j) row (kept.prepared j) apart

    own_row : after.prepared k ≡ row
    own_row = rows k ∙ if_true (is_ticket k k) row (kept.prepared k) (ticket_self k)

    matches : txn_in o ≡ option_map (λ r. r.txn) row → (j : Ticket) → txn_in (stood k o table.standing j) ≡ option_map (λ r. r.txn) (after.prepared j)
    matches same = stood_all k o table.standing (λ j p. txn_in p ≡ option_map (λ r. r.txn) (after.prepared j)) (same ∙ sym (ap (option_map (λ r. r.txn)) own_row)) (λ j apart. fits.prepared j ∙ sym (ap (option_map (λ r. r.txn)) (others_row j apart)))

    has_still : (new : VolatileState) (g : Leaf) (j : Ticket) → is_ticket k j ≡ false → new.standing ≡ stood k o table.standing → has_exclusive g (stands table j (kept.prepared j)) ≡ has_exclusive g (stands new j (after.prepared j))
    has_still new g j apart is =
        sym (ap (λ r. has_exclusive g (stands new j r)) (others_row j apart)
        ∙ has_by new table j (kept.prepared j) g (ap (λ f. f j) is ∙ if_false (is_ticket k j) o (table.standing j) apart))

    reads_apart : (g : Leaf) (j : Ticket) → is_ticket k j ≡ false → reads j (stops k table.number (table.locks g)) ≡ reads j (table.locks g)
    reads_apart g j apart = reads-stops_writing j k table.number (stops_reading k table.number (table.locks g)) ∙ others-stops_reading j k table.number (table.locks g) (ticket_sym j k ∙ apart)

    writes_apart : (g : Leaf) (j : Ticket) → is_ticket k j ≡ false → writes j (stops k table.number (table.locks g)) ≡ writes j (table.locks g)
    writes_apart g j apart = others-stops_writing j k table.number (stops_reading k table.number (table.locks g)) (ticket_sym j k ∙ apart) ∙ writes-stops_reading j k table.number (table.locks g)

  -- one visit fewer is counted where a visit ends, and as many as before where another ends
  abbrev pub Left : Ticket → ℕ → Type 0
  Left k active = ((is_visit (table.standing k) ≡ false) × (active ≡ table.active)) ⊎ ((is_visit (table.standing k) ≡ true) × (active ≡ table.active - 1))

  counted_left : (k : Ticket) (active : ℕ) → Left k active → active ≡ visits_among (stood k None table.standing) (filter (λ j. not (is_ticket k j)) table.tickets)
  counted_left k active left = ⊎_elim
      (λ row. row.1 ∙ fits.counted ∙ ap length (same_pass was now table.tickets (λ j here. stood_all k None table.standing (λ i o. is_visit (table.standing i) ≡ is_visit o) row.0 (λ i apart. refl) j)) ∙ sym part)
      (λ ends.
      let less : suc (length (filter now table.tickets)) ≡ length (filter was table.tickets) = one_fewer k now was table.tickets fits.ascend (fits.listed k (visit_some (table.standing k) ends.0)) others none ends.0 in
      let all : table.active ≡ length (filter was table.tickets) = fits.counted in
      let e : active ≡ table.active - 1 = ends.1 in
      let here : active ≡ length (filter now table.tickets) = omega (arith, less, all, e) in
      here ∙ sym part)
      left
    where
      now : Ticket → Bool
      now j = is_visit (stood k None table.standing j)

      was : Ticket → Bool
      was j = is_visit (table.standing j)

      visit_some : (o : Option standings.TicketState) → is_visit o ≡ true → is_some o ≡ true
      visit_some None e = cc
      visit_some (Some s) e = refl

      none : now k ≡ false
      none = ap is_visit (if_true (is_ticket k k) None (table.standing k) (ticket_self k))

      others : (j : Ticket) → is_ticket k j ≡ false → now j ≡ was j
      others j apart = ap is_visit (if_false (is_ticket k j) None (table.standing j) apart)

      part : length (filter now (filter (λ j. not (is_ticket k j)) table.tickets)) ≡ length (filter now table.tickets)
      part = ap length (without k now table.tickets none)

  -- nothing stands behind a ticket any more, nor has the store a row
  pub fits_gone : (k : Ticket) (after : SiteContent) (active : ℕ) → Left k active → ((j : Ticket) → after.prepared j ≡ (if is_ticket k j then None else kept.prepared j)) → after.life ≡ kept.life → ((g : Leaf) → after.has g ≡ kept.has g) → Fits after (gone k active table)
  fits_gone k after active left_so rows life has =
      let left : List Ticket = filter (λ j. not (is_ticket k j)) table.tickets in
      record {
        prepared = matches k None None after active rows life refl;
        life = fits.life ∙ sym life;
        had = λ g here. has g ∙ fits.had g here;
        listed = stood_all k None table.standing (λ j o. is_some o ≡ true → In j left) (λ e. cc) (λ j apart e. in_filter (λ x. not (is_ticket k x)) j table.tickets (fits.listed j e) (ap not apart));
        lives = stood_all k None table.standing (λ j o. In j left → is_some o ≡ true)
            (λ here. clash (from_filter (λ x. not (is_ticket k x)) k table.tickets here).1 (ap not (ticket_self k)))
            (λ j apart here. fits.lives j (from_filter (λ x. not (is_ticket k x)) j table.tickets here).0);
        readers = λ g. stood_all k None table.standing (λ j o. reads j (stops k table.number (table.locks g)) ≡ true → is_visit o ≡ true)
            (λ e. clash e (reads-stops_writing k k table.number (stops_reading k table.number (table.locks g)) ∙ reads-stops_reading k table.number (table.locks g)))
            (λ j apart e. fits.readers g j (sym (reads_apart k None None after active rows life g j apart) ∙ e));
        writers = λ g j. go g j (is_ticket k j) refl;
        drawn = stood_all k None table.standing (λ j o. is_some o ≡ true → IsDrawn table j) (λ e. cc) (λ j apart. fits.drawn j);
        fresh = stood_all k None table.standing (λ j o. is_visit o ≡ true → (j.life ≡ table.life) × (j.visit ≤ table.number)) (λ e. cc) (λ j apart. fits.fresh j);
        released = λ g. released-stops_writing k table.number (stops_reading k table.number (table.locks g)) (released-stops_reading k table.number (table.locks g) (fits.released g));
        ascend = IsStrictlySortedBy-filter ticket_cmp (λ j. not (is_ticket k j)) table.tickets fits.ascend;
        counted = counted_left k active left_so;
        few = ⊎_elim (λ row. let n : table.active ≤ 1024 = fits.few in let e : active ≡ table.active = row.1 in omega (arith, n, e)) (λ less. let n : table.active ≤ 1024 = fits.few in let e : active ≡ table.active - 1 = less.1 in omega (arith, n, e)) left_so;
        short = λ j. shorter j (is_ticket k j) refl;
        low = fits.low;
      }
    where
      shorter : (j : Ticket) (b : Bool) → is_ticket k j ≡ b → is_short (stands (gone k active table) j (after.prepared j)) ≡ true
      shorter j true e = subst (λ i. is_short (stands (gone k active table) i (after.prepared i)) ≡ true) (ticket_is k j e)
          (ap (λ r. is_short (stands (gone k active table) k r)) (own_row k None None after active rows life) ∙ ap (λ o. is_short (visiting (λ h. stops k table.number (table.locks h)) k o)) (if_true (is_ticket k k) None (table.standing k) (ticket_self k)))
      shorter j false e = ap (λ r. is_short (stands (gone k active table) j r)) (others_row k None None after active rows life j e) ∙ short_by (gone k active table) table j (kept.prepared j) (if_false (is_ticket k j) None (table.standing j) e) (fits.short j)

      go : (g : Leaf) (j : Ticket) (b : Bool) → is_ticket k j ≡ b → writes j (stops k table.number (table.locks g)) ≡ has_exclusive g (stands (gone k active table) j (after.prepared j))
      go g j true e = subst (λ i. writes i (stops k table.number (table.locks g)) ≡ has_exclusive g (stands (gone k active table) i (after.prepared i))) (ticket_is k j e)
          (writes-stops_writing k table.number (stops_reading k table.number (table.locks g))
          ∙ sym (ap (λ r. has_exclusive g (stands (gone k active table) k r)) (own_row k None None after active rows life) ∙ ap (λ o. has_exclusive g (visiting (λ h. stops k table.number (table.locks h)) k o)) (if_true (is_ticket k k) None (table.standing k) (ticket_self k))))
      go g j false e = writes_apart k None None after active rows life g j e ∙ fits.writers g j ∙ has_still k None None after active rows life (gone k active table) g j e refl

  -- a visit is prepared
  pub fits_prepared : (k : Ticket) (txn : Txn) (visit : visits.Visit) → table.standing k ≡ Some (standing.Active visit) → (after : SiteContent) →
      ((j : Ticket) → after.prepared j ≡ (if is_ticket k j then Some (record { txn = txn; changes = visit.changes }) else kept.prepared j)) → after.life ≡ kept.life → ((g : Leaf) → after.has g ≡ kept.has g) → Fits after (prepared k txn table)
  fits_prepared k txn visit is after rows life has =
      let new = Some (standing.Prepared txn) in
      let row = Some (record { txn = txn; changes = visit.changes }) in
      record {
        prepared = matches k new row after 0 rows life refl;
        life = fits.life ∙ sym life;
        had = λ g here. has g ∙ fits.had g here;
        listed = stood_all k new table.standing (λ j o. is_some o ≡ true → In j table.tickets) (λ e. fits.listed k (ap is_some is)) (λ j apart. fits.listed j);
        lives = stood_all k new table.standing (λ j o. In j table.tickets → is_some o ≡ true) (λ here. refl) (λ j apart. fits.lives j);
        readers = λ g. stood_all k new table.standing (λ j o. reads j (stops_reading k table.number (table.locks g)) ≡ true → is_visit o ≡ true)
            (λ e. clash e (reads-stops_reading k table.number (table.locks g)))
            (λ j apart e. fits.readers g j (sym (others-stops_reading j k table.number (table.locks g) (ticket_sym j k ∙ apart)) ∙ e));
        writers = λ g j. go g j (is_ticket k j) refl;
        drawn = stood_all k new table.standing (λ j o. is_some o ≡ true → IsDrawn table j) (λ e. fits.drawn k (ap is_some is)) (λ j apart. fits.drawn j);
        fresh = stood_all k new table.standing (λ j o. is_visit o ≡ true → (j.life ≡ table.life) × (j.visit ≤ table.number)) (λ e. cc) (λ j apart. fits.fresh j);
        released = λ g. released-stops_reading k table.number (table.locks g) (fits.released g);
        ascend = fits.ascend;
        counted =
            let now : Ticket → Bool = λ j. is_visit (stood k new table.standing j) in
            let was : Ticket → Bool = λ j. is_visit (table.standing j) in
            let less : suc (length (filter now table.tickets)) ≡ length (filter was table.tickets) = one_fewer k now was table.tickets fits.ascend (fits.listed k (ap is_some is))
            (λ j apart. ap is_visit (if_false (is_ticket k j) new (table.standing j) apart))
            (ap is_visit (if_true (is_ticket k k) new (table.standing k) (ticket_self k))) (ap is_visit is) in
            let all : table.active ≡ length (filter was table.tickets) = fits.counted in
            let left : table.active - 1 ≡ length (filter now table.tickets) = omega (arith, less, all) in
            left;
        few = let n : table.active ≤ 1024 = fits.few in omega (arith, n);
        short = λ j. shorter j (is_ticket k j) refl;
        low = fits.low;
      }
    where
      shorter : (j : Ticket) (b : Bool) → is_ticket k j ≡ b → is_short (stands (prepared k txn table) j (after.prepared j)) ≡ true
      shorter j true e = subst (λ i. is_short (stands (prepared k txn table) i (after.prepared i)) ≡ true) (ticket_is k j e)
          (ap (λ r. is_short (stands (prepared k txn table) k r)) (own_row k (Some (standing.Prepared txn)) (Some (record { txn = txn; changes = visit.changes })) after 0 rows life))
      shorter j false e = ap (λ r. is_short (stands (prepared k txn table) j r)) (others_row k (Some (standing.Prepared txn)) (Some (record { txn = txn; changes = visit.changes })) after 0 rows life j e) ∙ short_by (prepared k txn table) table j (kept.prepared j) (if_false (is_ticket k j) (Some (standing.Prepared txn)) (table.standing j) e) (fits.short j)

      go : (g : Leaf) (j : Ticket) (b : Bool) → is_ticket k j ≡ b → writes j (stops_reading k table.number (table.locks g)) ≡ has_exclusive g (stands (prepared k txn table) j (after.prepared j))
      go g j true e = subst (λ i. writes i (stops_reading k table.number (table.locks g)) ≡ has_exclusive g (stands (prepared k txn table) i (after.prepared i))) (ticket_is k j e)
          (writes-stops_reading k k table.number (table.locks g) ∙ fits.writers g k
          ∙ ap (λ r. has_exclusive g (stands table k r)) (row_none kept table fits k (ap txn_in is)) ∙ ap (λ o. has_exclusive g (visiting table.locks k o)) is
          ∙ sym (ap (λ r. has_exclusive g (stands (prepared k txn table) k r)) (own_row k (Some (standing.Prepared txn)) (Some (record { txn = txn; changes = visit.changes })) after 0 rows life)))
      go g j false e = writes-stops_reading j k table.number (table.locks g) ∙ fits.writers g j ∙ has_still k (Some (standing.Prepared txn)) (Some (record { txn = txn; changes = visit.changes })) after 0 rows life (prepared k txn table) g j e refl

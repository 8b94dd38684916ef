-- A decision to commit goes into the middle of the line and keeps the whole invariant.
use Rattle.std.proofs.Common.{◌≡◌, refl, sym, ap, ◌∙◌, subst, true, false, ◌||◌, List, [], ◌++◌, ◌⊎◌, inl, inr, ⊎_elim, append-nil}
use Rattle.protocol.specs.Language.{Lang, IsLawful, Name, same, put, written}
use Rattle.protocol.specs.Letter.{Read, Voted}
use Rattle.protocol.specs.Site.{Status, Dead, Active, Prepared, is_dead, is_active, has_exclusive}
use Rattle.protocol.specs.Desk.{Undecided, Known, Deed, Transition}
use Rattle.protocol.specs.World.{World, turned}
use Rattle.protocol.specs.Serial.{is_committed, phases_of, settled}
use Rattle.protocol.proofs.Basics.{every_in, In, put_here, clash, same_law, by_test, left_true, right_true, both_true, or_false}
use Rattle.protocol.proofs.Fits.{is_voting, Own, IsCommitted}
use Rattle.protocol.proofs.DeskFits.{split, was_committed, now_committed}
use Rattle.protocol.proofs.Turns.{known_is}
use Rattle.protocol.proofs.Going.{Good}
use Rattle.protocol.proofs.Locks.{exclusive_lock}
use Rattle.protocol.proofs.Ops.{Op, sets, adds, writes_to, on, writes_on, written_on, written_none, changed_by, touches_by}
use Rattle.protocol.proofs.Data.{TellsBody}
use Rattle.protocol.proofs.Works.{works, own_of}
use Rattle.protocol.proofs.Book.{sets_at}
use Rattle.protocol.proofs.Booked.{Booked}
use Rattle.protocol.proofs.Base.{Base, phases_more}
use Rattle.protocol.proofs.Line.{Line, Two, line_decided, two_same}
use Rattle.protocol.proofs.Viable.{ViableNow, is_row, Viable, alone_at}
use Rattle.protocol.proofs.Settled.{changes_it, changed_by_row, changes_exclusive, settled_none, settled_one, settled_same}
use Rattle.protocol.proofs.OwnReads.{own_sent, writes_at, apart_tickets}
use Rattle.protocol.proofs.Invariant.{Counts, Deep, line_works, two_works}
use Rattle.protocol.proofs.InvariantTurns.{base_next, viable_other, voting_sent, works_stay, committed_join}

module _ {L : Lang} (law : IsLawful L) (o : L.Site → Name → Name) (ops : L.Site → Name → List (Op L)) (whole : L.Whole) (w : World L) (t : Name) (turn : Transition L) (deep : Deep o ops whole w) (good : Good o w t turn) (booked : Booked o ops w t turn)
    (unphased : phases_of turn.deeds ≡ []) (done : IsCommitted turn.deeds t) (u : Undecided L) (e : w.desk.txn t ≡ Known u) (votes : is_voting u.stage ≡ true) where
  abbrev base : Base o ops w
  base = deep.base

  abbrev next : World L
  next = turned w t turn

  abbrev later : List (Deed L)
  later = w.past ++ turn.deeds

  own_t : (a : L.Site) (k : Name) → Own a k u → Own a k (good.fine.commits done).0
  own_t a k own = let c = good.fine.commits done in subst (Own a k) (known_is u c.0 (sym e ∙ c.1)) own

  not_before : IsCommitted w.past t → ⊥
  not_before was = (base.fit.committed t was).1 u e

  -- each of its tickets is prepared or has voted Read
  pub viable_t : Viable ops w t
  viable_t = record { u = u; known = e; voting = votes; each = λ a k own. go a k own ((w.sites a).status k) refl }
    where
      go : (a : L.Site) (k : Name) → Own a k u → (st : Status L) → (w.sites a).status k ≡ st → ViableNow (ops a k) ((w.sites a).status k) ⊎ In (record { site = a; txn = t; body = Voted k Read }) w.letters
      go a k own Dead f = ⊎_elim (λ lives. clash (ap is_dead f) lives) (λ letter. inr letter) ((good.fine.commits done).4 a k (own_t a k own))
      go a k own (Active v) f = clash (ap is_active f) ((good.fine.commits done).3 a k (own_t a k own))
      go a k own (Prepared n i) f = inl (is_row n i f)

  -- where it writes it has a prepared row
  row_at : (g : L.Leaf) → writes_to L g (own_of (works w.past t)) ≡ true → (k : Name) × Own (L.home g) k u × (i : L.Intentions) × ((w.sites (L.home g)).status k ≡ Prepared t i) × (i ≡ adds L (sets (ops (L.home g) k)) L.none) × (L.touches g i ≡ true)
  row_at g writes =
      let at = writes_at law o ops w t base u e (voting_sent law o ops whole w t turn deep good booked u votes) g writes in
      go at.0 at.1 at.2 ((w.sites (L.home g)).status at.0) refl
    where
      go : (k : Name) → Own (L.home g) k u → writes_to L g (sets (ops (L.home g) k)) ≡ true → (st : Status L) → (w.sites (L.home g)).status k ≡ st →
          (k : Name) × Own (L.home g) k u × (i : L.Intentions) × ((w.sites (L.home g)).status k ≡ Prepared t i) × (i ≡ adds L (sets (ops (L.home g) k)) L.none) × (L.touches g i ≡ true)
      go k own is Dead f = ⊎_elim (λ lives. clash (ap is_dead f) lives)
          (λ letter. let none : sets (ops (L.home g) k) ≡ [] = every_in (λ l. TellsBody (ops l.site) (w.sites l.site) l.body) w.letters (record { site = L.home g; txn = t; body = Voted k Read }) base.tells letter in
          absurd (let z : false ≡ true = sym (ap (writes_to L g) none) ∙ is in cc)) ((good.fine.commits done).4 (L.home g) k (own_t (L.home g) k own))
      go k own is (Active v) f = clash (ap is_active f) ((good.fine.commits done).3 (L.home g) k (own_t (L.home g) k own))
      go k own is (Prepared n i) f =
          let rows = (base.data_at (L.home g)).rows k n i f in
          let eq : n ≡ t = sym (base.fit.prepared (L.home g) k n i f).owner ∙ ((base.fit.known t u e).tickets (L.home g) k own).1 in
          (k, own, i, subst (λ m. (w.sites (L.home g)).status k ≡ Prepared m i) eq f, rows, ap (L.touches g) rows ∙ touches_by L law g (sets (ops (L.home g) k)) ∙ is)

  -- its decided rows change each leaf by its own writes
  settled_commits : (g : L.Leaf) → settled next g ≡ written L g (own_of (works w.past t)) (settled w g)
  settled_commits g = ⊎_elim
      (λ writes.
      let row = row_at g writes in
      let s = w.sites (L.home g) in
      let now : changes_it later g (s.status row.0) ≡ true = ap (changes_it later g) row.3 ∙ both_true (is_committed later t) (L.touches g row.2) (now_committed o w t turn base.fit good.fine t done) row.5 in
      settled_one law o booked.new next (base_next law o ops whole w t turn deep good booked) g row.0 now
      ∙ ap (λ st. changed_by_row g st (s.kept g)) row.3
      ∙ ap (λ i. L.changed g i (s.kept g)) row.4
      ∙ changed_by L law g (sets (ops (L.home g) row.0)) (s.kept g)
      ∙ sym (written_on L g (sets (ops (L.home g) row.0)) (s.kept g))
      ∙ ap (λ l. written L g l (s.kept g)) (ap (λ m. on L g (sets_at ops (L.home g) m)) (sym row.1) ∙ own_sent law o ops w t base u e (voting_sent law o ops whole w t turn deep good booked u votes) g)
      ∙ written_on L g (own_of (works w.past t)) (s.kept g)
      ∙ ap (written L g (own_of (works w.past t))) (sym (settled_none law o ops w base g (λ j. ⊎_elim
      (λ is. ⊎_elim
      (λ same_. absurd (not_before (left_true (is_committed w.past t) (L.touches g row.2) (sym (ap (changes_it w.past g) (ap s.status ((same_law j row.0).0 same_) ∙ row.3)) ∙ is))))
      (λ other. clash (exclusive_lock g (s.status row.0) (ap (has_exclusive g) row.3 ∙ row.5)) ((base.locked (L.home g)).alone j row.0 g other (changes_exclusive w.past g (s.status j) is)))
      (by_test (same j row.0)))
      (λ f. f) (by_test (changes_it w.past g (s.status j)))))))
      (λ none. settled_same law o o ops booked.new w next base (base_next law o ops whole w t turn deep good booked) g refl
      (λ k is. (refl, stays ((w.sites (L.home g)).status k) is)) (λ k is. was none k ((w.sites (L.home g)).status k) refl is)
      ∙ sym (written_none L g (own_of (works w.past t)) (settled w g) none))
      (by_test (writes_to L g (own_of (works w.past t))))
    where
      stays : (st : Status L) → changes_it w.past g st ≡ true → changes_it later g st ≡ true
      stays Dead is = cc
      stays (Active v) is = cc
      stays (Prepared n i) is = both_true (is_committed later n) (L.touches g i) (was_committed o w t turn base.fit good.fine n (left_true (is_committed w.past n) (L.touches g i) is)) (right_true (is_committed w.past n) (L.touches g i) is)

      was : writes_to L g (own_of (works w.past t)) ≡ false → (k : Name) (st : Status L) → (w.sites (L.home g)).status k ≡ st → changes_it later g st ≡ true → changes_it w.past g st ≡ true
      was none k Dead f is = cc
      was none k (Active v) f is = cc
      was none k (Prepared n i) f is = ⊎_elim
          (λ old. both_true (is_committed w.past n) (L.touches g i) old (right_true (is_committed later n) (L.touches g i) is))
          (λ now. let own = (base.fit.prepared (L.home g) k n i f).own u (subst (λ m. w.desk.txn m ≡ Known u) (sym now.0) e) in
          let touches = right_true (is_committed later n) (L.touches g i) is in
          clash (sym (sym (writes_on L g (sets (ops (L.home g) k))) ∙ ap (writes_to L g) (ap (λ m. on L g (sets_at ops (L.home g) m)) (sym own.0) ∙ own_sent law o ops w t base u e (voting_sent law o ops whole w t turn deep good booked u votes) g) ∙ writes_on L g (own_of (works w.past t))) ∙ sym (touches_by L law g (sets (ops (L.home g) k))) ∙ ap (L.touches g) (sym ((base.data_at (L.home g)).rows k n i f)) ∙ touches) none)
          (split o w t turn base.fit good.fine n (left_true (is_committed later n) (L.touches g i) is))

  -- no other viable one writes where it does
  two_writers : (j : Name) → ((j ≡ t) → ⊥) → Viable ops w j → (g : L.Leaf) → writes_to L g (own_of (works w.past j)) ≡ true → writes_to L g (own_of (works w.past t)) ≡ false
  two_writers j other viable g writes = ⊎_elim
      (λ too. let row = row_at g too in
      let at = writes_at law o ops w j base viable.u viable.known (voting_sent law o ops whole w t turn deep good booked viable.u viable.voting) g writes in
      clash (exclusive_lock g ((w.sites (L.home g)).status row.0) (ap (has_exclusive g) row.3 ∙ row.5))
      (alone_at law o ops w j base viable (L.home g) at.0 at.1 g at.2 row.0 (apart_tickets law o ops w t base u e j viable.u viable.known other (L.home g) row.0 at.0 row.1 at.1)))
      (λ none. none) (by_test (writes_to L g (own_of (works w.past t))))

  viable_before : (j : Name) → Viable booked.new next j → ((j ≡ t) → ⊥) × Viable ops w j
  viable_before j viable = ⊎_elim
      (λ is. absurd ((good.fine.commits done).2 viable.u (sym (put_here same same_law t turn.txn w.desk.txn) ∙ subst (λ n. put same t turn.txn w.desk.txn n ≡ Known viable.u) ((same_law j t).0 is) viable.known)))
      (λ other. ((λ eq. clash ((same_law j t).1 eq) other), viable_other law o ops whole w t turn deep good booked j other viable)) (by_test (same j t))

  counts_was : (j : Name) → Counts booked.new next j → Counts ops w j
  counts_was j (inl now) = ⊎_elim (λ was. inl was) (λ new. inr (subst (Viable ops w) (sym new.0) viable_t)) (split o w t turn base.fit good.fine j now)
  counts_was j (inr viable) = inr (viable_before j viable).1

  pub commits_deep : Deep o booked.new whole next
  commits_deep =
      let phases : phases_of later ≡ phases_of w.past = phases_more o ops w t turn base good booked ∙ ap (λ l. phases_of w.past ++ l) unphased ∙ append-nil (phases_of w.past) in
      record {
        base = base_next law o ops whole w t turn deep good booked;
        line = subst (Line (works later) (is_committed later) (Counts booked.new next) (settled next) (λ g. L.content g whole)) (sym phases)
            (line_works (works w.past) (works later) (is_committed later) (Counts booked.new next) (settled next) (λ g. L.content g whole) (phases_of w.past) (works_stay law o ops whole w t turn deep good booked)
            (line_decided law (works w.past) (is_committed w.past) (is_committed later) (Counts ops w) (Counts booked.new next) (Viable ops w) (settled w) (settled next) t (phases_of w.past) (λ g. L.content g whole) (λ g. L.content g whole)
            base.once (base.voting t u e votes) not_committed (now_committed o w t turn base.fit good.fine t done) (inr viable_t) viable_t same_others counts_was settled_commits (λ g. refl) deep.two deep.line));
        two = subst (Two (works later) (is_committed later) (Counts booked.new next) (Viable booked.new next)) (sym phases)
            (two_works (works w.past) (works later) (is_committed later) (Counts booked.new next) (Viable booked.new next) (phases_of w.past) (works_stay law o ops whole w t turn deep good booked)
            (two_same (works w.past) (is_committed w.past) (is_committed later) (Counts ops w) (Counts booked.new next) (Viable ops w) (Viable booked.new next) (phases_of w.past)
            (λ x y x_in y_in apart v g writes. let before = viable_before x v in let p = apart before.1 g writes in (
              (λ c. p.0 (counts_was y c)),
              λ now. ⊎_elim p.1 (λ new. subst (λ n. writes_to L g (own_of (works w.past n)) ≡ false) (sym new.0) (two_writers x before.0 before.1 g writes)) (split o w t turn base.fit good.fine y now),
            )) deep.two));
      }
    where
      not_committed : is_committed w.past t ≡ false
      not_committed = ⊎_elim (λ was. absurd (not_before was)) (λ none. none) (by_test (is_committed w.past t))

      same_others : (x : Name) → ((x ≡ t) → ⊥) → is_committed later x ≡ is_committed w.past x
      same_others x other = committed_join law o ops whole w t turn deep good booked x ∙ ap (λ b. is_committed w.past x || b) (good.fine.only x (⊎_elim (λ is. absurd (other ((same_law x t).0 is))) (λ none. none) (by_test (same x t)))) ∙ or_false (is_committed w.past x)

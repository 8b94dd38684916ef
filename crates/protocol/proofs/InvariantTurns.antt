-- Each turn of the coordinator keeps the whole invariant: a quiet one, the beginning of a first phase, and the commit.
use Rattle.std.proofs.Common.{◌≡◌, refl, sym, ap, ◌∙◌, subst, true, false, ◌||◌, List, [], ◌∷◌, ◌++◌, inl, inr, ⊎_elim, append-nil, if◌then◌else◌}
use Rattle.std.proofs.lemmas.List.Folds.{list_any-append}
use Rattle.protocol.specs.Language.{Lang, IsLawful, Name, same, written}
use Rattle.protocol.specs.Letter.{Read, Voted}
use Rattle.protocol.specs.Site.{Visit, Status, Dead, Active, Prepared, is_dead, is_active}
use Rattle.protocol.specs.Desk.{Idle, Reading, Writing, Voting, Stage, Undecided, Known, Deed, Transition}
use Rattle.protocol.specs.World.{World, turned}
use Rattle.protocol.specs.Serial.{is_committed, commits_it, phases_of, settled}
use Rattle.protocol.proofs.Basics.{every_in, In, in_append, put_here, put_there, clash, same_law, by_test, left_true, right_true, both_true, if_true, if_false, or_false}
use Rattle.protocol.proofs.Fits.{is_voting, Own, IsCommitted, Fits}
use Rattle.protocol.proofs.DeskFits.{split, was_committed}
use Rattle.protocol.proofs.Turns.{known_is}
use Rattle.protocol.proofs.Going.{Good}
use Rattle.protocol.proofs.Ops.{Op, writes_to, written_none}
use Rattle.protocol.proofs.Works.{works, own_of, SameView}
use Rattle.protocol.proofs.Book.{unsent_of}
use Rattle.protocol.proofs.Booked.{Tells, Booked}
use Rattle.protocol.proofs.Base.{Base, base_turn, closed, others, view_apart, phases_more}
use Rattle.protocol.proofs.Line.{Line, Two, Apart, RightFrom, right_same, reads_from, line_same, line_end, two_same, two_end}
use Rattle.protocol.proofs.Viable.{ViableNow, is_row, may_go_on, Viable, alone_at}
use Rattle.protocol.proofs.Settled.{changes_it, changes_same, settled_same}
use Rattle.protocol.proofs.OwnReads.{writes_at, apart_tickets, right_now, read_lock}
use Rattle.protocol.proofs.Invariant.{Counts, Deep, deep_moves, line_works, two_works}

module _ {L : Lang} (law : IsLawful L) (o : L.Site → Name → Name) (ops : L.Site → Name → List (Op L)) (whole : L.Whole) (w : World L) (t : Name) (turn : Transition L) (deep : Deep o ops whole w) (good : Good o w t turn) (booked : Booked o ops w t turn) where
  abbrev base : Base o ops w
  base = deep.base

  abbrev next : World L
  next = turned w t turn

  abbrev later : List (Deed L)
  later = w.past ++ turn.deeds

  pub base_next : Base o booked.new next
  base_next = base_turn o ops w t turn base good booked

  -- the coordinator puts out no votes
  no_vote : (a : L.Site) (k j : Name) → In (record { site = a; txn = j; body = Voted k Read }) turn.letters → ⊥
  no_vote a k j here = let is = every_in (Tells booked.new w.sites) turn.letters (record { site = a; txn = j; body = Voted k Read }) booked.tells here in let f : true ≡ false = is.1 in cc

  old_letter : (a : L.Site) (k j : Name) → In (record { site = a; txn = j; body = Voted k Read }) (w.letters ++ turn.letters) → In (record { site = a; txn = j; body = Voted k Read }) w.letters
  old_letter a k j here = ⊎_elim (λ was. was) (λ new. absurd (no_vote a k j new)) (in_append (record { site = a; txn = j; body = Voted k Read }) w.letters turn.letters here)

  -- another transaction that is viable afterwards was so before
  pub viable_other : (j : Name) → same j t ≡ false → Viable booked.new next j → Viable ops w j
  viable_other j apart viable =
      let known : w.desk.txn j ≡ Known viable.u = sym (put_there same same_law t turn.txn w.desk.txn j apart) ∙ viable.known in
      record {
        u = viable.u;
        known = known;
        voting = viable.voting;
        each = λ a k own. ⊎_elim
            (λ now. inl (subst (λ l. ViableNow l ((w.sites a).status k)) (others o ops w t turn base good booked a k j ((base.fit.known j viable.u known).tickets a k own).1 apart) now))
            (λ letter. inr (old_letter a k j letter)) (viable.each a k own);
      }

  -- so was this one, if its first phase had begun
  viable_own : In t (phases_of w.past) → Viable booked.new next t → Viable ops w t
  viable_own here viable =
      let g = good.fine.grows viable.u (sym (put_here same same_law t turn.txn w.desk.txn) ∙ viable.known) in
      let votes = (base.phased t here).1 in
      record {
        u = g.0;
        known = g.1;
        voting = votes g.0 g.1;
        each = λ a k own. ⊎_elim
            (λ now. inl (subst (λ l. ViableNow l ((w.sites a).status k)) (closed o ops w t turn base good booked a k t ((base.fit.known t g.0 g.1).tickets a k own).1 votes) now))
            (λ letter. inr (old_letter a k t letter)) (viable.each a k (g.2.ticket a k own));
      }

  pub viable_was : (j : Name) → In j (phases_of w.past) → Viable booked.new next j → Viable ops w j
  viable_was j here viable = ⊎_elim (λ is. let eq = (same_law j t).0 is in subst (Viable ops w) (sym eq) (viable_own (subst (λ n. In n (phases_of w.past)) eq here) (subst (Viable booked.new next) eq viable))) (λ other. viable_other j other viable) (by_test (same j t))

  pub voting_sent : (u : Undecided L) → is_voting u.stage ≡ true → unsent_of u.stage ≡ []
  voting_sent u votes = go u.stage votes
    where
      go : (s : Stage L) → is_voting s ≡ true → unsent_of s ≡ []
      go Idle v = refl
      go (Reading s asks) v = refl
      go (Writing answer ws) v = cc
      go (Voting f) v = refl

  -- works of the line stay
  pub works_stay : (j : Name) → In j (phases_of w.past) → works later j ≡ works w.past j
  works_stay j here = ⊎_elim
      (λ is. let eq = (same_law j t).0 is in subst (λ n. works later n ≡ works w.past n) (sym eq) (booked.view (λ u e. (base.phased t (subst (λ n. In n (phases_of w.past)) eq here)).1 u e)).works_same)
      (λ other. (view_apart o ops w t turn base good booked j other).works_same) (by_test (same j t))

  pub committed_join : (j : Name) → is_committed later j ≡ (is_committed w.past j || is_committed turn.deeds j)
  committed_join j = list_any-append (commits_it j) w.past turn.deeds

  -- nobody is committed by the turn
  module _ (none : is_committed turn.deeds t ≡ false) where
    committed_same : (j : Name) → is_committed later j ≡ is_committed w.past j
    committed_same j = committed_join j ∙ ap (λ b. is_committed w.past j || b) (⊎_elim (λ is. ap (is_committed turn.deeds) ((same_law j t).0 is) ∙ none) (λ other. good.fine.only j other) (by_test (same j t))) ∙ or_false (is_committed w.past j)

    settled_still : (g : L.Leaf) → settled next g ≡ settled w g
    settled_still g = settled_same law o o ops booked.new w next base base_next g refl
        (λ k is. (refl, changes_same w.past later g committed_same ((w.sites (L.home g)).status k) ∙ is)) (λ k is. sym (changes_same w.past later g committed_same ((w.sites (L.home g)).status k)) ∙ is)

    -- a turn that begins no first phase either
    pub quiet_deep : phases_of turn.deeds ≡ [] → Deep o booked.new whole next
    quiet_deep unphased = deep_moves law o o ops booked.new whole w next deep base_next (phases_more o ops w t turn base good booked ∙ ap (λ l. phases_of w.past ++ l) unphased ∙ append-nil (phases_of w.past)) works_stay committed_same viable_was settled_still

  -- a first phase begins; committed or not, what the transaction writes is nowhere yet
  module _ (one : phases_of turn.deeds ≡ t ∷ []) (view : SameView w.past later t) (u : Undecided L) (e : w.desk.txn t ≡ Known u) (idle : u.stage ≡ Idle) (votes : (v : Undecided L) → turn.txn ≡ Known v → (v.ticket ≡ u.ticket) × (is_voting v.stage ≡ true)) where
    not_phased : In t (phases_of w.past) → ⊥
    not_phased here = clash ((base.phased t here).1 u e) (ap is_voting idle)

    no_row_yet : (a : L.Site) (k n : Name) (i : L.Intentions) → Own a k u → (w.sites a).status k ≡ Prepared n i → ⊥
    no_row_yet a k n i own row =
        let p = base.fit.prepared a k n i row in
        let is : n ≡ t = sym p.owner ∙ ((base.fit.known t u e).tickets a k own).1 in
        clash (p.own u (subst (λ m. w.desk.txn m ≡ Known u) (sym is) e)).1 (ap is_voting idle)

    no_read_yet : (a : L.Site) (k : Name) → In (record { site = a; txn = t; body = Voted k Read }) w.letters → ⊥
    no_read_yet a k here =
        let fits = every_in (Fits o w.desk w.past w.sites) w.letters (record { site = a; txn = t; body = Voted k Read }) base.fit.letters here in
        clash (fits.1.2.1 u e) (ap is_voting idle)

    not_before : IsCommitted w.past t → ⊥
    not_before done = (base.fit.committed t done).1 u e

    other_than : (j : Name) → In j (phases_of w.past) → same j t ≡ false
    other_than j here = ⊎_elim (λ is. absurd (not_phased (subst (λ n. In n (phases_of w.past)) ((same_law j t).0 is) here))) (λ none. none) (by_test (same j t))

    committed_old : (j : Name) → In j (phases_of w.past) → is_committed later j ≡ is_committed w.past j
    committed_old j here = committed_join j ∙ ap (λ b. is_committed w.past j || b) (good.fine.only j (other_than j here)) ∙ or_false (is_committed w.past j)

    works_own : works later t ≡ works w.past t
    works_own = view.works_same

    idle_sent : unsent_of u.stage ≡ []
    idle_sent = ap unsent_of idle

    works_all : (j : Name) → In j (phases_of w.past ++ t ∷ []) → works later j ≡ works w.past j
    works_all j here = ⊎_elim (works_stay j) (λ last. ⊎_elim (λ is. subst (λ n. works later n ≡ works w.past n) (sym is) works_own) (λ none. absurd none) last) (in_append j (phases_of w.past) (t ∷ []) here)

    -- its tickets while it is viable: all active
    alive_now : Viable booked.new next t → (a : L.Site) (k : Name) → Own a k u → (v : Visit L) × ((w.sites a).status k ≡ Active v)
    alive_now viable a k own =
        let same_ticket = (votes viable.u (sym (put_here same same_law t turn.txn w.desk.txn) ∙ viable.known)).0 in
        ⊎_elim (λ now. go now) (λ letter. absurd (no_read_yet a k (old_letter a k t letter))) (viable.each a k (ap (λ f. f a) same_ticket ∙ own))
      where
        go : ViableNow (booked.new a k) ((w.sites a).status k) → (v : Visit L) × ((w.sites a).status k ≡ Active v)
        go (is_row n i f) = absurd (no_row_yet a k n i own f)
        go (may_go_on v f free) = (v, f)

    -- it has no tickets where it is committed at once
    no_ticket : IsCommitted turn.deeds t → (a : L.Site) (k : Name) → Own a k u → ⊥
    no_ticket done a k own =
        let c = good.fine.commits done in
        let own_ = subst (Own a k) (known_is u c.0 (sym e ∙ c.1)) own in
        ⊎_elim (λ lives. go ((w.sites a).status k) refl lives (c.3 a k own_)) (λ letter. no_read_yet a k letter) (c.4 a k own_)
      where
        go : (st : Status L) → (w.sites a).status k ≡ st → is_dead ((w.sites a).status k) ≡ false → is_active ((w.sites a).status k) ≡ false → ⊥
        go Dead f lives quiet = clash (ap is_dead f) lives
        go (Active v) f lives quiet = clash (ap is_active f) quiet
        go (Prepared n i) f lives quiet = no_row_yet a k n i own f

    alive_counts : Counts booked.new next t → (a : L.Site) (k : Name) → Own a k u → (v : Visit L) × ((w.sites a).status k ≡ Active v)
    alive_counts counts a k own = ⊎_elim
        (λ done. ⊎_elim (λ was. absurd (not_before was)) (λ now. absurd (no_ticket now.1 a k own)) (split o w t turn base.fit good.fine t done))
        (λ viable. alive_now viable a k own) counts

    -- what is settled stays: it has no row
    settled_begun : (g : L.Leaf) → settled next g ≡ settled w g
    settled_begun g = settled_same law o o ops booked.new w next base base_next g refl
        (λ k is. (refl, stays ((w.sites (L.home g)).status k) is)) (λ k is. was k ((w.sites (L.home g)).status k) refl is)
      where
        stays : (st : Status L) → changes_it w.past g st ≡ true → changes_it later g st ≡ true
        stays Dead is = cc
        stays (Active v) is = cc
        stays (Prepared n i) is = both_true (is_committed later n) (L.touches g i) (was_committed o w t turn base.fit good.fine n (left_true (is_committed w.past n) (L.touches g i) is)) (right_true (is_committed w.past n) (L.touches g i) is)

        was : (k : Name) (st : Status L) → (w.sites (L.home g)).status k ≡ st → changes_it later g st ≡ true → changes_it w.past g st ≡ true
        was k Dead f is = cc
        was k (Active v) f is = cc
        was k (Prepared n i) f is = both_true (is_committed w.past n) (L.touches g i)
            (⊎_elim (λ old. old) (λ now. absurd (clash ((base.fit.prepared (L.home g) k n i f).own u (subst (λ m. w.desk.txn m ≡ Known u) (sym now.0) e)).1 (ap is_voting idle))) (split o w t turn base.fit good.fine n (left_true (is_committed later n) (L.touches g i) is)))
            (right_true (is_committed later n) (L.touches g i) is)

    -- committed at once it writes nothing
    nothing_written : (g : L.Leaf) (x : L.Content) → (if is_committed later t then written L g (own_of (works w.past t)) x else x) ≡ x
    nothing_written g x = ⊎_elim
        (λ done. if_true (is_committed later t) (written L g (own_of (works w.past t)) x) x done ∙ written_none L g (own_of (works w.past t)) x
        (⊎_elim (λ is. let at = writes_at law o ops w t base u e idle_sent g is in ⊎_elim (λ was. absurd (not_before was)) (λ now. absurd (no_ticket now.1 (L.home g) at.0 at.1)) (split o w t turn base.fit good.fine t done)) (λ none. none) (by_test (writes_to L g (own_of (works w.past t))))))
        (λ not_. if_false (is_committed later t) (written L g (own_of (works w.past t)) x) x not_)
        (by_test (is_committed later t))

    -- an earlier viable one writes nothing that it read, nor that it writes
    apart_begun : (j : Name) → In j (phases_of w.past) → Apart (works w.past) (is_committed later) (Counts booked.new next) (Viable booked.new next) j t
    apart_begun j here viable g writes =
        let before = viable_was j here viable in
        let at = writes_at law o ops w j base before.u before.known (voting_sent before.u before.voting) g writes in (
          (λ counts. ⊎_elim
              (λ reads. let lock = read_lock law o ops w t base u e (alive_counts counts) [] (works w.past t) (base.book t u e).reads g reads in
              clash lock.2 (alone_at law o ops w j base before (L.home g) at.0 at.1 g at.2 lock.0 (apart_tickets law o ops w t base u e j before.u before.known (λ is. not_phased (subst (λ n. In n (phases_of w.past)) is here)) (L.home g) lock.0 at.0 lock.1 at.1)))
              (λ none. none) (by_test (reads_from g (works w.past t)))),
          λ done. ⊎_elim (λ is. let own = writes_at law o ops w t base u e idle_sent g is in
              ⊎_elim (λ was. absurd (not_before was)) (λ now. absurd (no_ticket now.1 (L.home g) own.0 own.1)) (split o w t turn base.fit good.fine t done)) (λ none. none) (by_test (writes_to L g (own_of (works w.past t)))),
        )

    pub begun_deep : Deep o booked.new whole next
    begun_deep =
        let phases : phases_of later ≡ phases_of w.past ++ t ∷ [] = phases_more o ops w t turn base good booked ∙ ap (λ l. phases_of w.past ++ l) one in
        let counts : (j : Name) → In j (phases_of w.past) → Counts booked.new next j → Counts ops w j = λ j here. ⊎_elim (λ done. inl (sym (committed_old j here) ∙ done)) (λ viable. inr (viable_was j here viable)) in
        record {
          base = base_next;
          line = subst (Line (works later) (is_committed later) (Counts booked.new next) (settled next) (λ g. L.content g whole)) (sym phases)
              (line_works (works w.past) (works later) (is_committed later) (Counts booked.new next) (settled next) (λ g. L.content g whole) (phases_of w.past ++ t ∷ []) works_all
              (line_end (works w.past) (is_committed later) (Counts booked.new next) (settled next) law (phases_of w.past) (λ g. L.content g whole) t nothing_written
              (λ c. right_settled (right_now law o ops w t base u e (alive_counts c) [] (works w.past t) (base.book t u e).reads))
              (line_same law (works w.past) (is_committed w.past) (is_committed later) (Counts ops w) (Counts booked.new next) (settled w) (settled next) (phases_of w.past) (λ g. L.content g whole) (λ g. L.content g whole) committed_old counts settled_begun (λ g. refl) deep.line)));
          two = subst (Two (works later) (is_committed later) (Counts booked.new next) (Viable booked.new next)) (sym phases)
              (two_works (works w.past) (works later) (is_committed later) (Counts booked.new next) (Viable booked.new next) (phases_of w.past ++ t ∷ []) works_all
              (two_end (works w.past) (is_committed later) (Counts booked.new next) (Viable booked.new next) (phases_of w.past) t apart_begun
              (two_same (works w.past) (is_committed w.past) (is_committed later) (Counts ops w) (Counts booked.new next) (Viable ops w) (Viable booked.new next) (phases_of w.past)
              (λ x y x_in y_in apart v g writes. let p = apart (viable_was x x_in v) g writes in ((λ c. p.0 (counts y y_in c)), λ done. p.1 (sym (committed_old y y_in) ∙ done))) deep.two)));
        }
      where
        right_settled : RightFrom (settled w) (works w.past t) → RightFrom (settled next) (works w.past t)
        right_settled right = right_same law (settled w) (settled next) (works w.past t) (λ g reads. settled_begun g) right

-- The catalogue in force after every event, from an opening on.
use Rattle.std.proofs.Common.{◌≡◌, refl, sym, ap, ap₂, ◌∙◌, subst, ℕ, suc, ◌==◌, Bool, true, false, ◌||◌, ◌&&◌, not, List, [], ◌∷◌, ◌++◌, if◌then◌else◌, inl, ⊎_elim, append-nil, flat_map, Option, Some, None, slice_get, map}
use Rattle.std.proofs.lemmas.Bool.{eqb-true}
use Rattle.std.proofs.lemmas.Grind.{flat_map-append}
use Rattle.std.proofs.lemmas.List.Folds.{list_any-append}
use Rattle.protocol.specs.Language.{Lang, IsLawful, Name, same}
use Rattle.protocol.specs.Letter.{Letter, is_for_desk}
use Rattle.protocol.specs.Desk.{Undecided, Txn, Unknown, Known, Row, Choice, Began, Request, State, Transition, fresh_as, desk_began, desk_after, desk_restarted, is_moving, is_unknown, is_undecided, next_txn, on_request, on_desk_letter, txn_restarted, is_desk_within, states, ask_of}
use Rattle.protocol.specs.World.{World, Event, Begin, Refragment, Call, Deliver, Site_gives_up, Site_inquires, Site_restarts, Desk_restarts, is_empty, is_site, begun, turned, turns, called, comes_to, delivered, desk_lives, may_begin, may_ask, may_move, first_turn, happens, run, begins, refragments}
use Rattle.protocol.specs.Serial.{commits_it, is_committed, phased_of, phases_of, statement_in, statements_of, IsOpening}
use Rattle.protocol.proofs.Basics.{In, in_at, in_filter, in_left, in_right, every_at, put_all, put_here, put_there, clash, same_law, same_refl, either, or_cases, or_left, left_true, right_true, by_test, all_in, if_true, if_false, not_true, or_false, either_if}
use Rattle.protocol.proofs.Fits.{Born, Fits}
use Rattle.protocol.proofs.Turns.{known_is}
use Rattle.protocol.proofs.FitEvents.{not_born, none_known, no_commits}
use Rattle.protocol.proofs.DeskTable.{asked, came, request_turned, letter_turned}
use Rattle.protocol.proofs.DeskSteps.{request_good, letter_good}
use Rattle.protocol.proofs.Ops.{Op}
use Rattle.protocol.proofs.BookTurns.{request_booked, letter_booked}
use Rattle.protocol.proofs.BaseEvents.{lives_phases, lives_view}
use Rattle.protocol.proofs.Invariant.{Deep}
use Rattle.protocol.proofs.InvariantSites.{IsDeep}
use Rattle.protocol.proofs.InvariantEvents.{happens_deep, opening_deep}
use Rattle.protocol.proofs.Saying.{turn_speaks, Lives, states_live}
use Rattle.protocol.proofs.Order.{InStep, ends, Low, Single, Order, order_still}
use Rattle.protocol.proofs.Versions.{Versions, moving_is, undecided_is, known_not, not_unknown}
use Rattle.protocol.proofs.VersionedTurns.{turned_versioned}

module _ {L : Lang} where
  -- ---- every event
  module _ (law : IsLawful L) (whole : L.Whole) (first : ℕ) (o : L.Site → Name → Name) (ops : L.Site → Name → List (Op L)) (w : World L) (deep : Deep o ops whole w) (now : Versions first w) where
    -- whoever is in the line was born
    not_next : (x : Name) → In x (phases_of w.past) → same x (next_txn w.desk) ≡ false
    not_next x here = ⊎_elim (λ is. absurd (not_born w.desk (subst (Born w.desk) ((same_law x (next_txn w.desk)).0 is) (deep.base.phased x here).0))) (λ other. other) (by_test (same x (next_txn w.desk)))

    began_said : (moves : Bool) (x : Name) → statements_of (begun moves w).past x ≡ statements_of w.past x
    began_said moves x = flat_map-append (statement_in x) w.past (Began (next_txn w.desk) ∷ []) ∙ append-nil (statements_of w.past x)

    nothing_said : statements_of w.past (next_txn w.desk) ≡ []
    nothing_said = (deep.base.unborn (next_txn w.desk) (not_born w.desk)).statements_same

    began_phases : (moves : Bool) → phases_of (begun moves w).past ≡ phases_of w.past
    began_phases moves = flat_map-append phased_of w.past (Began (next_txn w.desk) ∷ []) ∙ append-nil (phases_of w.past)

    began_committed : (moves : Bool) (x : Name) → is_committed (begun moves w).past x ≡ is_committed w.past x
    began_committed moves x = list_any-append (commits_it x) w.past (Began (next_txn w.desk) ∷ []) ∙ or_false (is_committed w.past x)

    -- a transaction begins
    begins_versioned : may_begin w ≡ true → Versions first (begun false w)
    begins_versioned may =
        let t = next_txn w.desk in
        let v = begun false w in
        let none : (x : Name) → is_moving (w.desk.txn x) ≡ true → ⊥ = λ x m. let u = moving_is (w.desk.txn x) m in clash m (not_true (is_moving (w.desk.txn x)) (all_in (λ y. not (is_moving (w.desk.txn y))) x w.desk.known may (now.listed x (known_not (w.desk.txn x) u.0 u.1)))) in
        let none_now : (x : Name) → is_moving (v.desk.txn x) ≡ true → ⊥ = put_all same same_law t (Known (fresh_as false)) w.desk.txn (λ x y. is_moving y ≡ true → ⊥) (λ m. cc) (λ x other m. none x m) in
        record {
          listed = λ x known. in_filter (λ y. not (is_unknown (v.desk.txn y))) x (w.desk.known ++ t ∷ [])
              (⊎_elim (λ is. in_right x w.desk.known (t ∷ []) (inl ((same_law x t).0 is))) (λ other. in_left x w.desk.known (t ∷ []) (now.listed x (ap is_unknown (sym (put_there same same_law t (Known (fresh_as false)) w.desk.txn x other)) ∙ known))) (by_test (same x t))) (not_unknown v.desk.txn x known);
          in_step = λ x u f. subst (InStep L w.version) (sym (began_said false x)) (put_all same same_law t (Known (fresh_as false)) w.desk.txn (λ y z. z ≡ Known u → InStep L w.version (statements_of w.past y)) (λ is. subst (InStep L w.version) (sym nothing_said) tt) (λ y other is. now.in_step y u is) x f);
          plain = λ x u f low. subst (Low L) (sym (began_said false x)) (put_all same same_law t (Known (fresh_as false)) w.desk.txn (λ y z. z ≡ Known u → Low L (statements_of w.past y)) (λ is. subst (Low L) (sym nothing_said) tt) (λ y other is. now.plain y u is low) x f);
          moved = λ x u f moves. absurd (none_now x (ap is_moving f ∙ moves));
          alone = λ x y m known. absurd (none_now x m);
          order = subst (λ ts. Order L (statements_of v.past) (is_committed v.past) (λ x. is_committed v.past x || is_undecided (v.desk.txn x)) (λ x. is_moving (v.desk.txn x)) w.version first ts) (sym (began_phases false))
              (order_still L (statements_of w.past) (statements_of v.past) (is_committed w.past) (is_committed v.past) _ _ _ _ w.version first (phases_of w.past) (λ x here. began_said false x)
              (λ x here m. ap (λ b. if b then ends L m (statements_of w.past x) else m) (began_committed false x))
              (λ x here counts. ap (λ b. b || is_undecided (w.desk.txn x)) (sym (began_committed false x)) ∙ ap (λ y. is_committed v.past x || is_undecided y) (sym (put_there same same_law t (Known (fresh_as false)) w.desk.txn x (not_next x here))) ∙ counts)
              (λ x here m. absurd (none_now x m)) now.order);
        }

    -- a refragmentation begins, and states its statement
    module _ (s : L.Statement) (choice : Choice L) (may : may_move w s ≡ true) where
      abbrev t : Name
      t = next_txn w.desk

      abbrev v : World L
      v = begun true w

      abbrev turn : Transition L
      turn = first_turn w s choice

      abbrev after : World L
      after = turned v t turn

      lives : Lives (fresh_as {L = L} true) (states {L = L} t (fresh_as true) s (map ask_of (L.fetches s)) choice)
      lives = states_live {L = L} t (fresh_as true) s (map ask_of (L.fetches s)) choice

      empty : is_empty w.desk.known ≡ true
      empty = left_true (is_empty w.desk.known) (L.tag s == w.version) (left_true (is_empty w.desk.known && (L.tag s == w.version)) (L.raises s) may)

      tag : L.tag s ≡ w.version
      tag = eqb-true (L.tag s) w.version (right_true (is_empty w.desk.known) (L.tag s == w.version) (left_true (is_empty w.desk.known && (L.tag s == w.version)) (L.raises s) may))

      raises : L.raises s ≡ true
      raises = right_true (is_empty w.desk.known && (L.tag s == w.version)) (L.raises s) may

      none_in : (names : List Name) → is_empty names ≡ true → (x : Name) → In x names → ⊥
      none_in [] e x here = here
      none_in (y ∷ names) e x here = cc

      -- everybody else is unknown
      unknown_there : (x : Name) → same x t ≡ false → is_unknown (after.desk.txn x) ≡ true
      unknown_there x other = ap is_unknown (put_there same same_law t turn.txn v.desk.txn x other ∙ put_there same same_law t (Known (fresh_as true)) w.desk.txn x other)
          ∙ ⊎_elim (λ is. is) (λ known. absurd (none_in w.desk.known empty x (now.listed x known))) (by_test (is_unknown (w.desk.txn x)))

      it_is : (x : Name) → is_unknown (after.desk.txn x) ≡ false → x ≡ t
      it_is x known = ⊎_elim (λ is. (same_law x t).0 is) (λ other. clash (unknown_there x other) known) (by_test (same x t))

      its_new : after.desk.txn t ≡ Known lives.new
      its_new = put_here same same_law t turn.txn v.desk.txn ∙ lives.is

      it_moves : (x : Name) (y : Undecided L) → after.desk.txn x ≡ Known y → y.moves ≡ true
      it_moves x y f = ap (λ z. z.moves) (known_is y lives.new (sym f ∙ ap after.desk.txn (it_is x (known_not (after.desk.txn x) y f)) ∙ its_new)) ∙ lives.moves

      said : (x : Name) → statements_of after.past x ≡ statements_of w.past x ++ (if same t x then s ∷ [] else [])
      said x = flat_map-append (statement_in x) v.past turn.deeds ∙ ap₂ (λ a b. a ++ ((if same t x then s ∷ [] else []) ++ b)) (began_said true x) (lives.mute.statements x) ∙ ap (λ l. statements_of w.past x ++ l) (append-nil (if same t x then s ∷ [] else []))

      its_statement : statements_of after.past t ≡ s ∷ []
      its_statement = said t ∙ ap₂ (λ a b. a ++ b) nothing_said (if_true (same t t) (s ∷ []) [] (same_refl t))

      same_committed : (x : Name) → is_committed after.past x ≡ is_committed w.past x
      same_committed x = list_any-append (commits_it x) v.past turn.deeds ∙ ap (λ b. is_committed v.past x || b) (lives.mute.commits x) ∙ or_false (is_committed v.past x) ∙ began_committed true x

      same_version : after.version ≡ w.version
      same_version = if_false (is_moving (v.desk.txn t) && is_committed turn.deeds t) (suc w.version) w.version (no_and (is_moving (v.desk.txn t)) (is_committed turn.deeds t) (lives.mute.commits t))
        where
          no_and : (a b : Bool) → b ≡ false → (a && b) ≡ false
          no_and true b e = e
          no_and false b e = refl

      same_phases : phases_of after.past ≡ phases_of w.past
      same_phases = flat_map-append phased_of v.past turn.deeds ∙ ap (λ l. phases_of v.past ++ l) lives.mute.phases ∙ append-nil (phases_of v.past) ∙ began_phases true

      not_it : (x : Name) → In x (phases_of w.past) → same t x ≡ false
      not_it x here = ⊎_elim (λ is. clash ((same_law x t).1 (sym ((same_law t x).0 is))) (not_next x here)) (λ other. other) (by_test (same t x))

      moves_versioned : Versions first after
      moves_versioned = record {
        listed = λ x known. subst (λ y. In y after.desk.known) (sym (it_is x known)) (in_filter (λ y. not (is_unknown (after.desk.txn y))) t v.desk.known
            (in_filter (λ y. not (is_unknown (v.desk.txn y))) t (w.desk.known ++ t ∷ []) (in_right t w.desk.known (t ∷ []) (inl refl)) (ap (λ y. not (is_unknown y)) (put_here same same_law t (Known (fresh_as true)) w.desk.txn)))
            (ap (λ y. not (is_unknown y)) its_new));
        in_step = λ x y f. subst (λ n. InStep L n (statements_of after.past x)) (sym same_version) (subst (λ z. InStep L w.version (statements_of after.past z)) (sym (it_is x (known_not (after.desk.txn x) y f))) (subst (InStep L w.version) (sym its_statement) (tag, tt)));
        plain = λ x y f low. clash (it_moves x y f) low;
        moved = λ x y f m. subst (λ z. Single L (statements_of after.past z)) (sym (it_is x (known_not (after.desk.txn x) y f))) (s, its_statement, raises);
        alone = λ x y m known. let u = moving_is (after.desk.txn x) m in it_is y known ∙ sym (it_is x (known_not (after.desk.txn x) u.0 u.1));
        order = subst (λ n. Order L (statements_of after.past) (is_committed after.past) (λ x. is_committed after.past x || is_undecided (after.desk.txn x)) (λ x. is_moving (after.desk.txn x)) n first (phases_of after.past)) (sym same_version)
            (subst (λ ts. Order L (statements_of after.past) (is_committed after.past) (λ x. is_committed after.past x || is_undecided (after.desk.txn x)) (λ x. is_moving (after.desk.txn x)) w.version first ts) (sym same_phases)
            (order_still L (statements_of w.past) (statements_of after.past) (is_committed w.past) (is_committed after.past) _ _ _ _ w.version first (phases_of w.past)
            (λ x here. said x ∙ ap (λ l. statements_of w.past x ++ l) (if_false (same t x) (s ∷ []) [] (not_it x here)) ∙ append-nil (statements_of w.past x))
            (λ x here m. ap (λ b. if b then ends L m (statements_of w.past x) else m) (same_committed x))
            (λ x here counts. or_left (is_committed w.past x) (is_undecided (w.desk.txn x)) (sym (same_committed x) ∙ ⊎_elim (λ done. done) (λ und. let u = undecided_is (after.desk.txn x) und in absurd (not_there x here (known_not (after.desk.txn x) u.0 u.1))) (or_cases (is_committed after.past x) (is_undecided (after.desk.txn x)) counts)))
            (λ x here m. let u = moving_is (after.desk.txn x) m in absurd (not_there x here (known_not (after.desk.txn x) u.0 u.1))) now.order));
      }
        where
          not_there : (x : Name) → In x (phases_of w.past) → is_unknown (after.desk.txn x) ≡ false → ⊥
          not_there x here known = clash ((same_law x t).1 (it_is x known)) (not_next x here)

    -- a restart of the coordinator
    lives_versioned : Versions first (desk_lives w)
    lives_versioned =
        let v = desk_lives w in
        let deeds = flat_map (λ t. (txn_restarted t (w.desk.txn t)).deeds) w.desk.known in
        let alike : (x : Name) → is_committed v.past x ≡ is_committed w.past x = λ x. list_any-append (commits_it x) w.past deeds ∙ ap (λ b. is_committed w.past x || b) (no_commits o w deep.base.fit x w.desk.known) ∙ or_false (is_committed w.past x) in
        let none : (x : Name) (u : Undecided L) → v.desk.txn x ≡ Known u → ⊥ = λ x u. none_known o w deep.base.fit x (w.desk.txn x) u in
        record {
          listed = λ x known. in_filter (λ y. not (is_unknown (v.desk.txn y))) x w.desk.known (now.listed x (still_known x (w.desk.txn x) known)) (not_unknown v.desk.txn x known);
          in_step = λ x u f. absurd (none x u f);
          plain = λ x u f low. absurd (none x u f);
          moved = λ x u f m. absurd (none x u f);
          alone = λ x y m known. let u = moving_is (v.desk.txn x) m in absurd (none x u.0 u.1);
          order = subst (λ ts. Order L (statements_of v.past) (is_committed v.past) (λ x. is_committed v.past x || is_undecided (v.desk.txn x)) (λ x. is_moving (v.desk.txn x)) w.version first ts) (sym (lives_phases o ops w deep.base))
              (order_still L (statements_of w.past) (statements_of v.past) (is_committed w.past) (is_committed v.past) _ _ _ _ w.version first (phases_of w.past) (λ x here. (lives_view o ops w deep.base x).statements_same)
              (λ x here m. ap (λ b. if b then ends L m (statements_of w.past x) else m) (alike x))
              (λ x here counts. or_left (is_committed w.past x) (is_undecided (w.desk.txn x)) (sym (alike x) ∙ ⊎_elim (λ done. done) (λ und. let u = undecided_is (v.desk.txn x) und in absurd (none x u.0 u.1)) (or_cases (is_committed v.past x) (is_undecided (v.desk.txn x)) counts)))
              (λ x here m. let u = moving_is (v.desk.txn x) m in absurd (none x u.0 u.1)) now.order);
        }
      where
        still_known : (x : Name) (y : Txn L) → is_unknown (txn_restarted x y).txn ≡ false → is_unknown y ≡ false
        still_known x Unknown known = known
        still_known x (Known u) known = refl
        still_known x (Row vs acked) known = refl

    -- a request that may be made, and a letter from a site
    turns_versioned : (t : Name) (turn : Transition L) → Versions first (turned w t turn) → Versions first (turns w t turn)
    turns_versioned t turn next = either (Versions first) (is_desk_within (desk_after w.desk t turn.txn)) (turned w t turn) w next now

    asks_versioned : (t : Name) (choice : Choice L) (request : Request L) → may_ask w t request ≡ true → Versions first (called w t choice request)
    asks_versioned t choice request may = turns_versioned t (on_request t choice request (w.desk.txn t))
        (turned_versioned law whole first o ops w deep now t (asked request) (on_request t choice request (w.desk.txn t)) (request_good law o w t deep.base.fit choice request (w.desk.txn t) refl)
        (request_booked law o ops w t deep.base.fit (deep.base.book t) choice request (w.desk.txn t) refl) (turn_speaks t choice (asked request) (w.desk.txn t) _ (request_turned t choice request (w.desk.txn t)))
        (λ s is. facts s (subst (λ r. may_ask w t r ≡ true) (request_is request (State s) is) may)))
      where
        request_is : (r q : Request L) → asked r ≡ asked q → r ≡ q
        request_is r q e = cc

        facts : (s : L.Statement) → may_ask w t (State s) ≡ true → (is_moving (w.desk.txn t) ≡ false) × (L.tag s ≡ w.version) × (L.raises s ≡ false)
        facts s e =
            let calm = not (is_moving (w.desk.txn t)) in
            let both = left_true (calm && (L.tag s == w.version)) (not (L.raises s)) e in
            (not_true (is_moving (w.desk.txn t)) (left_true calm (L.tag s == w.version) both), eqb-true (L.tag s) w.version (right_true calm (L.tag s == w.version) both), not_true (L.raises s) (right_true (calm && (L.tag s == w.version)) (not (L.raises s)) e))

    comes_versioned : (kept : Bool) (choice : Choice L) (l : Letter L) → Fits o w.desk w.past w.sites l → In l w.letters → (desk : Bool) → Versions first (comes_to desk w kept choice l)
    comes_versioned kept choice l fits here false = either (Versions first) _ _ w now now
    comes_versioned kept choice l fits here true = turns_versioned l.txn (on_desk_letter l.txn l.site kept choice l.body (w.desk.txn l.txn))
        (turned_versioned law whole first o ops w deep now l.txn (came l.site kept l.body) (on_desk_letter l.txn l.site kept choice l.body (w.desk.txn l.txn)) (letter_good law o w l.txn deep.base.fit l.site kept choice l.body (w.desk.txn l.txn) refl fits.0 fits.1 here)
        (letter_booked law o ops w l.txn deep.base.fit (deep.base.book l.txn) l.site kept choice l.body (w.desk.txn l.txn) refl fits.1 here) (turn_speaks l.txn choice (came l.site kept l.body) (w.desk.txn l.txn) _ (letter_turned l.txn choice l.site kept l.body (w.desk.txn l.txn)))
        (λ s is. absurd (no_request (State s) is)))
      where
        no_request : (r : Request L) → came l.site kept l.body ≡ asked r → ⊥
        no_request r e = cc

    delivered_versioned : (kept : Bool) (choice : Choice L) (n : ℕ) (l : Option (Letter L)) → slice_get w.letters n ≡ l → Versions first (delivered w kept choice l)
    delivered_versioned kept choice n None e = now
    delivered_versioned kept choice n (Some l) e = comes_versioned kept choice l (every_at (Fits o w.desk w.past w.sites) w.letters n l deep.base.fit.letters e) (in_at w.letters n l e) (is_for_desk l.body)

    pub happens_versioned : (e : Event L) → Versions first (happens w e)
    happens_versioned Begin = go (may_begin w) refl
      where
        go : (b : Bool) → may_begin w ≡ b → Versions first (if b then begins w else w)
        go true may = either (Versions first) (is_desk_within (desk_began w.desk)) (begun false w) w (begins_versioned may) now
        go false none = now
    happens_versioned (Refragment s choice) = either_if (Versions first) (may_move w s) (refragments w s choice) w (λ may. either (Versions first) _ _ w (moves_versioned s choice may) now) (λ none. now)
    happens_versioned (Call t request choice) = either_if (Versions first) (may_ask w t request) (called w t choice request) w (λ may. asks_versioned t choice request may) (λ none. now)
    happens_versioned (Deliver n kept choice) = delivered_versioned kept choice n (slice_get w.letters n) refl
    happens_versioned (Site_gives_up a k) = either (Versions first) (is_site L a L.sites) _ w (either (Versions first) _ _ w now now) now
    happens_versioned (Site_inquires a) = either (Versions first) (is_site L a L.sites) _ w now now
    happens_versioned (Site_restarts a kept) = either (Versions first) (is_site L a L.sites) _ w (either (Versions first) kept _ w (either (Versions first) _ _ w now now) now) now
    happens_versioned (Desk_restarts kept) = either (Versions first) kept _ w (either (Versions first) (is_desk_within (desk_restarted w.desk)) (desk_lives w) w lives_versioned now) now

  module _ (law : IsLawful L) (whole : L.Whole) where
    pub run_versioned : (first : ℕ) (events : List (Event L)) (w : World L) → IsDeep law whole w → Versions first w → Versions first (run events w)
    run_versioned first [] w deep now = now
    run_versioned first (e ∷ es) w deep now =
        let next = happens_deep law whole deep.0 deep.1 w deep.2 e in
        run_versioned first es (happens w e) (next.0, next.1, next.2) (happens_versioned law whole first deep.0 deep.1 w deep.2 now e)

    pub opening_versioned : (w : World L) → IsOpening whole w → Versions (L.version whole) w
    opening_versioned w opening = record {
      listed = λ t known. clash (ap is_unknown (opening.undecided t)) known;
      in_step = λ t u e. absurd (none t u e);
      plain = λ t u e low. absurd (none t u e);
      moved = λ t u e m. absurd (none t u e);
      alone = λ t x m known. let u = moving_is (w.desk.txn t) m in absurd (none t u.0 u.1);
      order = subst (λ p. Order L (statements_of p) (is_committed p) (λ t. is_committed p t || is_undecided (w.desk.txn t)) (λ t. is_moving (w.desk.txn t)) w.version (L.version whole) (phases_of p)) (sym opening.past) (sym opening.in_force);
    }
      where
        none : (t : Name) (u : Undecided L) → w.desk.txn t ≡ Known u → ⊥
        none t u e = let f : Unknown ≡ Known u = sym (opening.undecided t) ∙ e in cc

    -- so after every list of events
    pub run_versions : (w : World L) (events : List (Event L)) → IsOpening whole w → Versions (L.version whole) (run events w)
    run_versions w events opening = run_versioned (L.version whole) events w (opening_deep law whole w opening) (opening_versioned w opening)

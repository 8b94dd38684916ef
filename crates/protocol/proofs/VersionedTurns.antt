-- The catalogue in force after a turn of the coordinator: a commit of a refragmentation brings the next one, and nothing else does.
use Rattle.std.proofs.Common.{◌≡◌, refl, sym, ap, ◌∙◌, subst, ℕ, suc, Bool, true, false, ◌||◌, ◌&&◌, not, List, [], ◌∷◌, ◌++◌, if◌then◌else◌, ⊎_elim, append-nil}
use Rattle.std.proofs.lemmas.Grind.{flat_map-append}
use Rattle.std.proofs.lemmas.List.Folds.{list_any-append}
use Rattle.protocol.specs.Language.{Lang, IsLawful, Name, same}
use Rattle.protocol.specs.Desk.{Idle, Undecided, Known, State, Transition, is_moving, is_unknown, is_undecided, states}
use Rattle.protocol.specs.World.{World, turned}
use Rattle.protocol.specs.Serial.{commits_it, is_committed, phased_of, phases_of, statement_in, statements_of}
use Rattle.protocol.proofs.Basics.{In, in_filter, put_all, put_here, clash, same_law, or_cases, or_left, or_right, by_test, if_true, if_false, or_false, every_append}
use Rattle.protocol.proofs.Fits.{is_voting}
use Rattle.protocol.proofs.Turns.{known_is, not_yet}
use Rattle.protocol.proofs.Going.{Good}
use Rattle.protocol.proofs.DeskTable.{Cause, asked}
use Rattle.protocol.proofs.Ops.{Op}
use Rattle.protocol.proofs.Booked.{Booked, PhaseTurn, goes_on, starts}
use Rattle.protocol.proofs.Invariant.{Deep}
use Rattle.protocol.proofs.Saying.{Speaks, Says, says_none, says_one}
use Rattle.protocol.proofs.Order.{InStep, ends, step_more, Low, Single, ends_low, ends_single, Order, order_still, order_end, order_decided}
use Rattle.protocol.proofs.Versions.{Versions, moving_is, undecided_is, known_not, known_before, not_unknown}

module _ {L : Lang} where
  -- ---- a turn
  module _ (law : IsLawful L) (whole : L.Whole) (first : ℕ) (o : L.Site → Name → Name) (ops : L.Site → Name → List (Op L)) (w : World L) (deep : Deep o ops whole w) (now : Versions first w) where
    module _ (t : Name) (c : Cause L) (turn : Transition L) (good : Good o w t turn) (booked : Booked o ops w t turn) (speaks : Speaks t c (w.desk.txn t) turn) where
      abbrev after : World L
      after = turned w t turn

      known_was : (x : Name) → is_unknown (after.desk.txn x) ≡ false → is_unknown (w.desk.txn x) ≡ false
      known_was = put_all same same_law t turn.txn w.desk.txn (λ x y. is_unknown y ≡ false → is_unknown (w.desk.txn x) ≡ false) (known_before (w.desk.txn t) turn.txn speaks.unknown) (λ x other known. known)

      listed_on : (x : Name) → is_unknown (after.desk.txn x) ≡ false → In x after.desk.known
      listed_on x known = in_filter (λ j. not (is_unknown (after.desk.txn j))) x w.desk.known (now.listed x (known_was x known)) (not_unknown after.desk.txn x known)

      -- whoever is undecided was so, and a refragmentation or not as before
      was : (x : Name) (v : Undecided L) → after.desk.txn x ≡ Known v → (u : Undecided L) × (w.desk.txn x ≡ Known u) × (v.moves ≡ u.moves)
      was = put_all same same_law t turn.txn w.desk.txn (λ x y. (v : Undecided L) → y ≡ Known v → (u : Undecided L) × (w.desk.txn x ≡ Known u) × (v.moves ≡ u.moves)) speaks.moves (λ x other v e. (v, e, refl))

      moving_was : (x : Name) → is_moving (after.desk.txn x) ≡ true → is_moving (w.desk.txn x) ≡ true
      moving_was x moves = let v = moving_is (after.desk.txn x) moves in let u = was x v.0 v.1 in ap is_moving u.1 ∙ sym u.2 ∙ v.2

      undecided_was : (x : Name) → is_undecided (after.desk.txn x) ≡ true → is_undecided (w.desk.txn x) ≡ true
      undecided_was x und = let v = undecided_is (after.desk.txn x) und in ap is_undecided (was x v.0 v.1).1

      alone_on : (x y : Name) → is_moving (after.desk.txn x) ≡ true → is_unknown (after.desk.txn y) ≡ false → y ≡ x
      alone_on x y moves known = now.alone x y (moving_was x moves) (known_was y known)

      committed_on : (x : Name) → is_committed after.past x ≡ (is_committed w.past x || is_committed turn.deeds x)
      committed_on x = list_any-append (commits_it x) w.past turn.deeds

      phases_on : phases_of after.past ≡ phases_of w.past ++ phases_of turn.deeds
      phases_on = flat_map-append phased_of w.past turn.deeds

      others_not : (x : Name) → same t x ≡ false → is_committed turn.deeds x ≡ false
      others_not x other = good.fine.only x (⊎_elim (λ e. clash ((same_law t x).1 (sym ((same_law x t).0 e))) other) (λ e. e) (by_test (same x t)))

      -- a transaction between its statements is not in the line yet
      not_phased : (u : Undecided L) → w.desk.txn t ≡ Known u → u.stage ≡ Idle → In t (phases_of w.past) → ⊥
      not_phased u e idle here = clash ((deep.base.phased t here).1 u e) (ap is_voting idle)

      -- ---- nobody is committed
      module _ (none : (x : Name) → is_committed turn.deeds x ≡ false) where
        same_committed : (x : Name) → is_committed after.past x ≡ is_committed w.past x
        same_committed x = committed_on x ∙ ap (λ b. is_committed w.past x || b) (none x) ∙ or_false (is_committed w.past x)

        same_version : after.version ≡ w.version
        same_version = if_false (is_moving (w.desk.txn t) && is_committed turn.deeds t) (suc w.version) w.version (no_and (is_moving (w.desk.txn t)) (is_committed turn.deeds t) (none t))
          where
            no_and : (a b : Bool) → b ≡ false → (a && b) ≡ false
            no_and true b e = e
            no_and false b e = refl

        counts_was : (x : Name) → (is_committed after.past x || is_undecided (after.desk.txn x)) ≡ true → (is_committed w.past x || is_undecided (w.desk.txn x)) ≡ true
        counts_was x counts = ⊎_elim (λ done. or_left (is_committed w.past x) (is_undecided (w.desk.txn x)) (sym (same_committed x) ∙ done)) (λ und. or_right (is_committed w.past x) (is_undecided (w.desk.txn x)) (undecided_was x und)) (or_cases (is_committed after.past x) (is_undecided (after.desk.txn x)) counts)

        line_on : ((x : Name) → In x (phases_of w.past) → statements_of after.past x ≡ statements_of w.past x) →
            Order L (statements_of after.past) (is_committed after.past) (λ x. is_committed after.past x || is_undecided (after.desk.txn x)) (λ x. is_moving (after.desk.txn x)) w.version first (phases_of w.past)
        line_on alike = order_still L (statements_of w.past) (statements_of after.past) (is_committed w.past) (is_committed after.past) _ _ _ _ w.version first (phases_of w.past)
            alike (λ x here m. ap (λ b. if b then ends L m (statements_of w.past x) else m) (same_committed x)) (λ x here. counts_was x) (λ x here. moving_was x) now.order

      -- the line with what the turn adds to it
      abbrev Ordered : ℕ → List Name → Type 0
      Ordered last line = Order L (statements_of after.past) (is_committed after.past) (λ x. is_committed after.past x || is_undecided (after.desk.txn x)) (λ x. is_moving (after.desk.txn x)) last first line

      still_phased : (last : ℕ) → phases_of turn.deeds ≡ [] → Ordered last (phases_of w.past) → Ordered last (phases_of after.past)
      still_phased last none order = subst (Ordered last) (sym (phases_on ∙ ap (λ l. phases_of w.past ++ l) none ∙ append-nil (phases_of w.past))) order

      -- its first phase begins, and nobody in the line is an undecided refragmentation
      now_phased : (last next : ℕ) → phases_of turn.deeds ≡ t ∷ [] → (u : Undecided L) → w.desk.txn t ≡ Known u → u.stage ≡ Idle → InStep L last (statements_of after.past t) → (if is_committed after.past t then ends L last (statements_of after.past t) else last) ≡ next →
          Ordered last (phases_of w.past) → Ordered next (phases_of after.past)
      now_phased last next one u e idle step number order =
          subst (Ordered next) (sym (phases_on ∙ ap (λ l. phases_of w.past ++ l) one))
          (subst (λ n. Ordered n (phases_of w.past ++ t ∷ [])) number
          (order_end L (statements_of after.past) (is_committed after.past) (λ x. is_committed after.past x || is_undecided (after.desk.txn x)) (λ x. is_moving (after.desk.txn x)) last first (phases_of w.past) t (λ v. step)
          (λ x here m. absurd (not_phased u e idle (subst (λ y. In y (phases_of w.past)) (sym (now.alone x t (moving_was x m) (known_not (w.desk.txn t) u e))) here))) order))

      -- where the version stays, and what each has stated
      stays_versioned : after.version ≡ w.version → ((x : Name) → statements_of after.past x ≡ statements_of w.past x) → Ordered w.version (phases_of after.past) → Versions first after
      stays_versioned version alike order = record {
        listed = listed_on;
        in_step = λ x v e. let u = was x v e in subst (λ n. InStep L n (statements_of after.past x)) (sym version) (subst (InStep L w.version) (sym (alike x)) (now.in_step x u.0 u.1));
        plain = λ x v e low. let u = was x v e in subst (Low L) (sym (alike x)) (now.plain x u.0 u.1 (sym u.2 ∙ low));
        moved = λ x v e moves. let u = was x v e in subst (Single L) (sym (alike x)) (now.moved x u.0 u.1 (sym u.2 ∙ moves));
        alone = alone_on;
        order = subst (λ n. Ordered n (phases_of after.past)) (sym version) order;
      }

      not_before : (u : Undecided L) → w.desk.txn t ≡ Known u → is_committed w.past t ≡ false
      not_before u e = ⊎_elim (λ done. absurd (not_yet o w t deep.base.fit u e done)) (λ none. none) (by_test (is_committed w.past t))

      -- a turn without statements
      module _ (alike : (x : Name) → statements_of after.past x ≡ statements_of w.past x) where
        -- that commits nobody
        quiet_versioned : ((x : Name) → is_committed turn.deeds x ≡ false) → Versions first after
        quiet_versioned none = stays_versioned (same_version none) alike (by_phase booked.phase)
          where
            by_phase : PhaseTurn w t turn → Ordered w.version (phases_of after.past)
            by_phase (goes_on no_phase stays) = still_phased w.version no_phase (line_on none (λ x here. alike x))
            by_phase (starts one view u e idle votes) = now_phased w.version w.version one u e idle (subst (InStep L w.version) (sym (alike t)) (now.in_step t u e))
                (if_false (is_committed after.past t) _ w.version (same_committed none t ∙ not_before u e)) (line_on none (λ x here. alike x))

        -- that commits its transaction
        module _ (done : is_committed turn.deeds t ≡ true) (u : Undecided L) (e : w.desk.txn t ≡ Known u) (gone : (v : Undecided L) → turn.txn ≡ Known v → ⊥) where
          now_done : is_committed after.past t ≡ true
          now_done = committed_on t ∙ or_right (is_committed w.past t) (is_committed turn.deeds t) done

          others_same : (x : Name) → same t x ≡ false → is_committed after.past x ≡ is_committed w.past x
          others_same x other = committed_on x ∙ ap (λ b. is_committed w.past x || b) (others_not x other) ∙ or_false (is_committed w.past x)

          counts_before : (x : Name) → (is_committed after.past x || is_undecided (after.desk.txn x)) ≡ true → (is_committed w.past x || is_undecided (w.desk.txn x)) ≡ true
          counts_before x counts = ⊎_elim
              (λ is. or_right (is_committed w.past x) (is_undecided (w.desk.txn x)) (subst (λ y. is_undecided (w.desk.txn y) ≡ true) ((same_law t x).0 is) (ap is_undecided e)))
              (λ other. ⊎_elim (λ d. or_left (is_committed w.past x) (is_undecided (w.desk.txn x)) (sym (others_same x other) ∙ d)) (λ und. or_right (is_committed w.past x) (is_undecided (w.desk.txn x)) (undecided_was x und)) (or_cases (is_committed after.past x) (is_undecided (after.desk.txn x)) counts))
              (by_test (same t x))

          -- an ordinary one: its statements bring no other catalogue
          module _ (low : u.moves ≡ false) where
            its_low : (m : ℕ) → ends L m (statements_of w.past t) ≡ m
            its_low = ends_low L (statements_of w.past t) (now.plain t u e low)

            either_way : (b : Bool) (m n : ℕ) → n ≡ m → (if b then n else m) ≡ m
            either_way true m n is = is
            either_way false m n is = refl

            number_same : (x : Name) (m : ℕ) → (if is_committed after.past x then ends L m (statements_of w.past x) else m) ≡ (if is_committed w.past x then ends L m (statements_of w.past x) else m)
            number_same x m = ⊎_elim
                (λ is. let its = ap (λ y. ends L m (statements_of w.past y)) (sym ((same_law t x).0 is)) ∙ its_low m in either_way (is_committed after.past x) m _ its ∙ sym (either_way (is_committed w.past x) m _ its))
                (λ other. ap (λ b. if b then ends L m (statements_of w.past x) else m) (others_same x other))
                (by_test (same t x))

            low_version : after.version ≡ w.version
            low_version = if_false (is_moving (w.desk.txn t) && is_committed turn.deeds t) (suc w.version) w.version (no_and (is_moving (w.desk.txn t)) (is_committed turn.deeds t) (ap is_moving e ∙ low))
              where
                no_and : (a b : Bool) → a ≡ false → (a && b) ≡ false
                no_and true b f = cc
                no_and false b f = refl

            low_versioned : Versions first after
            low_versioned = stays_versioned low_version alike (by_phase booked.phase)
              where
                line : Ordered w.version (phases_of w.past)
                line = order_still L (statements_of w.past) (statements_of after.past) (is_committed w.past) (is_committed after.past) _ _ _ _ w.version first (phases_of w.past)
                    (λ x here. alike x) (λ x here. number_same x) (λ x here. counts_before x) (λ x here. moving_was x) now.order

                by_phase : PhaseTurn w t turn → Ordered w.version (phases_of after.past)
                by_phase (goes_on no_phase stays) = still_phased w.version no_phase line
                by_phase (starts one view v f idle votes) = now_phased w.version w.version one v f idle (subst (InStep L w.version) (sym (alike t)) (now.in_step t u e))
                    (either_way (is_committed after.past t) w.version _ (ap (ends L w.version) (alike t) ∙ its_low w.version)) line

          -- a refragmentation: the next catalogue is in force
          module _ (moves : u.moves ≡ true) where
            is_alone : (x : Name) (v : Undecided L) → after.desk.txn x ≡ Known v → ⊥
            is_alone x v f =
                let v_was = was x v f in
                let is : x ≡ t = now.alone t x (ap is_moving e ∙ moves) (known_not (w.desk.txn x) v_was.0 v_was.1) in
                gone v (sym (put_here same same_law t turn.txn w.desk.txn) ∙ subst (λ y. after.desk.txn y ≡ Known v) is f)

            none_moves : (x : Name) → is_moving (after.desk.txn x) ≡ false
            none_moves x = ⊎_elim (λ m. let v = moving_is (after.desk.txn x) m in absurd (is_alone x v.0 v.1)) (λ none. none) (by_test (is_moving (after.desk.txn x)))

            next_version : after.version ≡ suc w.version
            next_version = if_true (is_moving (w.desk.txn t) && is_committed turn.deeds t) (suc w.version) w.version (rw (ap is_moving e ∙ moves) done)

            its_one : Single L (statements_of w.past t)
            its_one = now.moved t u e moves

            same_statements : statements_of after.past ≡ statements_of w.past
            same_statements = λ i x. alike x i

            next_versioned : Versions first after
            next_versioned = record {
              listed = listed_on;
              in_step = λ x v f. absurd (is_alone x v f);
              plain = λ x v f low. absurd (is_alone x v f);
              moved = λ x v f m. absurd (is_alone x v f);
              alone = λ x y m known. clash m (none_moves x);
              order = subst (λ n. Ordered n (phases_of after.past)) (sym next_version) (by_phase booked.phase);
            }
              where
                by_phase : PhaseTurn w t turn → Ordered (suc w.version) (phases_of after.past)
                by_phase (goes_on no_phase stays) = still_phased (suc w.version) no_phase
                    (subst (λ S. Order L S (is_committed after.past) (λ x. is_committed after.past x || is_undecided (after.desk.txn x)) (λ x. is_moving (after.desk.txn x)) (suc w.version) first (phases_of w.past)) (sym same_statements)
                    (order_decided L (statements_of w.past) (is_committed w.past) (is_committed after.past) _ _ (λ x. is_moving (w.desk.txn x)) (λ x. is_moving (after.desk.txn x)) w.version first (phases_of w.past) t
                    (⊎_elim (λ votes. deep.base.voting t u e votes) (λ none. absurd (let f : [] ≡ t ∷ [] = sym no_phase ∙ none.0 in cc)) (booked.votes done u e))
                    (ap is_moving e ∙ moves) (not_before u e) now_done its_one others_same (λ x. or_left (is_committed w.past x) (is_undecided (w.desk.txn x))) (λ x. or_left (is_committed after.past x) (is_undecided (after.desk.txn x))) counts_before none_moves now.order))
                by_phase (starts one view v f idle votes) = now_phased w.version (suc w.version) one v f idle (subst (InStep L w.version) (sym (alike t)) (now.in_step t u e))
                    (if_true (is_committed after.past t) _ w.version now_done ∙ ap (ends L w.version) (alike t) ∙ ends_single L (statements_of w.past t) its_one w.version)
                    (order_still L (statements_of w.past) (statements_of after.past) (is_committed w.past) (is_committed after.past) _ _ _ _ w.version first (phases_of w.past)
                    (λ x here. alike x) (λ x here m. ap (λ b. if b then ends L m (statements_of w.past x) else m) (others_same x (⊎_elim (λ is. absurd (not_phased v f idle (subst (λ y. In y (phases_of w.past)) (sym ((same_law t x).0 is)) here))) (λ other. other) (by_test (same t x)))))
                    (λ x here. counts_before x) (λ x here. moving_was x) now.order)

        said_versioned : Versions first after
        said_versioned = ⊎_elim
            (λ done. let commits = good.fine.commits done in ⊎_elim (λ moves. next_versioned done commits.0 commits.1 commits.2 moves) (λ low. low_versioned done commits.0 commits.1 commits.2 low) (by_test commits.0.moves))
            (λ none. quiet_versioned (λ x. ⊎_elim (λ is. subst (λ y. is_committed turn.deeds y ≡ false) ((same_law t x).0 is) none) (others_not x) (by_test (same t x))))
            (by_test (is_committed turn.deeds t))

      -- a turn that accepts a statement
      module _ (s : L.Statement) (u : Undecided L) (e : w.desk.txn t ≡ Known u) (idle : u.stage ≡ Idle) (low : u.moves ≡ false) (tag : L.tag s ≡ w.version) (plain : L.raises s ≡ false)
          (states : (x : Name) → statements_of turn.deeds x ≡ (if same t x then s ∷ [] else [])) (no_phase : phases_of turn.deeds ≡ []) (none : (x : Name) → is_committed turn.deeds x ≡ false) where
        its : (x : Name) → same t x ≡ true → statements_of after.past x ≡ statements_of w.past x ++ s ∷ []
        its x is = flat_map-append (statement_in x) w.past turn.deeds ∙ ap (λ l. statements_of w.past x ++ l) (states x ∙ if_true (same t x) (s ∷ []) [] is)

        not_its : (x : Name) → same t x ≡ false → statements_of after.past x ≡ statements_of w.past x
        not_its x other = flat_map-append (statement_in x) w.past turn.deeds ∙ ap (λ l. statements_of w.past x ++ l) (states x ∙ if_false (same t x) (s ∷ []) [] other) ∙ append-nil (statements_of w.past x)

        still_low : (x : Name) → same t x ≡ true → (v : Undecided L) → w.desk.txn x ≡ Known v → v.moves ≡ false
        still_low x is v f = ap (λ z. z.moves) (sym (known_is u v (sym e ∙ ap w.desk.txn ((same_law t x).0 is) ∙ f))) ∙ low

        states_versioned : Versions first after
        states_versioned = record {
          listed = listed_on;
          in_step = λ x v f. let v_was = was x v f in subst (λ n. InStep L n (statements_of after.past x)) (sym (same_version none)) (⊎_elim
              (λ is. subst (InStep L w.version) (sym (its x is)) (step_more L w.version (statements_of w.past x) s (now.in_step x v_was.0 v_was.1)
              (tag ∙ sym (ends_low L (statements_of w.past x) (now.plain x v_was.0 v_was.1 (still_low x is v_was.0 v_was.1)) w.version))))
              (λ other. subst (InStep L w.version) (sym (not_its x other)) (now.in_step x v_was.0 v_was.1))
              (by_test (same t x)));
          plain = λ x v f its_low. let v_was = was x v f in ⊎_elim
              (λ is. subst (Low L) (sym (its x is)) (every_append (λ y. L.raises y ≡ false) (statements_of w.past x) (s ∷ []) (now.plain x v_was.0 v_was.1 (still_low x is v_was.0 v_was.1)) (plain, tt)))
              (λ other. subst (Low L) (sym (not_its x other)) (now.plain x v_was.0 v_was.1 (sym v_was.2 ∙ its_low)))
              (by_test (same t x));
          moved = λ x v f moves. let v_was = was x v f in ⊎_elim
              (λ is. clash (sym v_was.2 ∙ moves) (still_low x is v_was.0 v_was.1))
              (λ other. subst (Single L) (sym (not_its x other)) (now.moved x v_was.0 v_was.1 (sym v_was.2 ∙ moves)))
              (by_test (same t x));
          alone = alone_on;
          order = subst (λ n. Ordered n (phases_of after.past)) (sym (same_version none)) (still_phased w.version no_phase (line_on none (λ x here. not_its x
              (⊎_elim (λ is. absurd (not_phased u e idle (subst (λ y. In y (phases_of w.past)) (sym ((same_law t x).0 is)) here))) (λ other. other) (by_test (same t x))))));
        }

      -- what a statement may be that the turn accepts
      abbrev MayState : Type 0
      MayState = (s : L.Statement) → c ≡ asked (State s) → (is_moving (w.desk.txn t) ≡ false) × (L.tag s ≡ w.version) × (L.raises s ≡ false)

      pub turned_versioned : MayState → Versions first after
      turned_versioned may = go speaks.says
        where
          go : Says t c (w.desk.txn t) turn.deeds → Versions first after
          go (says_none mute) = said_versioned (λ x. flat_map-append (statement_in x) w.past turn.deeds ∙ ap (λ l. statements_of w.past x ++ l) (mute x) ∙ append-nil (statements_of w.past x))
          go (says_one s u is e idle states no_phase none) = let m = may s is in states_versioned s u e idle (sym (ap is_moving e) ∙ m.0) m.1 m.2 states no_phase none

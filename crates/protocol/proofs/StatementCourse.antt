-- One client letter by letter: each step of a transaction leads from fact to fact.
use Rattle.std.proofs.Common.{◌≡◌, refl, sym, ap, ◌∙◌, subst, Bool, true, false, List, [], ◌∷◌, ◌++◌, map, inl, inr, append-nil, ◌&&◌}
use Rattle.protocol.specs.Language.{Lang, IsLawful, Name, same}
use Rattle.protocol.specs.Letter.{Letter}
use Rattle.protocol.specs.Desk.{Choice, Txn, Unknown, Known, Row, Deed, Aborted, Given_up, Give_up, fresh, stays, is_undecided, next_txn, desk_began, desk_after, on_request, is_desk_within, fresh_as, State}
use Rattle.protocol.specs.World.{World, begun, begins, called, turned, turns, first_turn, refragments}
use Rattle.protocol.specs.Serial.{IsOpening}
use Rattle.protocol.specs.Client.{next, IsQuiet}
use Rattle.protocol.specs.VisitPlaces.{Unlocked}
use Rattle.protocol.specs.StatementCourse.{AtSites, Steady}
use Rattle.protocol.specs.AfterAbort.{LeavingAt, EndKept, Within, Since, Ending, doomed, has_ended, Failing, Went, Lost, may_end, has_gone}
use Rattle.protocol.specs.ClientLaw.{CourseLaw}
use Rattle.protocol.specs.VisitPlaces.{at}
use Rattle.protocol.proofs.Basics.{either, put_all, put_here, same_law, if_true, both_true}
use Rattle.protocol.proofs.Locks.{Once}
use Rattle.protocol.proofs.StatementMeetsNoLock.{begins_stands}
use Rattle.protocol.proofs.Limits.{begins_within, called_within, next_within}
use Rattle.protocol.proofs.Ended.{ending_goes_on, ending_quiet}
use Rattle.protocol.proofs.Loose.{steady_loose, statement_loose, give_up_ends, rollback_ends}
use Rattle.protocol.proofs.LooseTurns.{since_more}
use Rattle.protocol.proofs.Failing.{LooseStep, still, over, loose_step}
use Rattle.protocol.proofs.OneStatement.{statement_starts}
use Rattle.protocol.proofs.Overflow.{went_on, went_ends}
use Rattle.protocol.proofs.Committing.{commit_starts, commit_goes_on, commit_ends}

module _ {L : Lang} where
  -- nothing has happened yet
  pub opening_quiet : (whole : L.Whole) (w : World L) → IsOpening whole w → IsQuiet w
  opening_quiet whole w opening = record {
    silent = opening.letters;
    calm = λ a k. subst Unlocked (sym (opening.visits a k)) tt;
    decided = λ t. ap is_undecided (opening.undecided t);
  }

  -- a transaction begins
  pub begins_steady : (w : World L) → IsQuiet w → is_desk_within (desk_began w.desk) ≡ true → Steady (next_txn w.desk) (begins w)
  begins_steady w quiet within = subst (Steady (next_txn w.desk)) (sym (if_true (is_desk_within (desk_began w.desk)) (begun false w) w within)) (record {
    u = fresh;
    known = put_here same same_law (next_txn w.desk) (Known fresh) w.desk.txn;
    idle = refl;
    stands = begins_stands false w quiet;
    silent = quiet.silent;
  })

  -- a refragmentation begins as a transaction does, and states its one statement
  pub moves_steady : (w : World L) → IsQuiet w → Steady (next_txn w.desk) (begun true w)
  moves_steady w quiet = record {
    u = fresh_as true;
    known = put_here same same_law (next_txn w.desk) (Known (fresh_as true)) w.desk.txn;
    idle = refl;
    stands = begins_stands true w quiet;
    silent = quiet.silent;
  }

  pub moves_called : (w : World L) (s : L.Statement) (choice : Choice L) → is_desk_within (begun true w).desk ≡ true → is_desk_within (desk_after (begun true w).desk (next_txn w.desk) (first_turn w s choice).txn) ≡ true → refragments w s choice ≡ called (begun true w) (next_txn w.desk) choice (State s)
  moves_called w s choice within room =
      let t = next_txn w.desk in
      let v = begun true w in
      if_true (is_desk_within v.desk && is_desk_within (desk_after v.desk t (first_turn w s choice).txn)) (turned v t (first_turn w s choice)) w (both_true (is_desk_within v.desk) (is_desk_within (desk_after v.desk t (first_turn w s choice).txn)) within room)
      ∙ sym (if_true (is_desk_within (desk_after v.desk t (first_turn w s choice).txn)) (turned v t (first_turn w s choice)) v room)
      ∙ ap (λ x. turns v t (on_request t choice (State s) x)) (sym (put_here same same_law t (Known (fresh_as true)) w.desk.txn))

  -- whatever becomes of a letter, a transaction that may be given up still may, or has ended
  pub went_lost : (E : Type 0) (t : Name) (s : L.Statement) (before : List (Deed L)) (w : World L) → Went E t s before w → Lost t before w
  went_lost E t s before w (inl at_) = may_end (statement_loose t s before w at_)
  went_lost E t s before w (inr failing) = go failing.1
    where
      go : Failing t before w → Lost t before w
      go (doomed d) = may_end d.loose
      go (has_ended deeds since ending) = has_gone deeds since ending

  -- a request that is refused
  gives_up_none : (t : Name) (choice : Choice L) (x : Txn L) → is_undecided x ≡ false → on_request t choice Give_up x ≡ stays x
  gives_up_none t choice Unknown none = refl
  gives_up_none t choice (Row voters acked) none = refl
  gives_up_none t choice (Known u) none = let e : true ≡ false = none in cc

  module _ (law : IsLawful L) (once : Once L.sites) where
    pub lost_goes_on : (t : Name) (before : List (Deed L)) (w : World L) (l : Letter L) (q : List (Letter L)) → w.letters ≡ l ∷ q → Within w → (kept : Bool) (choice : Choice L) → EndKept kept l.body → AtSites L (map (λ x. x.0) choice.1) → Lost t before w → Lost t before (next w kept choice)
    lost_goes_on t before w l q e within kept choice end homes (may_end loose) = go (loose_step law once t before w l q e loose within kept choice end homes)
      where
        go : LooseStep t before loose.u.ticket q (next w kept choice) → Lost t before (next w kept choice)
        go (still new grows keeps) = may_end new
        go (over deeds since ending) = has_gone deeds since ending
    lost_goes_on t before w l q e within kept choice end homes (has_gone deeds since ending) = has_gone deeds since (ending_goes_on law deeds w l q e ending law.touches_none within kept choice end)

    -- it is given up
    ended_gives_up : (t : Name) (w : World L) (choice : Choice L) (deeds : List (Deed L)) → Ending deeds w → Ending deeds (called w t choice Give_up)
    ended_gives_up t w choice deeds ending =
        let x = w.desk.txn t in
        subst (λ turn. Ending deeds (turns w t turn)) (sym (gives_up_none t choice x (ending.decided t)))
        (either (Ending deeds) (is_desk_within (desk_after w.desk t x)) (turned w t (stays x)) w (record {
          decided = put_all same same_law t x w.desk.txn (λ j y. is_undecided y ≡ false) (ending.decided t) (λ j other. ending.decided j);
          leaving = λ a. subst (λ z. LeavingAt (λ k. ⊥) (w.sites a).status (at a z)) (sym (append-nil w.letters)) (ending.leaving a);
          past = append-nil w.past ∙ ending.past;
        }) ending)

    pub lost_gives_up : (t : Name) (before : List (Deed L)) (w : World L) (choice : Choice L) → Within w → Lost t before w → (deeds : List (Deed L)) × (Since t before deeds × Ending deeds (called w t choice Give_up))
    lost_gives_up t before w choice within (may_end loose) = (w.past ++ Aborted t Given_up ∷ [], (since_more t before w.past (Aborted t Given_up ∷ []) loose.since (refl, tt), give_up_ends law once t before w choice loose within))
    lost_gives_up t before w choice within (has_gone deeds since ending) = (deeds, (since, ended_gives_up t w choice deeds ending))

    pub course_law : (E : Type 0) → CourseLaw L E
    course_law E = record {
      limits = λ w within. (begins_within w within, λ t choice request. called_within w t choice request within, λ kept choice. next_within law w kept choice within);
      opened = opening_quiet;
      begun = begins_steady;
      moves_steady = moves_steady;
      moves_called = moves_called;
      stated = λ w t s choice steady fetched written within. inl (statement_starts law once t s w choice steady fetched written within);
      came = λ w t s before kept choice l q e within well went. went_on law once E t s before w within kept choice l q e well went;
      answered = λ w t s before went silent. went_ends law once E t s before w went silent;
      lost = λ w t s before went. went_lost E t s before w went;
      idle = λ w t steady. may_end (steady_loose t w steady);
      lost_still = λ w t before kept choice l q e within end homes lost. lost_goes_on t before w l q e within kept choice end homes lost;
      given_up = λ w t before choice within lost. lost_gives_up t before w choice within lost;
      asked = λ w t choice steady within. commit_starts law once E t w.past w steady choice within refl;
      voted = λ w t before kept choice l q e within keeps committing. commit_goes_on law once E t before w l q e within kept choice keeps committing;
      committed = λ w t before committing silent. commit_ends law once E t before w committing silent;
      rolled_back = λ w t choice steady within. rollback_ends law once t w.past w choice (steady_loose t w steady) within;
      left = λ w deeds kept choice l q e within end ending. ending_goes_on law deeds w l q e ending law.touches_none within kept choice end;
      quiet = λ w deeds ending silent. (ending_quiet law deeds w ending silent, ending.past);
    }

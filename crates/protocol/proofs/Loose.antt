-- A transaction that may still be given up, whatever letters were let go: how it ends.
use Rattle.std.proofs.Common.{◌≡◌, refl, sym, ap, ◌∙◌, subst, ℕ, suc, ◌&&◌, Bool, true, false, List, [], ◌∷◌, ◌++◌, map, Option, Some, None, ◌⊎◌, inl, inr, ⊎_elim, append-nil}
use Rattle.protocol.specs.Language.{Lang, IsLawful, Name, same}
use Rattle.protocol.specs.Letter.{Body, Open, Fetch, Write, Prepare, Commit, Abort, Ticket, Rows, Refused, Voted, Ack, Inquire, Letter, letters_to}
use Rattle.protocol.specs.Site.{Status}
use Rattle.protocol.specs.Desk.{Ask, Choice, Stage, Idle, Reading, Writing, Voting, Undecided, Unknown, Known, Deed, Stated, Worked, Answered, Aborted, Rolled_back, Given_up, Rollback, Give_up, Request, is_undecided, on_request, on_rollback, desk_after, is_desk_within, when, to_abort, may_hold, vote_at, ends_by}
use Rattle.protocol.specs.World.{World, turned, turns, called}
use Rattle.protocol.specs.Parts.{is_voting}
use Rattle.protocol.specs.VisitPlaces.{at, VisitPlace, away, asked, offered, works, Flow}
use Rattle.protocol.specs.StatementCourse.{Stands, AskStands, WriteWaits, Far, reads, writes, is_answered, InStatement, Steady}
use Rattle.protocol.specs.AfterAbort.{Closed, Leaves, is_free, is_own, hears_abort, hears_commit, LeavingAt, Ending, Within, Own, Since, Loose, AreVisited, leaves_of}
use Rattle.protocol.proofs.Basics.{Every, In, in_left, in_right, put_all, same_law, if_true, by_test, some_is}
use Rattle.protocol.proofs.Locks.{Once}
use Rattle.protocol.proofs.Turns.{every_letter}
use Rattle.protocol.proofs.Queue.{at_append}
use Rattle.protocol.proofs.AtDesk.{at_said}
use Rattle.protocol.proofs.Limits.{turn_within}
use Rattle.protocol.proofs.AfterAbort.{NoOp, NoEnd, closed_none, leaving_lost}
use Rattle.protocol.proofs.Ended.{at_none, by_site}

module _ {L : Lang} where
  -- ---- what was its own hears Abort
  module _ (O P : Name → Type 0) (more : List (Body L)) (hears : (k : Name) → O k → P k ⊎ In (Abort k) more) where
    leaves_to : (k : Name) (st : Status L) (bs : List (Body L)) → Leaves O k st bs → Leaves P k st (bs ++ more)
    leaves_to k st bs (is_free free) = is_free free
    leaves_to k st bs (is_own own) = ⊎_elim is_own (λ here. hears_abort (in_right (Abort k) bs more here)) (hears k own)
    leaves_to k st bs (hears_abort here) = hears_abort (in_left (Abort k) bs more here)
    leaves_to k st bs (hears_commit row here) = hears_commit row (in_left (Commit k) bs more here)

    or_to : (k : Name) (bs : List (Body L)) → O k ⊎ In (Abort k) bs → P k ⊎ In (Abort k) (bs ++ more)
    or_to k bs (inl own) = ⊎_elim inl (λ here. inr (in_right (Abort k) bs more here)) (hears k own)
    or_to k bs (inr here) = inr (in_left (Abort k) bs more here)

    closed_to : (bs : List (Body L)) → Closed O bs → Closed P more → Closed P (bs ++ more)
    closed_to [] closed rest = rest
    closed_to (Fetch k op g q ∷ bs) closed rest = (or_to k bs closed.0, closed_to bs closed.1 rest)
    closed_to (Write k op g x ∷ bs) closed rest = (or_to k bs closed.0, closed_to bs closed.1 rest)
    closed_to (Prepare k n ∷ bs) closed rest = (or_to k bs closed.0, closed_to bs closed.1 rest)
    closed_to (Open ∷ bs) closed rest = closed_to bs closed rest
    closed_to (Commit k ∷ bs) closed rest = closed_to bs closed rest
    closed_to (Abort k ∷ bs) closed rest = closed_to bs closed rest
    closed_to (Ticket k ∷ bs) closed rest = closed_to bs closed rest
    closed_to (Rows k n rows ∷ bs) closed rest = closed_to bs closed rest
    closed_to (Refused k reason ∷ bs) closed rest = closed_to bs closed rest
    closed_to (Voted k x ∷ bs) closed rest = closed_to bs closed rest
    closed_to (Ack k ∷ bs) closed rest = closed_to bs closed rest
    closed_to (Inquire k ∷ bs) closed rest = closed_to bs closed rest

    pub leaving_to : (f : Name → Status L) (bs : List (Body L)) → Closed P more → LeavingAt O f bs → LeavingAt P f (bs ++ more)
    leaving_to f bs none leaving = record { locks = λ k. leaves_to k (f k) bs (leaving.locks k); closed = closed_to bs leaving.closed none }

  -- a site while a statement works
  flow_closed : (O : Name → Type 0) (k : Name) (own : O k) (d n : ℕ) (bs : List (Body L)) → Flow k d n bs → Closed O bs
  flow_closed O k own d n [] flow = tt
  flow_closed O k own d n (Fetch j m g q ∷ bs) flow = (inl (subst O (sym flow.0) own), flow_closed O k own (suc d) n bs flow.2)
  flow_closed O k own d n (Write j m g x ∷ bs) flow = (inl (subst O (sym flow.0) own), flow_closed O k own (suc d) n bs flow.2)
  flow_closed O k own d n (Rows j m rows ∷ bs) flow = flow_closed O k own d n bs flow.1
  flow_closed O k own d n (Open ∷ bs) flow = absurd flow
  flow_closed O k own d n (Prepare j m ∷ bs) flow = absurd flow
  flow_closed O k own d n (Commit j ∷ bs) flow = absurd flow
  flow_closed O k own d n (Abort j ∷ bs) flow = absurd flow
  flow_closed O k own d n (Ticket j ∷ bs) flow = absurd flow
  flow_closed O k own d n (Refused j reason ∷ bs) flow = absurd flow
  flow_closed O k own d n (Voted j x ∷ bs) flow = absurd flow
  flow_closed O k own d n (Ack j ∷ bs) flow = absurd flow
  flow_closed O k own d n (Inquire j ∷ bs) flow = absurd flow

  pub spot_leaving : (f : Name → Status L) (b : Bool) (tk : Option Name) (n : ℕ) (bs : List (Body L)) → VisitPlace f b tk n bs → LeavingAt (λ k. (b ≡ true) × (tk ≡ Some k)) f bs
  spot_leaving f b tk n bs (away s) = record { locks = λ k. is_free (s.free k); closed = subst (Closed (λ k. (b ≡ true) × (tk ≡ Some k))) (sym s.silent) tt }
  spot_leaving f b tk n bs (asked s) = record { locks = λ k. is_free (s.free k); closed = subst (Closed (λ k. (b ≡ true) × (tk ≡ Some k))) (sym s.waits) tt }
  spot_leaving f b tk n bs (offered j s) = record { locks = λ k. is_free (s.free k); closed = subst (Closed (λ k. (b ≡ true) × (tk ≡ Some k))) (sym s.waits) tt }
  spot_leaving f b tk n bs (works j s) = record {
    locks = λ k. ⊎_elim (λ is. is_own (s.visited, s.ticket ∙ ap (λ i. Some i) (sym ((same_law k j).0 is)))) (λ other. is_free (s.free k other)) (by_test (same k j));
    closed = flow_closed (λ k. (b ≡ true) × (tk ≡ Some k)) j (s.visited, s.ticket) s.visit.done n bs s.flow;
  }

  -- ---- the end without a commit
  abort_or_none : (b : Bool) (tk : Option Name) (c : Body L) → when b (to_abort tk) ≡ Some c → NoOp c
  abort_or_none true (Some k) c e = subst NoOp (some_is e) tt
  abort_or_none true None c e = cc
  abort_or_none false tk c e = cc

  module _ (law : IsLawful L) (once : Once L.sites) where
    pub ends : (t : Name) (u : Undecided L) (d : Deed L) (w : World L) (O : L.Site → Name → Type 0) → ((j : Name) → same j t ≡ false → is_undecided (w.desk.txn j) ≡ false) → ((a : L.Site) → LeavingAt (O a) (w.sites a).status (at a w.letters)) →
        ((a : L.Site) (k : Name) → O a k → In a L.sites × ((u.visited a && may_hold (vote_at u.stage a)) ≡ true) × (u.ticket a ≡ Some k)) → Ending (w.past ++ d ∷ []) (turned w t (ends_by t u d))
    ends t u d w O others leaving own =
        let says : L.Site → Option (Body L) = λ a. when (u.visited a && may_hold (vote_at u.stage a)) (to_abort (u.ticket a)) in
        let out = letters_to t says L.sites in
        record {
          decided = put_all same same_law t Unknown w.desk.txn (λ j x. is_undecided x ≡ false) refl others;
          leaving = λ a. subst (LeavingAt (λ k. ⊥) (w.sites a).status) (sym (at_append a w.letters out))
              (leaving_to (O a) (λ k. ⊥) (at a out)
              (λ k mine. let m = own a k mine in inr (subst (In (Abort k)) (sym (at_said law t says a (Abort k) L.sites m.0 once (ap (λ b. when b (to_abort (u.ticket a))) m.1 ∙ ap to_abort m.2))) (inl refl)))
              (w.sites a).status (at a w.letters)
              (closed_none (λ k. ⊥) (at a out) (at_none a out (every_letter (λ l. NoOp l.body) t says L.sites (λ b c here e. abort_or_none _ (u.ticket b) c e))))
              (leaving a));
          past = refl;
        }

    -- ---- before the first phase
    no_vote : (stage : Stage L) (a : L.Site) → is_voting stage ≡ false → may_hold (vote_at stage a) ≡ true
    no_vote Idle a none = refl
    no_vote (Reading s asks) a none = refl
    no_vote (Writing answer ws) a none = refl
    no_vote (Voting votes) a none = let e : true ≡ false = none in cc

    pub loose_ends : (t : Name) (before : List (Deed L)) (d : Deed L) (w : World L) (loose : Loose t before w) → Ending (w.past ++ d ∷ []) (turned w t (ends_by t loose.u d))
    loose_ends t before d w loose = ends t loose.u d w (Own loose.u) loose.others loose.leaving (λ a k own. (loose.among a own.0, rw own.0 (no_vote loose.u.stage a loose.calm), own.1))

    -- ending is within the limits
    pub ends_within : (w : World L) (t : Name) (u : Undecided L) (d : Deed L) → Within w → is_desk_within (desk_after w.desk t (ends_by t u d).txn) ≡ true
    ends_within w t u d within = turn_within w.desk t Unknown (λ was. refl) (λ is. (let e : false ≡ true = is in cc)) within.desk

    module _ (t : Name) (before : List (Deed L)) (w : World L) (choice : Choice L) (loose : Loose t before w) (within : Within w) where
      asks_end : (d : Deed L) (request : Request L) → on_request t choice request (Known loose.u) ≡ ends_by t loose.u d → Ending (w.past ++ d ∷ []) (called w t choice request)
      asks_end d request is =
          let turn_is = ap (on_request t choice request) loose.known ∙ is in
          subst (Ending (w.past ++ d ∷ [])) (sym (ap (turns w t) turn_is ∙ if_true _ (turned w t (ends_by t loose.u d)) w (ends_within w t loose.u d within))) (loose_ends t before d w loose)

      -- the transaction is given up
      pub give_up_ends : Ending (w.past ++ Aborted t Given_up ∷ []) (called w t choice Give_up)
      give_up_ends = asks_end (Aborted t Given_up) Give_up refl

      -- it is rolled back
      pub rollback_ends : Ending (w.past ++ Rolled_back t ∷ []) (called w t choice Rollback)
      rollback_ends = asks_end (Rolled_back t) Rollback (go loose.u.stage loose.calm)
        where
          go : (stage : Stage L) → is_voting stage ≡ false → on_rollback t loose.u stage ≡ ends_by t loose.u (Rolled_back t)
          go Idle none = refl
          go (Reading s asks) none = refl
          go (Writing answer ws) none = refl
          go (Voting votes) none = let e : true ≡ false = none in cc

  -- ---- where it comes from
  stands_loose : (t : Name) (before : List (Deed L)) (u : Undecided L) (w : World L) → w.desk.txn t ≡ Known u → is_voting u.stage ≡ false → AreVisited u (leaves_of u.stage) → Stands t u w → Since t before w.past → Loose t before w
  stands_loose t before u w known calm seen stands since = record {
    u = u;
    known = known;
    calm = calm;
    seen = seen;
    alone = stands.alone;
    others = stands.others;
    among = stands.among;
    leaving = λ a. spot_leaving (w.sites a).status (u.visited a) (u.ticket a) (u.sent a) (at a w.letters) (stands.spots a);
    since = since;
  }

  pub steady_loose : (t : Name) (w : World L) → Steady t w → Loose t w.past w
  steady_loose t w steady = stands_loose t w.past steady.u w steady.known (ap is_voting steady.idle) (λ g here. absurd (subst (λ st. In g (leaves_of st)) steady.idle here)) steady.stands (record { more = []; is = sym (append-nil w.past); fruitless = tt })

  pub statement_loose : (t : Name) (s : L.Statement) (before : List (Deed L)) (w : World L) → InStatement t s before w → Loose t before w
  statement_loose t s before w at_ = go at_.far
    where
      read_seen : (asks : List (Ask L)) → Every (AskStands s at_.u w.letters) asks → AreVisited at_.u (map (λ q. q.leaf) asks)
      read_seen [] all g here = absurd here
      read_seen (x ∷ asks) all g (inl e) = subst (λ h. at_.u.visited (L.home h) ≡ true) (sym e) all.0.visited
      read_seen (x ∷ asks) all g (inr below) = read_seen asks all.1 g below

      write_seen : (ws : List (L.Leaf × L.Write)) → Every (WriteWaits at_.u) ws → AreVisited at_.u (map (λ x. x.0) ws)
      write_seen [] all g here = absurd here
      write_seen (x ∷ ws) all g (inl e) = subst (λ h. at_.u.visited (L.home h) ≡ true) (sym e) all.0.visited
      write_seen (x ∷ ws) all g (inr below) = write_seen ws all.1 g below

      go : Far t s before at_.u w.letters w.past → Loose t before w
      go (reads asks is missing all deeds) = stands_loose t before at_.u w at_.known (ap is_voting is) (λ g here. read_seen asks all g (subst (λ st. In g (leaves_of st)) is here)) at_.stands (record { more = Stated t s ∷ []; is = deeds; fruitless = (refl, tt) })
      go (writes asks choice x ws is all deeds) = stands_loose t before at_.u w at_.known (ap is_voting is) (λ g here. write_seen (x ∷ ws) all g (subst (λ st. In g (leaves_of st)) is here)) at_.stands (record { more = Stated t s ∷ Worked t s asks choice ∷ []; is = deeds; fruitless = (refl, (refl, tt)) })
      go (is_answered asks choice is deeds) = stands_loose t before at_.u w at_.known (ap is_voting is) (λ g here. absurd (subst (λ st. In g (leaves_of st)) is here)) at_.stands (record { more = Stated t s ∷ Worked t s asks choice ∷ Answered t choice.0 ∷ []; is = deeds; fruitless = (refl, (refl, (refl, tt))) })

  -- a letter that says nothing of an end is let go
  abbrev pub loose_lost : IsLawful L → (t : Name) (before : List (Deed L)) (w : World L) (l : Letter L) (q : List (Letter L)) → w.letters ≡ l ∷ q → NoEnd l.body → Loose t before w → Loose t before (record w { letters = q })
  loose_lost law t before w l q e none loose = record {
    u = loose.u;
    known = loose.known;
    calm = loose.calm;
    seen = loose.seen;
    alone = (subst (Every (λ x. x.txn ≡ t)) e loose.alone).1;
    others = loose.others;
    among = loose.among;
    leaving = by_site law (λ a bs. LeavingAt (Own loose.u a) (w.sites a).status bs) l q (leaving_lost (Own loose.u l.site) (w.sites l.site).status l.body (at l.site q) none) (λ a. subst (λ x. LeavingAt (Own loose.u a) (w.sites a).status (at a x)) e (loose.leaving a));
    since = loose.since;
  }

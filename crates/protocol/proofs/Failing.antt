-- A statement that fails: each letter that comes leaves a transaction that may be given up, or has ended, until no letter waits.
use Rattle.std.proofs.Common.{◌≡◌, refl, sym, ap, ◌∙◌, subst, Bool, true, false, List, [], ◌∷◌, ◌++◌, map, if◌then◌else◌, Option, Some, None, ◌⊎◌, inl, inr, ⊎_elim, append-nil}
use Rattle.protocol.specs.Language.{Lang, IsLawful, Name, same}
use Rattle.protocol.specs.Letter.{Body, Vote, Reason, Open, Fetch, Write, Prepare, Commit, Abort, Ticket, Rows, Refused, Voted, Ack, Inquire, Letter, is_for_desk}
use Rattle.protocol.specs.Site.{on_letter, site_after, said, is_within}
use Rattle.protocol.specs.Desk.{Choice, Stage, Idle, Reading, Writing, Voting, Undecided, Known, Deed, Aborted, By_refusal, Transition, stays, is_named, ticket_goes, on_ticket, on_refused, on_vote, on_known, on_desk_letter, desk_after, is_desk_within, ends_by}
use Rattle.protocol.specs.World.{World, turned, turns, with_site, addressed, comes_to}
use Rattle.protocol.specs.Parts.{is_voting}
use Rattle.protocol.specs.Client.{first, next, IsQuiet}
use Rattle.protocol.specs.VisitPlaces.{at}
use Rattle.protocol.specs.StatementCourse.{AtSites}
use Rattle.protocol.specs.AfterAbort.{LeavingAt, Ending, EndKept, Within, Own, Fruitless, Since, leaves_of, AreVisited, Loose, Failing, doomed, has_ended}
use Rattle.protocol.proofs.Basics.{Every, In, every_append, every_map, either, either_if, put_all, put_there, same_refl, if_true, clash, by_test}
use Rattle.protocol.proofs.Locks.{Once}
use Rattle.protocol.proofs.Queue.{at_append, at_here, at_away}
use Rattle.protocol.proofs.Waiting.{in_at}
use Rattle.protocol.proofs.StatementMeetsNoLock.{with_ticket}
use Rattle.protocol.proofs.Limits.{end_within}
use Rattle.protocol.proofs.AfterAbort.{NoEnd, left}
use Rattle.protocol.proofs.Ended.{in_front, elsewhere, end_or_not, desk_no_end, ending_goes_on, ending_quiet}
use Rattle.protocol.proofs.Loose.{loose_ends, loose_lost, ends_within}
use Rattle.protocol.proofs.LooseTurns.{LooseTurn, since_more, loose_turned, loose_stays, goes_loose, rows_loose}

module _ {L : Lang} where
  -- what a letter from a site makes of a transaction that may be given up
  data KnownTurn (t : Name) (u : Undecided L) (turn : Transition L) : Type 0 where
    goes : LooseTurn t u turn → KnownTurn t u turn
    ends : (d : Deed L) → turn ≡ ends_by t u d → Fruitless t d → KnownTurn t u turn

  -- one step of such a transaction: it may still be given up and keeps its tickets, or it has ended. old: its tickets before, q: the letters that still wait
  pub data LooseStep (t : Name) (before : List (Deed L)) (old : L.Site → Option Name) (q : List (Letter L)) (w : World L) : Type 0 where
    still : (loose : Loose t before w) → ((a : L.Site) (k : Name) → old a ≡ Some k → loose.u.ticket a ≡ Some k) → ((a : L.Site) (c : Body L) → In c (at a q) → In c (at a w.letters)) → LooseStep t before old q w
    over : (deeds : List (Deed L)) → Since t before deeds → Ending deeds w → LooseStep t before old q w

  module _ (law : IsLawful L) (t : Name) (u : Undecided L) (calm : is_voting u.stage ≡ false) (seen : AreVisited u (leaves_of u.stage)) (a : L.Site) (kept : Bool) (choice : Choice L) (written : AtSites L (map (λ x. x.0) choice.1)) where
    nothing : KnownTurn t u (stays (Known u))
    nothing = goes (loose_stays t u calm seen)

    -- a first ticket
    first_ticket : (k : Name) → u.ticket a ≡ None → LooseTurn t u (ticket_goes t (with_ticket u a k) choice u.stage)
    first_ticket k none =
        let to = goes_loose law t (with_ticket u a k) choice u.stage calm seen seen in
        record {
          new = to.new;
          is = to.is;
          calm = to.calm;
          seen = to.seen;
          own = to.own;
          among = to.among;
          visited = to.visited;
          ticket = λ b j own. to.ticket b j (⊎_elim (λ is. (let f : None ≡ Some j = sym none ∙ ap u.ticket (sym ((law.sites b a).0 is)) ∙ own in cc)) (λ other. put_there L.same_site law.sites a (Some k) u.ticket b other ∙ own) (by_test (L.same_site b a)));
          sends = to.sends;
          deeds = to.deeds;
        }

    ticket_turn : (k : Name) (tk : Option Name) → u.ticket a ≡ tk → KnownTurn t u (on_ticket t u a k choice tk)
    ticket_turn k None e = goes (first_ticket k e)
    ticket_turn k (Some j) e = either (KnownTurn t u) (same j k) _ _ nothing
        (goes (record { new = u; is = refl; calm = calm; seen = seen; own = (refl, tt); among = λ old. old; visited = λ b is. is; ticket = λ b i is. is; sends = (tt, tt); deeds = tt }))

    refused_turn : (stage : Stage L) → is_voting stage ≡ false → on_refused t u stage ≡ ends_by t u (Aborted t By_refusal)
    refused_turn Idle none = refl
    refused_turn (Reading s asks) none = refl
    refused_turn (Writing answer ws) none = refl
    refused_turn (Voting votes) none = let e : true ≡ false = none in cc

    vote_turn : (x : Vote) (stage : Stage L) → is_voting stage ≡ false → KnownTurn t u (on_vote t u a kept x stage)
    vote_turn x Idle none = nothing
    vote_turn x (Reading s asks) none = nothing
    vote_turn x (Writing answer ws) none = nothing
    vote_turn x (Voting votes) none = let e : true ≡ false = none in cc

    known_turn : (c : Body L) → KnownTurn t u (on_known t u a kept choice c)
    known_turn (Ticket k) = ticket_turn k (u.ticket a) refl
    known_turn (Rows k n rows) = either (KnownTurn t u) (is_named (u.ticket a) k) _ _ (goes (rows_loose law t u a n rows choice u.stage calm seen seen written)) nothing
    known_turn (Refused k reason) = either (KnownTurn t u) (is_named (u.ticket a) k) _ _ (ends (Aborted t By_refusal) (refused_turn u.stage calm) refl) nothing
    known_turn (Voted k x) = either (KnownTurn t u) (is_named (u.ticket a) k) _ _ (vote_turn x u.stage calm) nothing
    known_turn (Inquire k) = nothing
    known_turn (Ack k) = nothing
    known_turn Open = nothing
    known_turn (Fetch k op g q) = nothing
    known_turn (Write k op g x) = nothing
    known_turn (Prepare k n) = nothing
    known_turn (Commit k) = nothing
    known_turn (Abort k) = nothing

  module _ (law : IsLawful L) (once : Once L.sites) (t : Name) (before : List (Deed L)) (w : World L) (l : Letter L) (q : List (Letter L)) (e : w.letters ≡ l ∷ q) (loose : Loose t before w) where
    abbrev Step : World L → Type 0
    Step v = LooseStep t before loose.u.ticket q v

    lost_step : NoEnd l.body → Step (record w { letters = q })
    lost_step none = still (loose_lost law t before w l q e none loose) (λ a k own. own) (λ a c here. here)

    own_letter : l.txn ≡ t
    own_letter = (subst (Every (λ x. x.txn ≡ t)) e loose.alone).0

    -- at its site
    pub site_step : (kept : Bool) → EndKept kept l.body → Step (with_site (record w { letters = q }) l.site (site_after (w.sites l.site) (on_letter (w.sites l.site) l.txn kept l.body)) (addressed l.site l.txn (said (w.sites l.site) (on_letter (w.sites l.site) l.txn kept l.body))))
    site_step kept end =
        let a = l.site in
        let s = w.sites a in
        let act = on_letter s l.txn kept l.body in
        let out = addressed a l.txn (said s act) in
        still (record {
          u = loose.u;
          known = loose.known;
          calm = loose.calm;
          seen = loose.seen;
          alone = every_append (λ x. x.txn ≡ t) q out (subst (Every (λ x. x.txn ≡ t)) e loose.alone).1 (every_map (λ x. x.txn ≡ t) _ (said s act) (λ b. own_letter));
          others = loose.others;
          among = loose.among;
          leaving = put_all L.same_site law.sites a (site_after s act) w.sites (λ b x. LeavingAt (Own loose.u b) x.status (at b (q ++ out)))
              (subst (LeavingAt (Own loose.u a) (site_after s act).status) (sym (at_append a q out ∙ ap (λ x. at a q ++ x) (at_here a a l.txn (said s act) ((law.sites a a).1 refl))))
              (left (Own loose.u a) s (at a q) law.touches_none l.txn kept l.body end (subst (LeavingAt (Own loose.u a) s.status) (ap (at a) e ∙ in_front law l q) (loose.leaving a))))
              (λ b other. subst (LeavingAt (Own loose.u b) (w.sites b).status)
              (ap (at b) e ∙ elsewhere law b l q other ∙ sym (at_append b q out ∙ ap (λ x. at b q ++ x) (at_away b a l.txn (said s act) other) ∙ append-nil (at b q))) (loose.leaving b));
          since = loose.since;
        }) (λ b k own. own) (λ b c here. in_at b c q out here)

    -- at the coordinator
    turn_step : NoEnd l.body → (turn : Transition L) → KnownTurn t loose.u turn → Step (turned (record w { letters = q }) t turn)
    turn_step none turn (goes to) = still (loose_turned law t before (record w { letters = q }) turn (loose_lost law t before w l q e none loose) to) to.ticket (λ a c here. in_at a c q turn.letters here)
    turn_step none turn (ends d is fruitless) = subst (λ x. Step (turned (record w { letters = q }) t x)) (sym is)
        (over (w.past ++ d ∷ []) (since_more t before w.past (d ∷ []) loose.since (fruitless, tt)) (loose_ends law once t before d (record w { letters = q }) (loose_lost law t before w l q e none loose)))

    -- a letter comes; none of these is a Commit or an Abort that isn't kept
    pub loose_step : (within : Within w) (kept : Bool) (choice : Choice L) → EndKept kept l.body → AtSites L (map (λ x. x.0) choice.1) → Step (next w kept choice)
    loose_step within kept choice end written = subst (λ letters. Step (first w kept choice letters)) (sym e) (go (is_for_desk l.body) refl)
      where
        at_desk : is_for_desk l.body ≡ true → Step (comes_to true (record w { letters = q }) kept choice l)
        at_desk to_desk = subst (λ j. Step (turns (record w { letters = q }) j (on_desk_letter j l.site kept choice l.body (w.desk.txn j)))) (sym own_letter)
            (subst (λ x. Step (turns (record w { letters = q }) t (on_desk_letter t l.site kept choice l.body x))) (sym loose.known)
            (either Step (is_desk_within (desk_after w.desk t (on_known t loose.u l.site kept choice l.body).txn)) _ _
            (turn_step (desk_no_end l.body to_desk) (on_known t loose.u l.site kept choice l.body) (known_turn law t loose.u loose.calm loose.seen l.site kept choice written l.body))
            (lost_step (desk_no_end l.body to_desk))))

        go : (b : Bool) → is_for_desk l.body ≡ b → Step (comes_to b (record w { letters = q }) kept choice l)
        go true to_desk = at_desk to_desk
        go false to_site = either_if Step (is_within (site_after (w.sites l.site) (on_letter (w.sites l.site) l.txn kept l.body))) _ _
            (λ is. site_step kept end)
            (λ full. ⊎_elim (λ of. clash (end_within (w.sites l.site) (within.sites l.site) l.txn kept l.body of) full) lost_step (end_or_not l.body))

    -- ---- the coordinator will hear of a refused operation
    -- the refusal is in front: the transaction ends
    refusal_ends : (within : Within w) (kept : Bool) (choice : Choice L) (k : Name) (reason : Reason) → loose.u.ticket l.site ≡ Some k → Refused k reason ≡ l.body → Ending (w.past ++ Aborted t By_refusal ∷ []) (next w kept choice)
    refusal_ends within kept choice k reason own is =
        let w1 : World L = record w { letters = q } in
        let turn_is : on_known t loose.u l.site kept choice (Refused k reason) ≡ ends_by t loose.u (Aborted t By_refusal) =
        if_true (is_named (loose.u.ticket l.site) k) (on_refused t loose.u loose.u.stage) (stays (Known loose.u)) (ap (λ tk. is_named tk k) own ∙ same_refl k) ∙ refused_ends loose.u.stage loose.calm in
        subst (λ letters. Ending (w.past ++ Aborted t By_refusal ∷ []) (first w kept choice letters)) (sym e)
        (subst (λ b. Ending (w.past ++ Aborted t By_refusal ∷ []) (comes_to b w1 kept choice l)) (ap is_for_desk is)
        (subst (λ c. Ending (w.past ++ Aborted t By_refusal ∷ []) (turns w1 l.txn (on_desk_letter l.txn l.site kept choice c (w.desk.txn l.txn)))) is
        (subst (λ j. Ending (w.past ++ Aborted t By_refusal ∷ []) (turns w1 j (on_desk_letter j l.site kept choice (Refused k reason) (w.desk.txn j)))) (sym own_letter)
        (subst (λ x. Ending (w.past ++ Aborted t By_refusal ∷ []) (turns w1 t (on_desk_letter t l.site kept choice (Refused k reason) x))) (sym loose.known)
        (subst (λ turn. Ending (w.past ++ Aborted t By_refusal ∷ []) (turns w1 t turn)) (sym turn_is)
        (subst (Ending (w.past ++ Aborted t By_refusal ∷ [])) (sym (if_true _ (turned w1 t (ends_by t loose.u (Aborted t By_refusal))) w1 (ends_within law once w1 t loose.u (Aborted t By_refusal) (record { desk = within.desk; sites = within.sites }))))
        (loose_ends law once t before (Aborted t By_refusal) w1 (loose_lost law t before w l q e (subst NoEnd is tt) loose))))))))
      where
        refused_ends : (stage : Stage L) → is_voting stage ≡ false → on_refused t loose.u stage ≡ ends_by t loose.u (Aborted t By_refusal)
        refused_ends Idle none = refl
        refused_ends (Reading s asks) none = refl
        refused_ends (Writing answer ws) none = refl
        refused_ends (Voting votes) none = let f : true ≡ false = none in cc

    pub doomed_step : (a : L.Site) (k : Name) (reason : Reason) → loose.u.ticket a ≡ Some k → In (Refused k reason) (at a w.letters) → (within : Within w) (kept : Bool) (choice : Choice L) → EndKept kept l.body → AtSites L (map (λ x. x.0) choice.1) → Failing t before (next w kept choice)
    doomed_step a k reason own waits within kept choice end written = by_front (found (L.same_site a l.site) refl (subst (λ x. In (Refused k reason) (at a x)) e waits))
      where
        found : (b : Bool) → L.same_site a l.site ≡ b → In (Refused k reason) (if b then l.body ∷ at a q else at a q) → ((a ≡ l.site) × (Refused k reason ≡ l.body)) ⊎ In (Refused k reason) (at a q)
        found true f (inl is) = inl ((law.sites a l.site).0 f, is)
        found true f (inr below) = inr below
        found false f here = inr here

        later : In (Refused k reason) (at a q) → Step (next w kept choice) → Failing t before (next w kept choice)
        later here (still new grows keeps) = doomed (record { loose = new; site = a; ticket = k; reason = reason; own = grows a k own; waits = keeps a (Refused k reason) here })
        later here (over deeds since ending) = has_ended deeds since ending

        by_front : ((a ≡ l.site) × (Refused k reason ≡ l.body)) ⊎ In (Refused k reason) (at a q) → Failing t before (next w kept choice)
        by_front (inl f) = has_ended (w.past ++ Aborted t By_refusal ∷ []) (since_more t before w.past (Aborted t By_refusal ∷ []) loose.since (refl, tt)) (refusal_ends within kept choice k reason (ap loose.u.ticket (sym f.0) ∙ own) f.1)
        by_front (inr here) = later here (loose_step within kept choice end written)

  module _ (law : IsLawful L) (once : Once L.sites) (t : Name) (before : List (Deed L)) (w : World L) where
    -- a letter comes while a statement fails; whatever the stores answer but to a Commit or an Abort
    pub failing_goes_on : (l : Letter L) (q : List (Letter L)) → w.letters ≡ l ∷ q → Within w → (kept : Bool) (choice : Choice L) → EndKept kept l.body → AtSites L (map (λ x. x.0) choice.1) → Failing t before w → Failing t before (next w kept choice)
    failing_goes_on l q e within kept choice end written (doomed d) = doomed_step law once t before w l q e d.loose d.site d.ticket d.reason d.own d.waits within kept choice end written
    failing_goes_on l q e within kept choice end written (has_ended deeds since ending) = has_ended deeds since (ending_goes_on law deeds w l q e ending law.touches_none within kept choice end)

    -- no letter waits
    pub failing_ends : Failing t before w → w.letters ≡ [] → IsQuiet w × Since t before w.past
    failing_ends (doomed d) silent = absurd (subst (λ x. In (Refused d.ticket d.reason) (at d.site x)) silent d.waits)
    failing_ends (has_ended deeds since ending) silent = (ending_quiet law deeds w ending silent, subst (Since t before) (sym ending.past) since)

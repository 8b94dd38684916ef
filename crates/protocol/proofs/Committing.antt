-- One client's commit, letter by letter: it is committed, unless something gave an excuse.
use Rattle.std.proofs.Common.{◌≡◌, refl, sym, ap, ◌∙◌, subst, ◌||◌, not, Bool, true, false, List, [], ◌∷◌, ◌++◌, if◌then◌else◌, Option, Some, None, is_some, is_none, ◌⊎◌, inl, inr, ⊎_elim, append-nil, append_assoc, flat_map}
use Rattle.std.specs.List.{list_all}
use Rattle.protocol.specs.Language.{Lang, IsLawful, Name, same, put}
use Rattle.protocol.specs.Letter.{Vote, Yes, No, Read, Body, Open, Fetch, Write, Prepare, Commit, Abort, Ticket, Rows, Refused, Voted, Ack, Inquire, Letter, letters_to, is_for_desk}
use Rattle.protocol.specs.Site.{Visit, Status, Active, on_letter, site_after, said, is_within}
use Rattle.protocol.specs.Desk.{Choice, Voting, Undecided, Txn, Unknown, Known, Row, Deed, Phased, Committed, Aborted, By_vote, By_store, Why, Commit_call, Transition, stays, is_named, is_undecided, is_short_txn, when, to_prepare, voter_at, voters_of, are_all_in, commits, decides, votes_go, phases, on_commit_call, counts, on_vote, on_request, on_desk_letter, desk_after, is_desk_within, ends_by}
use Rattle.protocol.specs.World.{World, turned, turns, with_site, addressed, comes, comes_to, called, version_after}
use Rattle.protocol.specs.Client.{first, next, IsQuiet}
use Rattle.protocol.specs.Parts.{In}
use Rattle.protocol.specs.VisitPlaces.{at, Unlocked}
use Rattle.protocol.specs.StatementCourse.{Steady}
use Rattle.protocol.specs.AfterAbort.{Closed, is_free, LeavingAt, Ending, EndKept, Within}
use Rattle.protocol.specs.Committing.{VotedBy, Ballot, is_aside, is_asked, has_voted, is_counted, InVote, Committing, in_vote, is_done, is_undone, CommitKept}
use Rattle.protocol.proofs.Basics.{Every, every_append, every_map, either, either_if, put_all, put_here, same_law, same_refl, if_true, clash, all_in, or_none_left}
use Rattle.protocol.proofs.Locks.{Once}
use Rattle.protocol.proofs.Turns.{every_letter}
use Rattle.protocol.proofs.Queue.{at_append, at_here, at_away}
use Rattle.protocol.proofs.AtSite.{head_is}
use Rattle.protocol.proofs.AtDesk.{at_said, at_unsaid}
use Rattle.protocol.proofs.Limits.{OfTheEnd, turn_within, end_within}
use Rattle.protocol.proofs.AfterAbort.{NoOp, closed_none}
use Rattle.protocol.proofs.Ended.{at_none, in_front, elsewhere, ending_goes_on, ending_quiet}
use Rattle.protocol.proofs.Loose.{ends, ends_within}
use Rattle.protocol.proofs.Ballots.{Hears, none_behind, counted_vote, prepares, begins_ballot, ballot_leaving, all_in_leaving, silent_in, in_votes, is_voter, commit_out}

-- all pass
pub all_pass : {A : Type 0} (p : A → Bool) (xs : List A) → ((x : A) → p x ≡ true) → list_all p xs ≡ true
all_pass p [] all = refl
all_pass p (x ∷ xs) all = rw (all x) (all_pass p xs all)

module _ {L : Lang} (law : IsLawful L) (once : Once L.sites) (E : Type 0) (t : Name) (before : List (Deed L)) where
  -- ---- the votes are counted: u and votes: with the last one
  -- the world as the coordinator is about to go on; w: without the letter in front
  pub record Counted (u : Undecided L) (votes : L.Site → Option Vote) (w : World L) : Type 0 where
    pub is_known : is_undecided (w.desk.txn t) ≡ true
    pub short : is_short_txn (w.desk.txn t) ≡ true → is_short_txn (Known u) ≡ true
    pub alone : Every (λ l. l.txn ≡ t) w.letters
    pub others : (j : Name) → same j t ≡ false → is_undecided (w.desk.txn j) ≡ false
    pub among : (a : L.Site) → u.visited a ≡ true → In a L.sites
    pub ballots : (a : L.Site) → Ballot E (w.sites a).status (u.visited a) (u.ticket a) (votes a) (at a w.letters)

  -- an end with an Abort to each that may have locks
  abort_ends : (u : Undecided L) (votes : L.Site → Option Vote) (w : World L) (d : Deed L) (others : (j : Name) → same j t ≡ false → is_undecided (w.desk.txn j) ≡ false) (among : (a : L.Site) → u.visited a ≡ true → In a L.sites) →
      ((a : L.Site) → LeavingAt (Hears (u.visited a) (u.ticket a) (votes a)) (w.sites a).status (at a w.letters)) → Ending (w.past ++ d ∷ []) (turned w t (ends_by t (record u { stage = Voting votes }) d))
  abort_ends u votes w d others among leaving = ends law once t (record u { stage = Voting votes }) d w (λ a k. Hears (u.visited a) (u.ticket a) (votes a) k) others leaving
      (λ a k hears. (among a hears.0, rw (hears.0, hears.1) refl, hears.2))

  -- all votes are in
  module _ (u : Undecided L) (votes : L.Site → Option Vote) (w : World L) (counted : Counted u votes w) (all : are_all_in u votes ≡ true) where
    voted_in : (a : L.Site) → u.visited a ≡ true → is_some (votes a) ≡ true
    voted_in a visited = in_votes (u.visited a) (votes a) (all_in (λ b. not (u.visited b) || is_some (votes b)) a L.sites all (counted.among a visited)) visited

    commit_ends_at : (voters : List (L.Site × Name)) → voters_of u votes ≡ voters → (a : L.Site) → LeavingAt (λ k. ⊥) (w.sites a).status (at a (w.letters ++ commits t voters))
    commit_ends_at voters are a = subst (LeavingAt (λ k. ⊥) (w.sites a).status) (sym (at_append a w.letters (commits t voters)))
        (all_in_leaving E (w.sites a).status (u.visited a) (u.ticket a) (votes a) (at a w.letters) (at a (commits t voters)) (counted.ballots a) (voted_in a)
        (λ k visited yes_ own. commit_out law t a k voters (subst (In (a, k)) are (is_voter u votes a k (counted.among a visited) visited yes_ own)))
        (closed_none (λ k. ⊥) (at a (commits t voters)) (at_none a (commits t voters) (no_ops voters))))
      where
        no_ops : (voters : List (L.Site × Name)) → Every (λ l. NoOp l.body) (commits {L = L} t voters)
        no_ops [] = tt
        no_ops (v ∷ voters) = (tt, no_ops voters)

    decided_others : (x : Txn L) → is_undecided x ≡ false → (j : Name) → is_undecided (put same t x w.desk.txn j) ≡ false
    decided_others x none = put_all same same_law t x w.desk.txn (λ j y. is_undecided y ≡ false) none counted.others

    -- past: the deeds before; the turn's own are added
    pub decision : (kept : Bool) → (kept ≡ true) ⊎ E → w.past ≡ before ++ Phased t ∷ [] → Committing E t before (turned w t (decides t (record u { stage = Voting votes }) kept (voters_of u votes)))
    decision kept excuse past = go (voters_of u votes) refl
      where
        more : (d : Deed L) → w.past ++ d ∷ [] ≡ before ++ Phased t ∷ d ∷ []
        more d = ap (λ x. x ++ d ∷ []) past ∙ append_assoc before (Phased t ∷ []) (d ∷ [])

        unkept : kept ≡ false → Committing E t before (turned w t (ends_by t (record u { stage = Voting votes }) (Aborted t By_store)))
        unkept refused = ⊎_elim (λ is. clash is refused) (λ because. is_undone because By_store
            (subst (λ x. Ending x (turned w t (ends_by t (record u { stage = Voting votes }) (Aborted t By_store)))) (more (Aborted t By_store))
            (abort_ends u votes w (Aborted t By_store) counted.others counted.among (λ a. ballot_leaving E (w.sites a).status (u.visited a) (u.ticket a) (votes a) (at a w.letters) (counted.ballots a))))) excuse

        go : (voters : List (L.Site × Name)) → voters_of u votes ≡ voters → Committing E t before (turned w t (decides t (record u { stage = Voting votes }) kept voters))
        go [] are = either_if (λ turn. Committing E t before (turned w t turn)) (kept || not u.moves) _ _
            (λ is. is_done (record { decided = decided_others Unknown refl; leaving = commit_ends_at [] are; past = more (Committed t) }))
            (λ refused. unkept (or_none_left kept (not u.moves) refused))
        go (v ∷ voters) are = either_if (λ turn. Committing E t before (turned w t turn)) kept _ _
            (λ is. is_done (record { decided = decided_others (Row (v ∷ voters) []) refl; leaving = commit_ends_at (v ∷ voters) are; past = more (Committed t) }))
            unkept

  -- the first phase goes on
  module _ (u : Undecided L) (votes : L.Site → Option Vote) (w : World L) (counted : Counted u votes w) where
    votes_committing : (kept : Bool) → (kept ≡ true) ⊎ E → w.past ≡ before ++ Phased t ∷ [] → Committing E t before (turned w t (votes_go t u votes kept))
    votes_committing kept excuse past = either_if (λ turn. Committing E t before (turned w t turn)) (are_all_in u votes) _ _
        (λ all. decision u votes w counted all kept excuse past)
        (λ missing. in_vote (record {
          u = record u { stage = Voting votes };
          votes = votes;
          known = put_here same same_law t (Known (record u { stage = Voting votes })) w.desk.txn;
          stage = refl;
          missing = missing;
          alone = subst (Every (λ l. l.txn ≡ t)) (sym (append-nil w.letters)) counted.alone;
          others = put_all same same_law t (Known (record u { stage = Voting votes })) w.desk.txn (λ j x. same j t ≡ false → is_undecided x ≡ false) (λ other. clash (same_refl t) other) (λ j away other. counted.others j other);
          among = counted.among;
          ballots = λ a. subst (λ x. Ballot E (w.sites a).status (u.visited a) (u.ticket a) (votes a) (at a x)) (sym (append-nil w.letters)) (counted.ballots a);
          past = append-nil w.past ∙ past;
        }))

    -- it meets no limit
    votes_within : (kept : Bool) → is_desk_within w.desk ≡ true → is_desk_within (desk_after w.desk t (votes_go t u votes kept).txn) ≡ true
    votes_within kept within = turn_within w.desk t (votes_go t u votes kept).txn (λ was. now_short (counted.short was) kept) (λ is. counted.is_known) within
      where
        decided_short : (kept : Bool) (voters : List (L.Site × Name)) → is_short_txn (decides t (record u { stage = Voting votes }) kept voters).txn ≡ true
        decided_short kept [] = either (λ (turn : Transition L). is_short_txn turn.txn ≡ true) (kept || not u.moves) _ _ refl refl
        decided_short true (v ∷ voters) = refl
        decided_short false (v ∷ voters) = refl

        now_short : is_short_txn (Known u) ≡ true → (kept : Bool) → is_short_txn (votes_go t u votes kept).txn ≡ true
        now_short short kept = either (λ (turn : Transition L). is_short_txn turn.txn ≡ true) (are_all_in u votes) _ _ (decided_short kept (voters_of u votes)) short

  -- ---- a commit is asked for
  no_voters : (visited : L.Site → Bool) (ticket : L.Site → Option Name) (sites : List L.Site) → flat_map (λ a. if visited a then voter_at a None (ticket a) else []) sites ≡ []
  no_voters visited ticket [] = refl
  no_voters visited ticket (a ∷ sites) = go (visited a) (no_voters visited ticket sites)
    where
      go : (b : Bool) → flat_map (λ a. if visited a then voter_at a None (ticket a) else []) sites ≡ [] → (if b then [] else []) ++ flat_map (λ a. if visited a then voter_at a None (ticket a) else []) sites ≡ []
      go true rest = rest
      go false rest = rest

  -- before the first vote nothing goes out but the Prepares
  none_out : (u : Undecided L) → (votes_go t u (λ a. None) true).letters ≡ []
  none_out u = either (λ (turn : Transition L). turn.letters ≡ []) (are_all_in u (λ a. None)) _ _
      (ap (λ voters. (decides t (record u { stage = Voting (λ a. None) }) true voters).letters) (no_voters u.visited u.ticket L.sites)) refl

  module _ (w : World L) (steady : Steady t w) (choice : Choice L) where
    abbrev u : Undecided L
    u = steady.u

    abbrev says : L.Site → Option (Body L)
    says a = when (u.visited a) (to_prepare u a (u.ticket a))

    abbrev out : List (Letter L)
    out = letters_to t says L.sites

    -- each visited site is asked once
    asked_at : (a : L.Site) (k : Name) → u.visited a ≡ true → u.ticket a ≡ Some k → at a out ≡ Prepare k (u.sent a) ∷ []
    asked_at a k visited own = at_said law t says a (Prepare k (u.sent a)) L.sites (steady.stands.among a visited) once (ap (λ b. when b (to_prepare u a (u.ticket a))) visited ∙ ap (to_prepare u a) own)

    unasked_at : (a : L.Site) → u.visited a ≡ false → at a out ≡ []
    unasked_at a unvisited = at_unsaid t says a L.sites (λ b here is. ap (λ c. says c) (sym ((law.sites a b).0 is)) ∙ ap (λ x. when x (to_prepare u a (u.ticket a))) unvisited)

    -- the world in which the Prepares have gone out
    abbrev asking : World L
    asking = record w { letters = w.letters ++ out; past = w.past ++ Phased t ∷ [] }

    first_counted : Counted u (λ a. None) asking
    first_counted = record {
      is_known = ap is_undecided steady.known;
      short = λ was. sym (ap is_short_txn steady.known) ∙ was;
      alone = every_append (λ l. l.txn ≡ t) w.letters out steady.stands.alone (every_letter (λ l. l.txn ≡ t) t says L.sites (λ a b here e. refl));
      others = steady.stands.others;
      among = steady.stands.among;
      ballots = λ a. subst (Ballot E (w.sites a).status (u.visited a) (u.ticket a) None) (sym (at_append a w.letters out))
          (begins_ballot E (w.sites a).status (u.visited a) (u.ticket a) (u.sent a) (at a w.letters) (at a out) (steady.stands.spots a) (ap (at a) steady.silent) (unasked_at a) (asked_at a));
    }

    -- the turn is that of the first count, the Prepares aside
    asked_world : (P : World L → Type 0) → P (turned asking t (votes_go t u (λ a. None) true)) → P (turned w t (phases t u))
    asked_world P holds =
        let turn = votes_go t u (λ a. None) true in
        subst (λ x. P (record { desk = desk_after w.desk t turn.txn; sites = w.sites; letters = x; past = w.past ++ (Phased t ∷ turn.deeds); version = version_after w.version (w.desk.txn t) t (Phased t ∷ turn.deeds) })) (ap (λ x. (w.letters ++ out) ++ x) (none_out u) ∙ append-nil (w.letters ++ out))
        (subst (λ x. P (record { desk = desk_after w.desk t turn.txn; sites = w.sites; letters = (w.letters ++ out) ++ turn.letters; past = x; version = version_after w.version (w.desk.txn t) t turn.deeds })) (append_assoc w.past (Phased t ∷ []) turn.deeds) holds)

    pub commit_starts : Within w → w.past ≡ before → Committing E t before (called w t choice Commit_call)
    commit_starts within past =
        subst (λ x. Committing E t before (turns w t (on_request t choice Commit_call x))) (sym steady.known)
        (subst (λ st. Committing E t before (turns w t (on_commit_call t u st))) (sym steady.idle)
        (subst (Committing E t before) (sym (if_true _ (turned w t (phases t u)) w (votes_within u (λ a. None) asking first_counted true within.desk)))
        (asked_world (Committing E t before) (votes_committing u (λ a. None) asking first_counted true (inl refl) (ap (λ x. x ++ Phased t ∷ []) past)))))

  -- ---- a letter comes
  module _ (w : World L) (l : Letter L) (q : List (Letter L)) (e : w.letters ≡ l ∷ q) (vote : InVote E t before w) (within : Within w) where
    abbrev pub v : Undecided L
    v = vote.u

    abbrev here : L.Site
    here = l.site

    own : l.txn ≡ t
    own = (subst (Every (λ x. x.txn ≡ t)) e vote.alone).0

    front : Ballot E (w.sites here).status (v.visited here) (v.ticket here) (vote.votes here) (l.body ∷ at here q)
    front = subst (Ballot E (w.sites here).status (v.visited here) (v.ticket here) (vote.votes here)) (ap (at here) e ∙ in_front law l q) (vote.ballots here)

    elsewhere_at : (a : L.Site) → L.same_site a here ≡ false → Ballot E (w.sites a).status (v.visited a) (v.ticket a) (vote.votes a) (at a q)
    elsewhere_at a other = subst (Ballot E (w.sites a).status (v.visited a) (v.ticket a) (vote.votes a)) (ap (at a) e ∙ elsewhere law a l q other) (vote.ballots a)

    abbrev pub after : World L
    after = record w { letters = q }

    -- a site is asked
    prepare_comes : (kept : Bool) (choice : Choice L) (k : Name) (visit : Visit L) → v.visited here ≡ true → v.ticket here ≡ Some k → vote.votes here ≡ None → l.body ≡ Prepare k visit.done → at here q ≡ [] → (w.sites here).status k ≡ Active visit → ((j : Name) → same j k ≡ false → Unlocked ((w.sites here).status j)) → (kept ≡ true) ⊎ E → Committing E t before (comes_to (is_for_desk l.body) after kept choice l)
    prepare_comes kept choice k visit visited mine none is silent active free excuse =
        let s = w.sites here in
        let act = on_letter s l.txn kept l.body in
        let said_ = addressed here l.txn (said s act) in
        subst (λ b. Committing E t before (comes_to b after kept choice l)) (sym (ap is_for_desk is))
        (subst (Committing E t before) (sym (if_true (is_within (site_after s act)) (with_site after here (site_after s act) said_) after (end_within s (within.sites here) l.txn kept l.body (subst OfTheEnd (sym is) tt))))
        (in_vote (record {
          u = v;
          votes = vote.votes;
          known = vote.known;
          stage = vote.stage;
          missing = vote.missing;
          alone = every_append (λ x. x.txn ≡ t) q said_ (subst (Every (λ x. x.txn ≡ t)) e vote.alone).1 (every_map (λ x. x.txn ≡ t) _ (said s act) (λ b. own));
          others = vote.others;
          among = vote.among;
          ballots = put_all L.same_site law.sites here (site_after s act) w.sites (λ a st. Ballot E st.status (v.visited a) (v.ticket a) (vote.votes a) (at a (q ++ said_)))
              (subst (Ballot E (site_after s act).status (v.visited here) (v.ticket here) (vote.votes here))
              (sym (at_append here q said_ ∙ ap (λ x. x ++ at here said_) silent ∙ at_here here here l.txn (said s act) ((law.sites here here).1 refl)))
              (subst (λ c. Ballot E (site_after s (on_letter s l.txn kept c)).status (v.visited here) (v.ticket here) (vote.votes here) (said s (on_letter s l.txn kept c))) (sym is)
              (prepares E s l.txn k (v.ticket here) visit (v.visited here) (vote.votes here) visited mine none active free kept excuse)))
              (λ a other. subst (Ballot E (w.sites a).status (v.visited a) (v.ticket a) (vote.votes a)) (sym (at_append a q said_ ∙ ap (λ x. at a q ++ x) (at_away a here l.txn (said s act) other) ∙ append-nil (at a q))) (elsewhere_at a other));
          past = vote.past;
        })))

    -- its vote comes
    module _ (k : Name) (x : Vote) (visited : v.visited here ≡ true) (mine : v.ticket here ≡ Some k) (none : vote.votes here ≡ None) (is : l.body ≡ Voted k x) (silent : at here q ≡ []) (by : VotedBy E (w.sites here).status k x) where
      abbrev votes : L.Site → Option Vote
      votes = put L.same_site here (Some x) vote.votes

      counted_here : (x ≡ No → ⊥) → Counted v votes after
      counted_here good = record {
        is_known = ap is_undecided vote.known;
        short = λ was. sym (ap is_short_txn vote.known) ∙ was;
        alone = (subst (Every (λ y. y.txn ≡ t)) e vote.alone).1;
        others = vote.others;
        among = vote.among;
        ballots = put_all L.same_site law.sites here (Some x) vote.votes (λ a y. Ballot E (w.sites a).status (v.visited a) (v.ticket a) y (at a q))
            (is_counted k x visited mine refl silent (counted_vote E (w.sites here).status k x good by)) elsewhere_at;
      }

      good_comes : (kept : Bool) → (kept ≡ true) ⊎ E → (x ≡ No → ⊥) → Committing E t before (turns after t (votes_go t v votes kept))
      good_comes kept excuse good = subst (Committing E t before) (sym (if_true _ (turned after t (votes_go t v votes kept)) after (votes_within v votes after (counted_here good) kept within.desk)))
          (votes_committing v votes after (counted_here good) kept excuse vote.past)

      no_comes : x ≡ No → Committing E t before (turns after t (ends_by t (record v { stage = Voting votes }) (Aborted t By_vote)))
      no_comes no_ =
          let refused = subst (VotedBy E (w.sites here).status k) no_ by in
          is_undone refused.0 By_vote
          (subst (Ending (before ++ Phased t ∷ Aborted t By_vote ∷ [])) (sym (if_true _ (turned after t (ends_by t (record v { stage = Voting votes }) (Aborted t By_vote))) after (ends_within law once after t (record v { stage = Voting votes }) (Aborted t By_vote) (record { desk = within.desk; sites = within.sites }))))
          (subst (λ y. Ending y (turned after t (ends_by t (record v { stage = Voting votes }) (Aborted t By_vote)))) (ap (λ y. y ++ Aborted t By_vote ∷ []) vote.past ∙ append_assoc before (Phased t ∷ []) (Aborted t By_vote ∷ []))
          (abort_ends v votes after (Aborted t By_vote) vote.others vote.among (put_all L.same_site law.sites here (Some x) vote.votes (λ a y. LeavingAt (Hears (v.visited a) (v.ticket a) y) (w.sites a).status (at a q))
          (record { locks = λ j. is_free (refused.1 j); closed = subst (Closed (Hears (v.visited here) (v.ticket here) (Some x))) (sym silent) tt })
          (λ a other. ballot_leaving E (w.sites a).status (v.visited a) (v.ticket a) (vote.votes a) (at a q) (elsewhere_at a other))))))

      counts_comes : (kept : Bool) → (kept ≡ true) ⊎ E → Committing E t before (turns after t (counts t v here vote.votes kept x))
      counts_comes kept excuse = go x refl
        where
          go : (y : Vote) → x ≡ y → Committing E t before (turns after t (counts t v here vote.votes kept y))
          go Yes f = subst (λ y. Committing E t before (turns after t (votes_go t v (put L.same_site here (Some y) vote.votes) kept))) f (good_comes kept excuse (λ bad. cc))
          go Read f = subst (λ y. Committing E t before (turns after t (votes_go t v (put L.same_site here (Some y) vote.votes) kept))) f (good_comes kept excuse (λ bad. cc))
          go No f = subst (λ y. Committing E t before (turns after t (ends_by t (record v { stage = Voting (put L.same_site here (Some y) vote.votes) }) (Aborted t By_vote)))) f (no_comes f)

      vote_comes : (kept : Bool) (choice : Choice L) → (kept ≡ true) ⊎ E → Committing E t before (comes_to (is_for_desk l.body) after kept choice l)
      vote_comes kept choice excuse =
          subst (λ b. Committing E t before (comes_to b after kept choice l)) (sym (ap is_for_desk is))
          (subst (λ c. Committing E t before (turns after l.txn (on_desk_letter l.txn here kept choice c (w.desk.txn l.txn)))) (sym is)
          (subst (λ j. Committing E t before (turns after j (on_desk_letter j here kept choice (Voted k x) (w.desk.txn j)))) (sym own)
          (subst (λ y. Committing E t before (turns after t (on_desk_letter t here kept choice (Voted k x) y))) (sym vote.known)
          (subst (λ turn. Committing E t before (turns after t turn)) (sym (if_true (is_named (v.ticket here) k) (on_vote t v here kept x v.stage) (stays (Known v)) (ap (λ tk. is_named tk k) mine ∙ same_refl k)))
          (subst (λ st. Committing E t before (turns after t (on_vote t v here kept x st))) (sym vote.stage)
          (subst (λ turn. Committing E t before (turns after t turn)) (sym (if_true (is_none (vote.votes here)) (counts t v here vote.votes kept x) (stays (Known v)) (ap is_none none))) (counts_comes kept excuse)))))))

    vote_goes_on : (kept : Bool) (choice : Choice L) → CommitKept E kept l.body → Committing E t before (next w kept choice)
    vote_goes_on kept choice excuse = subst (λ letters. Committing E t before (first w kept choice letters)) (sym e) (go front)
      where
        go : Ballot E (w.sites here).status (v.visited here) (v.ticket here) (vote.votes here) (l.body ∷ at here q) → Committing E t before (comes after kept choice l)
        go (is_aside unvisited none silent free) = let f : l.body ∷ at here q ≡ [] = silent in cc
        go (is_asked k visit visited mine none waits active free) =
            let is = head_is l.body (Prepare k visit.done) (at here q) [] waits in
            prepare_comes kept choice k visit visited mine none is (none_behind l.body (Prepare k visit.done) (at here q) waits) active free (subst (CommitKept E kept) is excuse)
        go (has_voted k x visited mine none waits by) =
            let is = head_is l.body (Voted k x) (at here q) [] waits in
            vote_comes k x visited mine none is (none_behind l.body (Voted k x) (at here q) waits) by kept choice (subst (CommitKept E kept) is excuse)
        go (is_counted k x visited mine is silent by) = let f : l.body ∷ at here q ≡ [] = silent in cc

  -- what a commit asks of a store is more than an end does
  end_kept : (kept : Bool) (c : Body L) → CommitKept E kept c → EndKept kept c
  end_kept kept (Commit k) h = h
  end_kept kept (Abort k) h = h
  end_kept kept Open h = tt
  end_kept kept (Fetch k op g y) h = tt
  end_kept kept (Write k op g y) h = tt
  end_kept kept (Prepare k n) h = tt
  end_kept kept (Ticket k) h = tt
  end_kept kept (Rows k n rows) h = tt
  end_kept kept (Refused k reason) h = tt
  end_kept kept (Voted k y) h = tt
  end_kept kept (Ack k) h = tt
  end_kept kept (Inquire k) h = tt

  -- a letter comes after a commit was asked for
  pub commit_goes_on : (w : World L) (l : Letter L) (q : List (Letter L)) → w.letters ≡ l ∷ q → Within w → (kept : Bool) (choice : Choice L) → CommitKept E kept l.body → Committing E t before w → Committing E t before (next w kept choice)
  commit_goes_on w l q e within kept choice keeps (in_vote vote) = vote_goes_on w l q e vote within kept choice keeps
  commit_goes_on w l q e within kept choice keeps (is_done ending) = is_done (ending_goes_on law (before ++ Phased t ∷ Committed t ∷ []) w l q e ending law.touches_none within kept choice (end_kept kept l.body keeps))
  commit_goes_on w l q e within kept choice keeps (is_undone excuse why ending) = is_undone excuse why (ending_goes_on law (before ++ Phased t ∷ Aborted t why ∷ []) w l q e ending law.touches_none within kept choice (end_kept kept l.body keeps))

  -- no letter waits: it is committed, or there was an excuse
  pub commit_ends : (w : World L) → Committing E t before w → w.letters ≡ [] → IsQuiet w × ((w.past ≡ before ++ Phased t ∷ Committed t ∷ []) ⊎ (E × ((why : Why) × (w.past ≡ before ++ Phased t ∷ Aborted t why ∷ []))))
  commit_ends w (in_vote vote) silent = clash (all_pass (λ a. not (vote.u.visited a) || is_some (vote.votes a)) L.sites (λ a. silent_in E (w.sites a).status (vote.u.visited a) (vote.u.ticket a) (vote.votes a) (at a w.letters) (vote.ballots a) (ap (at a) silent))) vote.missing
  commit_ends w (is_done ending) silent = (ending_quiet law (before ++ Phased t ∷ Committed t ∷ []) w ending silent, inl ending.past)
  commit_ends w (is_undone excuse why ending) silent = (ending_quiet law (before ++ Phased t ∷ Aborted t why ∷ []) w ending silent, inr (excuse, (why, ending.past)))

-- an excuse is one for less
module _ {L : Lang} (E F : Type 0) (more : E → F) where
  voted_more : (f : Name → Status L) (k : Name) (x : Vote) → VotedBy E f k x → VotedBy F f k x
  voted_more f k Yes by = by
  voted_more f k Read by = by
  voted_more f k No by = (more by.0, by.1)

  ballot_more : (f : Name → Status L) (b : Bool) (tk : Option Name) (vote : Option Vote) (bs : List (Body L)) → Ballot E f b tk vote bs → Ballot F f b tk vote bs
  ballot_more f b tk vote bs (is_aside unvisited none silent free) = is_aside unvisited none silent free
  ballot_more f b tk vote bs (is_asked k v visited own none waits active free) = is_asked k v visited own none waits active free
  ballot_more f b tk vote bs (has_voted k x visited own none waits by) = has_voted k x visited own none waits (voted_more f k x by)
  ballot_more f b tk vote bs (is_counted k x visited own is silent by) = is_counted k x visited own is silent by

  pub excuse_more : (t : Name) (before : List (Deed L)) (w : World L) → Committing E t before w → Committing F t before w
  excuse_more t before w (in_vote vote) = in_vote (record {
    u = vote.u;
    votes = vote.votes;
    known = vote.known;
    stage = vote.stage;
    missing = vote.missing;
    alone = vote.alone;
    others = vote.others;
    among = vote.among;
    ballots = λ a. ballot_more (w.sites a).status (vote.u.visited a) (vote.u.ticket a) (vote.votes a) (at a w.letters) (vote.ballots a);
    past = vote.past;
  })
  excuse_more t before w (is_done ending) = is_done ending
  excuse_more t before w (is_undone excuse why ending) = is_undone (more excuse) why ending

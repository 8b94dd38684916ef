-- After a commit or a rollback of one client all is quiet again, whatever becomes of its letters.
use Rattle.std.proofs.Common.{◌≡◌, refl, sym, ap, ◌∙◌, subst, Bool, true, false, List, [], ◌∷◌, ◌++◌, inr, append-nil, Option, is_none, ◌||◌, not}
use Rattle.store.specs.Content.{Content}
use Rattle.protocol.specs.Client.{IsQuiet, first}
use Rattle.protocol.specs.Committing.{Ballot, CommitKept, Committing, InVote, has_voted, in_vote, is_aside, is_asked, is_counted, is_done, is_undone}
use Rattle.protocol.specs.StatementCourse.{passes, passes_to}
use Rattle.protocol.specs.Desk.{Choice, Deed, Give_up, Idle, Known, Reading, Row, Rolled_back, Stage, Transition, Txn, Undecided, Unknown, Voting, Writing, are_all_in, counts, decides, desk_after, is_desk_within, is_named, is_short_txn, is_undecided, on_desk_letter, on_known, on_request, on_vote, stays, voters_of, votes_go}
use Rattle.protocol.specs.Language.{IsLawful, Lang, Name, same}
use Rattle.protocol.specs.AfterAbort.{EndKept, Ending, LeavingAt, Within}
use Rattle.protocol.specs.Letter.{Body, Letter, Vote, Yes, No, Read, Open, Fetch, Write, Prepare, Commit, Abort, Ticket, Rows, Refused, Voted, Ack, Inquire, is_for_desk}
use Rattle.protocol.specs.VisitPlaces.{at}
use Rattle.protocol.specs.World.{World, called, turned, turns}
use Rattle.protocol.proofs.AtSite.{head_is}
use Rattle.protocol.proofs.Basics.{Every, clash, either, put_all, same_law}
use Rattle.protocol.proofs.Committing.{commit_ends, commit_goes_on, commit_starts}
use Rattle.protocol.proofs.Ended.{by_site, ending_goes_on, ending_quiet, in_front}
use Rattle.protocol.proofs.AfterAbort.{NoEnd, leaving_lost}
use Rattle.protocol.proofs.Limits.{OfTheEnd, called_within, next_within, turn_within}
use Rattle.protocol.proofs.Locks.{Once}
use Rattle.desk.specs.Database.{Database, language}
use Rattle.desk.specs.Place.{Place}
use Rattle.protocol.specs.Delivery.{AllFounded, Coming, FirstIsFounded, IsFounded, Passed_over, Taken, Turned_away, all_come, come, first_comes}
use Rattle.meaning.specs.Whole.{Relations}
use Rattle.protocol.specs.Desk.{Aborted, Commit_call, Committed, Phased, Rollback}
use Rattle.protocol.proofs.Loose.{rollback_ends, steady_loose}
use Rattle.desk.specs.declared.reply.Notice.{Notice}
use Rattle.world.specs.Mailbox.{Serves, To_do}
use Rattle.world.specs.Client.{IsServed}
use Rattle.world.specs.Smoothly.{IsReady, rests}
use Rattle.world.proofs.Smoothly.{fit_within}
use Rattle.world.specs.Machines.{Machines}
use Rattle.world.proofs.CallsKept.{end_kept}
use Rattle.world.proofs.Reasoned.{end_passes}
use Rattle.world.proofs.Sited.{Sited, called_sited, come_sited, first_is_sited, not_passed, steady_sited}

module _ {L : Lang} where
  -- ---- a transaction that has ended can't be given up
  gives_up_none : (t : Name) (choice : Choice L) (x : Txn L) → is_undecided x ≡ false → on_request t choice Give_up x ≡ stays x
  gives_up_none t choice Unknown none = refl
  gives_up_none t choice (Row voters acked) none = refl
  gives_up_none t choice (Known u) none = let e : true ≡ false = none in cc

  pub ended_gives_up : (t : Name) (w : World L) (choice : Choice L) (deeds : List (Deed L)) → Ending deeds w → Ending deeds (called w t choice Give_up)
  ended_gives_up t w choice deeds ending =
      let x = w.desk.txn t in
      subst (λ (turn : Transition L). Ending deeds (turns w t turn)) (sym (gives_up_none t choice x (ending.decided t)))
      (either (Ending deeds) (is_desk_within (desk_after w.desk t x)) (turned w t (stays x)) w (record {
        decided = put_all same same_law t x w.desk.txn (λ j y. is_undecided y ≡ false) (ending.decided t) (λ j other. ending.decided j);
        leaving = λ a. subst (λ z. LeavingAt (λ k. ⊥) (w.sites a).status (at a z)) (sym (append-nil w.letters)) (ending.leaving a);
        past = append-nil w.past ∙ ending.past;
      }) ending)

  -- ---- a vote meets no limit
  abbrev Calms : Txn L → Txn L → Type 0
  Calms x y = (is_short_txn x ≡ true → is_short_txn y ≡ true) × (is_undecided y ≡ true → is_undecided x ≡ true)

  module _ (t : Name) (u : Undecided L) (a : L.Site) (kept : Bool) where
    abbrev Calm : Transition L → Type 0
    Calm turn = Calms (Known u) turn.txn

    stays_calm : Calm (stays (Known u))
    stays_calm = (λ is. is, λ is. is)

    decided_calm : (votes : L.Site → Option Vote) (voters : List (L.Site × Name)) → Calm (decides t (record u { stage = Voting votes }) kept voters)
    decided_calm votes [] = either Calm (kept || not u.moves) _ _ (λ is. refl, λ is. refl) (λ is. refl, λ is. refl)
    decided_calm votes (v ∷ voters) = either Calm kept _ _ (λ is. refl, λ is. refl) (λ is. refl, λ is. refl)

    votes_calm : (votes : L.Site → Option Vote) → Calm (votes_go t u votes kept)
    votes_calm votes = either Calm (are_all_in u votes) _ _ (decided_calm votes (voters_of u votes)) (λ is. is, λ is. refl)

    counts_calm : (votes : L.Site → Option Vote) (x : Vote) → Calm (counts t u a votes kept x)
    counts_calm votes Yes = votes_calm _
    counts_calm votes Read = votes_calm _
    counts_calm votes No = (λ is. refl, λ is. refl)

    vote_calm : (x : Vote) (stage : Stage L) → Calm (on_vote t u a kept x stage)
    vote_calm x Idle = stays_calm
    vote_calm x (Reading s asks) = stays_calm
    vote_calm x (Writing answer ws) = stays_calm
    vote_calm x (Voting votes) = either Calm (is_none (votes a)) _ _ (counts_calm votes x) stays_calm

    known_calm : (choice : Choice L) (k : Name) (x : Vote) → Calm (on_known t u a kept choice (Voted k x))
    known_calm choice k x = either Calm (is_named (u.ticket a) k) _ _ (vote_calm x u.stage) stays_calm

  -- any coordinator within its limits takes a vote
  vote_taken : (w : World L) (kept : Bool) (choice : Choice L) (l : Letter L) (k : Name) (x : Vote) (u : Undecided L) → l.body ≡ Voted k x → w.desk.txn l.txn ≡ Known u → is_desk_within w.desk ≡ true → passes w kept choice l ≡ true
  vote_taken w kept choice l k x u is known within =
      let turn = on_known l.txn u l.site kept choice (Voted k x) in
      let calms = subst (λ (y : Txn L). Calms y turn.txn) (sym known) (known_calm l.txn u l.site kept choice k x) in
      subst (λ (b : Bool). passes_to b w kept choice l ≡ true) (sym (ap is_for_desk is))
      (subst (λ (c : Body L). is_desk_within (desk_after w.desk l.txn (on_desk_letter l.txn l.site kept choice c (w.desk.txn l.txn)).txn) ≡ true) (sym is)
      (subst (λ (y : Txn L). is_desk_within (desk_after w.desk l.txn (on_desk_letter l.txn l.site kept choice (Voted k x) y).txn) ≡ true) (sym known)
      (turn_within w.desk l.txn turn.txn calms.0 calms.1 within)))

-- ---- no ballot is turned away
module _ (db : Database) where
  abbrev L : Lang
  L = language db

  -- whether it is a ballot
  abbrev IsBallot : Body L → Type 0
  IsBallot (Prepare k n) = Unit {0}
  IsBallot (Voted k x) = Unit {0}
  IsBallot said = ⊥

  ballot_taken : (w : World L) (l : Letter L) (choice : Choice L) → Within w → IsFounded w (Turned_away choice) l → IsBallot l.body → (is_for_desk l.body ≡ true → (other : Choice L) → passes w true other l ≡ true) → ⊥
  ballot_taken w l choice within limit is goes = go l.body refl is
    where
      go : (c : Body L) → l.body ≡ c → IsBallot c → ⊥
      go (Prepare k n) e ballot = clash (end_passes w true limit.choice l (within.sites l.site) (subst OfTheEnd (sym e) tt)) limit.past
      go (Voted k x) e ballot = clash (goes (ap is_for_desk e) limit.choice) limit.past
      go Open e ballot = ballot
      go (Fetch k op g q) e ballot = ballot
      go (Write k op g x) e ballot = ballot
      go (Commit k) e ballot = ballot
      go (Abort k) e ballot = ballot
      go (Ticket k) e ballot = ballot
      go (Rows k n rows) e ballot = ballot
      go (Refused k reason) e ballot = ballot
      go (Ack k) e ballot = ballot
      go (Inquire k) e ballot = ballot

  -- no Commit and no Abort is turned away
  pub turned_no_end : (w : World L) (l : Letter L) (choice : Choice L) → Within w → IsFounded w (Turned_away choice) l → NoEnd l.body
  turned_no_end w l choice within limit = go l.body refl
    where
      go : (c : Body L) → l.body ≡ c → NoEnd c
      go (Commit k) e = clash (end_passes w true limit.choice l (within.sites l.site) (subst OfTheEnd (sym e) tt)) limit.past
      go (Abort k) e = clash (end_passes w true limit.choice l (within.sites l.site) (subst OfTheEnd (sym e) tt)) limit.past
      go Open e = tt
      go (Fetch k op g q) e = tt
      go (Write k op g x) e = tt
      go (Prepare k n) e = tt
      go (Ticket k) e = tt
      go (Rows k n rows) e = tt
      go (Refused k reason) e = tt
      go (Voted k x) e = tt
      go (Ack k) e = tt
      go (Inquire k) e = tt

  module _ (law : IsLawful L) (once : Once L.sites) where
    -- ---- the letters of what has ended
    pub ending_lost : (deeds : List (Deed L)) (w : World L) (l : Letter L) (q : List (Letter L)) → w.letters ≡ l ∷ q → NoEnd l.body → Ending deeds w → Ending deeds (record w { letters = q })
    ending_lost deeds w l q e none ending = record {
      decided = ending.decided;
      leaving = by_site law (λ a bs. LeavingAt (λ k. ⊥) (w.sites a).status bs) l q (leaving_lost (λ k. ⊥) (w.sites l.site).status l.body (at l.site q) none) (λ a. subst (λ (x : List (Letter L)). LeavingAt (λ k. ⊥) (w.sites a).status (at a x)) e (ending.leaving a));
      past = ending.past;
    }

    pub lost_within : (w : World L) (q : List (Letter L)) → Within w → Within (record w { letters = q })
    lost_within w q within = record { desk = within.desk; sites = within.sites }

    pub kept_end_of : (w : World L) (kept : Bool) (choice : Choice L) (l : Letter L) → IsFounded w (Taken kept choice) l → EndKept kept l.body
    kept_end_of w kept choice l founded = end_kept kept l.body founded.1

    module _ (deeds : List (Deed L)) where
      one_ended : (w : World L) (c : Coming L) (letters : List (Letter L)) → w.letters ≡ letters → Within w → Sited w → FirstIsFounded w c letters → Ending deeds w → Within (first_comes w c letters) × Ending deeds (first_comes w c letters)
      one_ended w c [] e within sited founded here = (within, here)
      one_ended w (Taken kept choice) (l ∷ q) e within sited founded here = (
        subst (λ (letters : List (Letter L)). Within (first w kept choice letters)) e (next_within law w kept choice within),
        subst (λ (letters : List (Letter L)). Ending deeds (first w kept choice letters)) e (ending_goes_on law deeds w l q e here law.touches_none within kept choice (kept_end_of w kept choice l founded)),
      )
      one_ended w (Turned_away choice) (l ∷ q) e within sited founded here = (
        called_within (record w { letters = q }) l.txn choice Give_up (lost_within w q within),
        ended_gives_up l.txn (record w { letters = q }) choice deeds (ending_lost deeds w l q e (turned_no_end w l choice within founded) here),
      )
      one_ended w Passed_over (l ∷ q) e within sited founded here = absurd (not_passed db law w l (first_is_sited w l q e sited) founded)

      all_ended : (cs : List (Coming L)) (w : World L) → Within w → Sited w → AllFounded cs w → Ending deeds w → Ending deeds (all_come cs w)
      all_ended [] w within sited founded here = here
      all_ended (c ∷ cs) w within sited founded here =
          let one = one_ended w c w.letters refl within sited founded.0 here in
          all_ended cs (come w c) one.0 (come_sited law w c w.letters refl sited) founded.1 one.1

    -- ---- the letters of a commit
    commit_kept : (kept : Bool) (c : Body L) → EndKept kept c → CommitKept (Unit {0}) kept c
    commit_kept kept (Prepare k n) keeps = inr tt
    commit_kept kept (Voted k x) keeps = inr tt
    commit_kept kept (Commit k) keeps = keeps
    commit_kept kept (Abort k) keeps = keeps
    commit_kept kept Open keeps = tt
    commit_kept kept (Fetch k op g q) keeps = tt
    commit_kept kept (Write k op g x) keeps = tt
    commit_kept kept (Ticket k) keeps = tt
    commit_kept kept (Rows k n rows) keeps = tt
    commit_kept kept (Refused k reason) keeps = tt
    commit_kept kept (Ack k) keeps = tt
    commit_kept kept (Inquire k) keeps = tt

    module _ (txn : Name) (before : List (Deed L)) where
      abbrev Commits : World L → Type 0
      Commits w = Committing (Unit {0}) txn before w

      -- no ballot is turned away while votes are awaited
      not_turned : (w : World L) (l : Letter L) (q : List (Letter L)) → w.letters ≡ l ∷ q → Within w → (choice : Choice L) → IsFounded w (Turned_away choice) l → InVote (Unit {0}) txn before w → ⊥
      not_turned w l q e within choice founded vote = by_ballot (subst (Ballot (Unit {0}) (w.sites l.site).status (vote.u.visited l.site) (vote.u.ticket l.site) (vote.votes l.site)) (ap (at l.site) e ∙ in_front law l q) (vote.ballots l.site))
        where
          own : l.txn ≡ txn
          own = (subst (Every (λ (x : Letter L). x.txn ≡ txn)) e vote.alone).0

          by_ballot : Ballot (Unit {0}) (w.sites l.site).status (vote.u.visited l.site) (vote.u.ticket l.site) (vote.votes l.site) (l.body ∷ at l.site q) → ⊥
          by_ballot (is_aside unvisited none silent free) = let f : l.body ∷ at l.site q ≡ [] = silent in cc
          by_ballot (is_counted k x visited mine is silent by) = let f : l.body ∷ at l.site q ≡ [] = silent in cc
          by_ballot (is_asked k visit visited mine none waits active free) =
              let is : l.body ≡ Prepare k visit.done = head_is l.body (Prepare k visit.done) (at l.site q) [] waits in
              ballot_taken w l choice within founded (subst IsBallot (sym is) tt) (λ to_desk other. (let f : false ≡ true = sym (ap is_for_desk is) ∙ to_desk in cc))
          by_ballot (has_voted k x visited mine none waits by) =
              let is : l.body ≡ Voted k x = head_is l.body (Voted k x) (at l.site q) [] waits in
              ballot_taken w l choice within founded (subst IsBallot (sym is) tt) (λ to_desk other. vote_taken w true other l k x vote.u is (ap w.desk.txn own ∙ vote.known) within.desk)

      given_up : (w : World L) (l : Letter L) (q : List (Letter L)) → w.letters ≡ l ∷ q → Within w → (choice : Choice L) → IsFounded w (Turned_away choice) l → Commits w → Commits (called (record w { letters = q }) l.txn choice Give_up)
      given_up w l q e within choice founded (in_vote vote) = absurd (not_turned w l q e within choice founded vote)
      given_up w l q e within choice founded (is_done ending) = is_done (ended_gives_up l.txn (record w { letters = q }) choice (before ++ Phased txn ∷ Committed txn ∷ []) (ending_lost (before ++ Phased txn ∷ Committed txn ∷ []) w l q e (turned_no_end w l choice within founded) ending))
      given_up w l q e within choice founded (is_undone excuse why ending) = is_undone excuse why (ended_gives_up l.txn (record w { letters = q }) choice (before ++ Phased txn ∷ Aborted txn why ∷ []) (ending_lost (before ++ Phased txn ∷ Aborted txn why ∷ []) w l q e (turned_no_end w l choice within founded) ending))

      one_voted : (w : World L) (c : Coming L) (letters : List (Letter L)) → w.letters ≡ letters → Within w → Sited w → FirstIsFounded w c letters → Commits w → Within (first_comes w c letters) × Commits (first_comes w c letters)
      one_voted w c [] e within sited founded here = (within, here)
      one_voted w (Taken kept choice) (l ∷ q) e within sited founded here = (
        subst (λ (letters : List (Letter L)). Within (first w kept choice letters)) e (next_within law w kept choice within),
        subst (λ (letters : List (Letter L)). Commits (first w kept choice letters)) e (commit_goes_on law once (Unit {0}) txn before w l q e within kept choice (commit_kept kept l.body (kept_end_of w kept choice l founded)) here),
      )
      one_voted w (Turned_away choice) (l ∷ q) e within sited founded here = (called_within (record w { letters = q }) l.txn choice Give_up (lost_within w q within), given_up w l q e within choice founded here)
      one_voted w Passed_over (l ∷ q) e within sited founded here = absurd (not_passed db law w l (first_is_sited w l q e sited) founded)

      all_voted : (cs : List (Coming L)) (w : World L) → Within w → Sited w → AllFounded cs w → Commits w → Commits (all_come cs w)
      all_voted [] w within sited founded here = here
      all_voted (c ∷ cs) w within sited founded here =
          let one = one_voted w c w.letters refl within sited founded.0 here in
          all_voted cs (come w c) one.0 (come_sited law w c w.letters refl sited) founded.1 one.1

    -- ---- calls
    module _ (fits : Place → Content → Bool) (whole : Relations) (before after : Machines) (past : List (Deed L)) (txn : Name) (choice : Choice L) (heard : List Notice) (ready : IsReady db fits txn before past) where
      abbrev here : World L
      here = rests db before past

      pub quiet_after_rollback : (served : IsServed db whole before past) (serves : Serves db (To_do txn Rollback choice) before after heard) → IsQuiet (rests db after (past ++ serves.deeds))
      quiet_after_rollback served serves =
          let within = fit_within db before [] past served.fit in
          let deeds = past ++ Rolled_back txn ∷ [] in
          let ended = all_ended deeds serves.comings (called here txn choice Rollback) (called_within here txn choice Rollback within) (called_sited here txn choice Rollback (steady_sited txn here ready.steady)) (serves.founded past)
          (rollback_ends law once txn past here choice (steady_loose txn here ready.steady) within) in
          ending_quiet law deeds (rests db after (past ++ serves.deeds)) (subst (Ending deeds) (serves.is past) ended) refl

      pub quiet_after_commit : (served : IsServed db whole before past) (serves : Serves db (To_do txn Commit_call choice) before after heard) → IsQuiet (rests db after (past ++ serves.deeds))
      quiet_after_commit served serves =
          let within = fit_within db before [] past served.fit in
          let committing = all_voted txn past serves.comings (called here txn choice Commit_call) (called_within here txn choice Commit_call within) (called_sited here txn choice Commit_call (steady_sited txn here ready.steady)) (serves.founded past)
          (commit_starts law once (Unit {0}) txn past here ready.steady choice within refl) in
          (commit_ends law once (Unit {0}) txn past (rests db after (past ++ serves.deeds)) (subst (Committing (Unit {0}) txn past) (serves.is past) committing) refl).0

-- The coordinator's rules seen as a list of turns: each with the request or the letter that it comes of, and the reason for it.
use Rattle.std.proofs.Common.{◌≡◌, refl, ap, ℕ, ◌&&◌, not, Bool, true, false, List, [], ◌∷◌, ◌++◌, map, Option, Some, None, is_some, is_none}
use Rattle.std.specs.List.{list_all, list_any}
use Rattle.protocol.specs.Language.{Lang, Name, same, put}
use Rattle.protocol.specs.Letter.{Vote, Yes, No, Read, Reason, Body, Open, Fetch, Write, Prepare, Commit, Abort, Ticket, Rows, Refused, Voted, Ack, Inquire}
use Rattle.protocol.specs.Desk.{Ask, Stage, Idle, Reading, Writing, Voting, Undecided, Txn, Unknown, Known, Row, Choice, Stated, Aborted, Rolled_back, By_vote, By_refusal, Given_up, Transition, Request, State, Commit_call, Rollback, Give_up, stays, ask_of, is_named, is_pair, are_acked, after_deed, states, asks_go, writes_go, works, ends_by, phases, votes_go, on_state, on_commit_call, on_rollback, on_request, ticket_goes, on_ticket, with_rows, on_rows, on_refused, counts, on_vote, on_known, on_unknown, on_ack, on_row, on_desk_letter}
use Rattle.protocol.specs.Parts.{is_voting}
use Rattle.protocol.proofs.Basics.{either, either_if, same_law}

pub named_is : (m : Option Name) (k : Name) → is_named m k ≡ true → m ≡ Some k
named_is None k e = cc
named_is (Some j) k e = ap Some ((same_law j k).0 e)

-- what a turn comes of: a request of the client, or a letter from a site
pub data Cause (L : Lang) : Type 0 where
  asked : (request : Request L) → Cause L
  came : (site : L.Site) (kept : Bool) (body : Body L) → Cause L

-- an undecided transaction with a first ticket of a site
abbrev pub ticketed : {L : Lang} → Undecided L → L.Site → Name → Undecided L
ticketed {L} u a k = record u { ticket = put L.same_site a (Some k) u.ticket }

-- what a turn of transaction t can be
pub data Turned {L : Lang} (t : Name) (choice : Choice L) : Cause L → Txn L → Transition L → Type 0 where
  rests : (c : Cause L) (x : Txn L) → Turned t choice c x (stays x)
  accepts : (u : Undecided L) (s : L.Statement) → u.stage ≡ Idle → Turned t choice (asked (State s)) (Known u) (after_deed (Stated t s) (states t u s (map ask_of (L.fetches s)) choice))
  begins_phase : (u : Undecided L) → u.stage ≡ Idle → Turned t choice (asked Commit_call) (Known u) (phases t u)
  rolls_back : (u : Undecided L) → is_voting u.stage ≡ false → Turned t choice (asked Rollback) (Known u) (ends_by t u (Rolled_back t))
  is_given_up : (u : Undecided L) → Turned t choice (asked Give_up) (Known u) (ends_by t u (Aborted t Given_up))
  takes_ticket : (u : Undecided L) (a : L.Site) (kept : Bool) (k : Name) → u.ticket a ≡ None → Turned t choice (came a kept (Ticket k)) (Known u) (stays (Known (ticketed u a k)))
  fetches : (u : Undecided L) (a : L.Site) (kept : Bool) (k : Name) (s : L.Statement) (asks : List (Ask L)) → u.ticket a ≡ None → u.stage ≡ Reading s asks → Turned t choice (came a kept (Ticket k)) (Known u) (asks_go t (ticketed u a k) s asks)
  writes : (u : Undecided L) (a : L.Site) (kept : Bool) (k : Name) (answer : L.Answer) (ws : List (L.Leaf × L.Write)) → u.ticket a ≡ None → u.stage ≡ Writing answer ws → Turned t choice (came a kept (Ticket k)) (Known u) (writes_go t (ticketed u a k) answer ws)
  turns_away : (u : Undecided L) (a : L.Site) (kept : Bool) (k j : Name) → u.ticket a ≡ Some j → same j k ≡ false → Turned t choice (came a kept (Ticket k)) (Known u) (record { txn = Known u; letters = record { site = a; txn = t; body = Abort k } ∷ []; deeds = [] })
  takes_rows : (u : Undecided L) (a : L.Site) (kept : Bool) (k : Name) (n : ℕ) (rows : L.Rows) (s : L.Statement) (asks : List (Ask L)) → u.ticket a ≡ Some k → u.stage ≡ Reading s asks →
      Turned t choice (came a kept (Rows k n rows)) (Known u) (stays (Known (record u { stage = Reading s (map (with_rows s a n rows) asks) })))
  evaluates : (u : Undecided L) (a : L.Site) (kept : Bool) (k : Name) (n : ℕ) (rows : L.Rows) (s : L.Statement) (asks : List (Ask L)) → u.ticket a ≡ Some k → u.stage ≡ Reading s asks → list_all (λ q. is_some q.rows) (map (with_rows s a n rows) asks) ≡ true →
      Turned t choice (came a kept (Rows k n rows)) (Known u) (works t u s (map (with_rows s a n rows) asks) choice)
  is_refused : (u : Undecided L) (a : L.Site) (kept : Bool) (k : Name) (reason : Reason) → u.ticket a ≡ Some k → is_voting u.stage ≡ false → Turned t choice (came a kept (Refused k reason)) (Known u) (ends_by t u (Aborted t By_refusal))
  counts_no : (u : Undecided L) (a : L.Site) (kept : Bool) (k : Name) (votes : L.Site → Option Vote) → u.ticket a ≡ Some k → u.stage ≡ Voting votes →
      Turned t choice (came a kept (Voted k No)) (Known u) (ends_by t (record u { stage = Voting (put L.same_site a (Some No) votes) }) (Aborted t By_vote))
  counts_vote : (u : Undecided L) (a : L.Site) (kept : Bool) (k : Name) (x : Vote) (votes : L.Site → Option Vote) → u.ticket a ≡ Some k → u.stage ≡ Voting votes → ((x ≡ No) → ⊥) →
      Turned t choice (came a kept (Voted k x)) (Known u) (votes_go t u (put L.same_site a (Some x) votes) kept)
  presumes_abort : (a : L.Site) (kept : Bool) (k : Name) → Turned t choice (came a kept (Ticket k)) Unknown (record { txn = Unknown; letters = record { site = a; txn = t; body = Abort k } ∷ []; deeds = [] })
  tells_abort : (a : L.Site) (kept : Bool) (k : Name) → Turned t choice (came a kept (Inquire k)) Unknown (record { txn = Unknown; letters = record { site = a; txn = t; body = Abort k } ∷ []; deeds = [] })
  tells_commit : (voters acked : List (L.Site × Name)) (a : L.Site) (kept : Bool) (k : Name) → Turned t choice (came a kept (Inquire k)) (Row voters acked) (record { txn = Row voters acked; letters = record { site = a; txn = t; body = Commit k } ∷ []; deeds = [] })
  counts_ack : (voters acked : List (L.Site × Name)) (a : L.Site) (kept : Bool) (k : Name) → Turned t choice (came a kept (Ack k)) (Row voters acked) (stays (Row voters (acked ++ (a, k) ∷ [])))
  lets_row_go : (voters acked : List (L.Site × Name)) (a : L.Site) (kept : Bool) (k : Name) → are_acked L voters (acked ++ (a, k) ∷ []) ≡ true → Turned t choice (came a kept (Ack k)) (Row voters acked) (stays Unknown)

module _ {L : Lang} (t : Name) (choice : Choice L) where
  stated : (s : L.Statement) (u : Undecided L) (stage : Stage L) → u.stage ≡ stage → Turned t choice (asked (State s)) (Known u) (on_state t u s choice stage)
  stated s u Idle e = accepts u s e
  stated s u (Reading r asks) e = rests (asked (State s)) (Known u)
  stated s u (Writing answer ws) e = rests (asked (State s)) (Known u)
  stated s u (Voting votes) e = rests (asked (State s)) (Known u)

  commit_called : (u : Undecided L) (stage : Stage L) → u.stage ≡ stage → Turned t choice (asked Commit_call) (Known u) (on_commit_call t u stage)
  commit_called u Idle e = begins_phase u e
  commit_called u (Reading r asks) e = rests (asked Commit_call) (Known u)
  commit_called u (Writing answer ws) e = rests (asked Commit_call) (Known u)
  commit_called u (Voting votes) e = rests (asked Commit_call) (Known u)

  rolled_back : (u : Undecided L) (stage : Stage L) → u.stage ≡ stage → Turned t choice (asked Rollback) (Known u) (on_rollback t u stage)
  rolled_back u Idle e = rolls_back u (ap is_voting e)
  rolled_back u (Reading r asks) e = rolls_back u (ap is_voting e)
  rolled_back u (Writing answer ws) e = rolls_back u (ap is_voting e)
  rolled_back u (Voting votes) e = rests (asked Rollback) (Known u)

  -- each request makes one of these turns
  pub request_turned : (request : Request L) (x : Txn L) → Turned t choice (asked request) x (on_request t choice request x)
  request_turned (State s) (Known u) = stated s u u.stage refl
  request_turned Commit_call (Known u) = commit_called u u.stage refl
  request_turned Rollback (Known u) = rolled_back u u.stage refl
  request_turned Give_up (Known u) = is_given_up u
  request_turned (State s) Unknown = rests (asked (State s)) Unknown
  request_turned Commit_call Unknown = rests (asked Commit_call) Unknown
  request_turned Rollback Unknown = rests (asked Rollback) Unknown
  request_turned Give_up Unknown = rests (asked Give_up) Unknown
  request_turned (State s) (Row voters acked) = rests (asked (State s)) (Row voters acked)
  request_turned Commit_call (Row voters acked) = rests (asked Commit_call) (Row voters acked)
  request_turned Rollback (Row voters acked) = rests (asked Rollback) (Row voters acked)
  request_turned Give_up (Row voters acked) = rests (asked Give_up) (Row voters acked)

  module _ (a : L.Site) (kept : Bool) where
    module _ (u : Undecided L) where
      same_ : (b : Body L) → Turned t choice (came a kept b) (Known u) (stays (Known u))
      same_ b = rests (came a kept b) (Known u)

      first_ticket : (k : Name) (stage : Stage L) → u.ticket a ≡ None → u.stage ≡ stage → Turned t choice (came a kept (Ticket k)) (Known u) (ticket_goes t (ticketed u a k) choice stage)
      first_ticket k Idle free e = takes_ticket u a kept k free
      first_ticket k (Reading s asks) free e = fetches u a kept k s asks free e
      first_ticket k (Writing answer ws) free e = writes u a kept k answer ws free e
      first_ticket k (Voting votes) free e = takes_ticket u a kept k free

      ticket_came : (k : Name) (m : Option Name) → u.ticket a ≡ m → Turned t choice (came a kept (Ticket k)) (Known u) (on_ticket t u a k choice m)
      ticket_came k None e = first_ticket k u.stage e refl
      ticket_came k (Some j) e = either_if (Turned t choice (came a kept (Ticket k)) (Known u)) (same j k) _ _ (λ is. same_ (Ticket k)) (λ other. turns_away u a kept k j e other)

      rows_came : (k : Name) (n : ℕ) (rows : L.Rows) (stage : Stage L) → u.ticket a ≡ Some k → u.stage ≡ stage → Turned t choice (came a kept (Rows k n rows)) (Known u) (on_rows t u a n rows choice stage)
      rows_came k n rows Idle own e = same_ (Rows k n rows)
      rows_came k n rows (Reading s asks) own e = either_if (Turned t choice (came a kept (Rows k n rows)) (Known u)) (list_all (λ q. is_some q.rows) (map (with_rows s a n rows) asks)) _ _
          (λ all. evaluates u a kept k n rows s asks own e all) (λ some. takes_rows u a kept k n rows s asks own e)
      rows_came k n rows (Writing answer ws) own e = same_ (Rows k n rows)
      rows_came k n rows (Voting votes) own e = same_ (Rows k n rows)

      refusal_came : (k : Name) (reason : Reason) (stage : Stage L) → u.ticket a ≡ Some k → u.stage ≡ stage → Turned t choice (came a kept (Refused k reason)) (Known u) (on_refused t u stage)
      refusal_came k reason Idle own e = is_refused u a kept k reason own (ap is_voting e)
      refusal_came k reason (Reading s asks) own e = is_refused u a kept k reason own (ap is_voting e)
      refusal_came k reason (Writing answer ws) own e = is_refused u a kept k reason own (ap is_voting e)
      refusal_came k reason (Voting votes) own e = same_ (Refused k reason)

      counted : (k : Name) (x : Vote) (votes : L.Site → Option Vote) → u.ticket a ≡ Some k → u.stage ≡ Voting votes → Turned t choice (came a kept (Voted k x)) (Known u) (counts t u a votes kept x)
      counted k Yes votes own e = counts_vote u a kept k Yes votes own e (λ is. cc)
      counted k No votes own e = counts_no u a kept k votes own e
      counted k Read votes own e = counts_vote u a kept k Read votes own e (λ is. cc)

      vote_came : (k : Name) (x : Vote) (stage : Stage L) → u.ticket a ≡ Some k → u.stage ≡ stage → Turned t choice (came a kept (Voted k x)) (Known u) (on_vote t u a kept x stage)
      vote_came k x Idle own e = same_ (Voted k x)
      vote_came k x (Reading s asks) own e = same_ (Voted k x)
      vote_came k x (Writing answer ws) own e = same_ (Voted k x)
      vote_came k x (Voting votes) own e = either (Turned t choice (came a kept (Voted k x)) (Known u)) (is_none (votes a)) _ _ (counted k x votes own e) (same_ (Voted k x))

      known_turned : (b : Body L) → Turned t choice (came a kept b) (Known u) (on_known t u a kept choice b)
      known_turned (Ticket k) = ticket_came k (u.ticket a) refl
      known_turned (Rows k n rows) = either_if (Turned t choice (came a kept (Rows k n rows)) (Known u)) (is_named (u.ticket a) k) _ _ (λ is. rows_came k n rows u.stage (named_is (u.ticket a) k is) refl) (λ other. same_ (Rows k n rows))
      known_turned (Refused k reason) = either_if (Turned t choice (came a kept (Refused k reason)) (Known u)) (is_named (u.ticket a) k) _ _ (λ is. refusal_came k reason u.stage (named_is (u.ticket a) k is) refl) (λ other. same_ (Refused k reason))
      known_turned (Voted k x) = either_if (Turned t choice (came a kept (Voted k x)) (Known u)) (is_named (u.ticket a) k) _ _ (λ is. vote_came k x u.stage (named_is (u.ticket a) k is) refl) (λ other. same_ (Voted k x))
      known_turned Open = same_ Open
      known_turned (Fetch k n g q) = same_ (Fetch k n g q)
      known_turned (Write k n g x) = same_ (Write k n g x)
      known_turned (Prepare k n) = same_ (Prepare k n)
      known_turned (Commit k) = same_ (Commit k)
      known_turned (Abort k) = same_ (Abort k)
      known_turned (Ack k) = same_ (Ack k)
      known_turned (Inquire k) = same_ (Inquire k)

    unknown_turned : (b : Body L) → Turned t choice (came a kept b) Unknown (on_unknown t a b)
    unknown_turned (Ticket k) = presumes_abort a kept k
    unknown_turned (Inquire k) = tells_abort a kept k
    unknown_turned Open = rests (came a kept Open) Unknown
    unknown_turned (Fetch k n g q) = rests (came a kept (Fetch k n g q)) Unknown
    unknown_turned (Write k n g x) = rests (came a kept (Write k n g x)) Unknown
    unknown_turned (Prepare k n) = rests (came a kept (Prepare k n)) Unknown
    unknown_turned (Commit k) = rests (came a kept (Commit k)) Unknown
    unknown_turned (Abort k) = rests (came a kept (Abort k)) Unknown
    unknown_turned (Rows k n rows) = rests (came a kept (Rows k n rows)) Unknown
    unknown_turned (Refused k reason) = rests (came a kept (Refused k reason)) Unknown
    unknown_turned (Voted k x) = rests (came a kept (Voted k x)) Unknown
    unknown_turned (Ack k) = rests (came a kept (Ack k)) Unknown

    module _ (voters acked : List (L.Site × Name)) where
      row_stays : (b : Body L) → Turned t choice (came a kept b) (Row voters acked) (stays (Row voters acked))
      row_stays b = rests (came a kept b) (Row voters acked)

      abbrev Acks : Name → Transition L → Type 0
      Acks k turn = Turned {L = L} t choice (came a kept (Ack k)) (Row voters acked) turn

      ack_came : (k : Name) → Acks k (on_ack voters acked (a, k) kept)
      ack_came k = either (Acks k) (list_any (is_pair L a k) voters && not (list_any (is_pair L a k) acked)) _ _
          (either_if (Acks k) (are_acked L voters (acked ++ (a, k) ∷ [])) _ _
          (λ all. either (Acks k) kept _ _ (lets_row_go voters acked a kept k all) (row_stays (Ack k)))
          (λ some. counts_ack voters acked a kept k))
          (row_stays (Ack k))

      row_turned : (b : Body L) → Turned t choice (came a kept b) (Row voters acked) (on_row t voters acked a kept b)
      row_turned (Ack k) = ack_came k
      row_turned (Inquire k) = tells_commit voters acked a kept k
      row_turned Open = row_stays Open
      row_turned (Fetch k n g q) = row_stays (Fetch k n g q)
      row_turned (Write k n g x) = row_stays (Write k n g x)
      row_turned (Prepare k n) = row_stays (Prepare k n)
      row_turned (Commit k) = row_stays (Commit k)
      row_turned (Abort k) = row_stays (Abort k)
      row_turned (Ticket k) = row_stays (Ticket k)
      row_turned (Rows k n rows) = row_stays (Rows k n rows)
      row_turned (Refused k reason) = row_stays (Refused k reason)
      row_turned (Voted k x) = row_stays (Voted k x)

    -- so does each letter from a site
    pub letter_turned : (b : Body L) (x : Txn L) → Turned t choice (came a kept b) x (on_desk_letter t a kept choice b x)
    letter_turned b (Known u) = known_turned u b
    letter_turned b Unknown = unknown_turned b
    letter_turned b (Row voters acked) = row_turned voters acked b

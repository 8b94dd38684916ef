-- Which steps show a first phase, and which a statement.
use Rattle.std.proofs.Common.{◌≡◌, refl, ap, ℕ, Bool, true, false, List, [], ◌∷◌, ◌++◌, Option, Some, None, is_some, is_none, if◌then◌else◌, map, not, ◌&&◌, ◌||◌}
use Rattle.std.specs.List.{flat_map, list_any, list_all}
use Rattle.protocol.specs.Accepted.{stated_of}
use Rattle.protocol.specs.Language.{Lang, Name, put, same}
use Rattle.protocol.specs.Desk.{Ask, Choice, Deed, Stated, Worked, Answered, Began, Phased, Committed, Aborted, Rolled_back, Desk, State, Commit_call, Give_up, Rollback, Idle, Known, Reading, Row, Stage, Transition, Txn, Undecided, Unknown, Voting, Writing, are_acked, are_all_in, ask_of, counts, decides, is_named, is_pair, on_ack, on_commit_call, on_desk_letter, on_known, on_refused, on_request, on_rollback, on_row, on_rows, on_state, on_ticket, on_unknown, on_vote, refusal, refusal_at, states, stays, ticket_goes, txn_restarted, visits, voters_of, votes_go, with_rows, works, writes_go, writes_out, writing, By_store, ends_by}
use Rattle.protocol.specs.Letter.{Vote, Yes, No, Read, Body, Open, Fetch, Write, Prepare, Commit, Abort, Ticket, Rows, Refused, Voted, Ack, Inquire, Letter}
use Rattle.protocol.specs.Serial.{phases_of}
use Rattle.protocol.proofs.Basics.{either}

-- neither a first phase nor a statement is shown
abbrev pub IsSilent : {L : Lang} → List (Deed L) → Type 0
IsSilent deeds = (phases_of deeds ≡ []) × (stated_of deeds ≡ [])

came_ack : (L : Lang) (voters acked : List (L.Site × Name)) (v : L.Site × Name) (kept : Bool) → IsSilent (on_ack {L = L} voters acked v kept).deeds
came_ack L voters acked v kept =
    let still : Transition L = stays (Row voters acked) in
    let last : Transition L = if kept then stays Unknown else still in
    let more : Transition L = stays (Row voters (acked ++ v ∷ [])) in
    either (λ (turn : Transition L). IsSilent turn.deeds) (list_any (is_pair L v.0 v.1) voters && not (list_any (is_pair L v.0 v.1) acked)) (if are_acked L voters (acked ++ v ∷ []) then last else more) still
    (either (λ (turn : Transition L). IsSilent turn.deeds) (are_acked L voters (acked ++ v ∷ [])) last more (either (λ (turn : Transition L). IsSilent turn.deeds) kept (stays Unknown) still (refl, refl) (refl, refl)) (refl, refl)) (refl, refl)

module _ {L : Lang} (t : Name) where
  written : (u : Undecided L) (answer : L.Answer) (sent : L.Site → ℕ) (ws : List (L.Leaf × L.Write)) (letters : List (Letter L)) → IsSilent (writing t u answer sent ws letters).deeds
  written u answer sent [] letters = (refl, refl)
  written u answer sent (w ∷ ws) letters = (refl, refl)

  writes_gone : (u : Undecided L) (answer : L.Answer) (ws : List (L.Leaf × L.Write)) → IsSilent (writes_go t u answer ws).deeds
  writes_gone u answer ws =
      let out = writes_out t u.ticket ws u.sent in
      written u answer out.sent out.left out.letters

  worked : (u : Undecided L) (s : L.Statement) (asks : List (Ask L)) (choice : Choice L) → IsSilent (works t u s asks choice).deeds
  worked u s asks choice = writes_gone (visits u (map (λ w. w.0) choice.1)) choice.0 choice.1

  decided : (u : Undecided L) (kept : Bool) (voters : List (L.Site × Name)) → IsSilent (decides t u kept voters).deeds
  decided u kept [] = either (λ (turn : Transition L). IsSilent turn.deeds) (kept || not u.moves) (record { txn = Unknown; letters = []; deeds = Committed t ∷ [] }) (ends_by t u (Aborted t By_store)) (refl, refl) (refl, refl)
  decided u true (v ∷ vs) = (refl, refl)
  decided u false (v ∷ vs) = (refl, refl)

  voted : (u : Undecided L) (votes : L.Site → Option Vote) (kept : Bool) → IsSilent (votes_go t u votes kept).deeds
  voted u votes kept = either (λ (turn : Transition L). IsSilent turn.deeds) (are_all_in u votes) (decides t (record u { stage = Voting votes }) kept (voters_of u votes)) (stays (Known (record u { stage = Voting votes }))) (decided (record u { stage = Voting votes }) kept (voters_of u votes)) (refl, refl)

  ticketed : (u : Undecided L) (choice : Choice L) (stage : Stage L) → IsSilent (ticket_goes t u choice stage).deeds
  ticketed u choice Idle = (refl, refl)
  ticketed u choice (Reading s asks) = (refl, refl)
  ticketed u choice (Writing answer ws) = writes_gone u answer ws
  ticketed u choice (Voting votes) = (refl, refl)

  came_ticket : (u : Undecided L) (a : L.Site) (k : Name) (choice : Choice L) (ticket : Option Name) → IsSilent (on_ticket t u a k choice ticket).deeds
  came_ticket u a k choice None = ticketed (record u { ticket = put L.same_site a (Some k) u.ticket }) choice u.stage
  came_ticket u a k choice (Some j) = either (λ (turn : Transition L). IsSilent turn.deeds) (same j k) (stays (Known u)) (record { txn = Known u; letters = record { site = a; txn = t; body = Abort k } ∷ []; deeds = [] }) (refl, refl) (refl, refl)

  came_rows : (u : Undecided L) (a : L.Site) (n : ℕ) (rows : L.Rows) (choice : Choice L) (stage : Stage L) → IsSilent (on_rows t u a n rows choice stage).deeds
  came_rows u a n rows choice Idle = (refl, refl)
  came_rows u a n rows choice (Writing answer ws) = (refl, refl)
  came_rows u a n rows choice (Voting votes) = (refl, refl)
  came_rows u a n rows choice (Reading s asks) =
      let now = map (with_rows s a n rows) asks in
      either (λ (turn : Transition L). IsSilent turn.deeds) (list_all (λ q. is_some q.rows) now) (works t u s now choice) (stays (Known (record u { stage = Reading s now }))) (worked u s now choice) (refl, refl)

  came_refused : (u : Undecided L) (stage : Stage L) → IsSilent (on_refused t u stage).deeds
  came_refused u Idle = (refl, refl)
  came_refused u (Reading s asks) = (refl, refl)
  came_refused u (Writing answer ws) = (refl, refl)
  came_refused u (Voting votes) = (refl, refl)

  counted : (u : Undecided L) (a : L.Site) (votes : L.Site → Option Vote) (kept : Bool) (vote : Vote) → IsSilent (counts t u a votes kept vote).deeds
  counted u a votes kept No = (refl, refl)
  counted u a votes kept Yes = voted u (put L.same_site a (Some Yes) votes) kept
  counted u a votes kept Read = voted u (put L.same_site a (Some Read) votes) kept

  came_vote : (u : Undecided L) (a : L.Site) (kept : Bool) (vote : Vote) (stage : Stage L) → IsSilent (on_vote t u a kept vote stage).deeds
  came_vote u a kept vote Idle = (refl, refl)
  came_vote u a kept vote (Reading s asks) = (refl, refl)
  came_vote u a kept vote (Writing answer ws) = (refl, refl)
  came_vote u a kept vote (Voting votes) = either (λ (turn : Transition L). IsSilent turn.deeds) (is_none (votes a)) (counts t u a votes kept vote) (stays (Known u)) (counted u a votes kept vote) (refl, refl)

  came_known : (u : Undecided L) (a : L.Site) (kept : Bool) (choice : Choice L) (body : Body L) → IsSilent (on_known t u a kept choice body).deeds
  came_known u a kept choice Open = (refl, refl)
  came_known u a kept choice (Fetch k n g q) = (refl, refl)
  came_known u a kept choice (Write k n g x) = (refl, refl)
  came_known u a kept choice (Prepare k n) = (refl, refl)
  came_known u a kept choice (Commit k) = (refl, refl)
  came_known u a kept choice (Abort k) = (refl, refl)
  came_known u a kept choice (Ticket k) = came_ticket u a k choice (u.ticket a)
  came_known u a kept choice (Rows k n rows) = either (λ (turn : Transition L). IsSilent turn.deeds) (is_named (u.ticket a) k) (on_rows t u a n rows choice u.stage) (stays (Known u)) (came_rows u a n rows choice u.stage) (refl, refl)
  came_known u a kept choice (Refused k reason) = either (λ (turn : Transition L). IsSilent turn.deeds) (is_named (u.ticket a) k) (on_refused t u u.stage) (stays (Known u)) (came_refused u u.stage) (refl, refl)
  came_known u a kept choice (Voted k vote) = either (λ (turn : Transition L). IsSilent turn.deeds) (is_named (u.ticket a) k) (on_vote t u a kept vote u.stage) (stays (Known u)) (came_vote u a kept vote u.stage) (refl, refl)
  came_known u a kept choice (Ack k) = (refl, refl)
  came_known u a kept choice (Inquire k) = (refl, refl)

  came_unknown : (a : L.Site) (body : Body L) → IsSilent (on_unknown t a body).deeds
  came_unknown a Open = (refl, refl)
  came_unknown a (Fetch k n g q) = (refl, refl)
  came_unknown a (Write k n g x) = (refl, refl)
  came_unknown a (Prepare k n) = (refl, refl)
  came_unknown a (Commit k) = (refl, refl)
  came_unknown a (Abort k) = (refl, refl)
  came_unknown a (Ticket k) = (refl, refl)
  came_unknown a (Rows k n rows) = (refl, refl)
  came_unknown a (Refused k reason) = (refl, refl)
  came_unknown a (Voted k vote) = (refl, refl)
  came_unknown a (Ack k) = (refl, refl)
  came_unknown a (Inquire k) = (refl, refl)

  came_row : (voters acked : List (L.Site × Name)) (a : L.Site) (kept : Bool) (body : Body L) → IsSilent (on_row t voters acked a kept body).deeds
  came_row voters acked a kept Open = (refl, refl)
  came_row voters acked a kept (Fetch k n g q) = (refl, refl)
  came_row voters acked a kept (Write k n g x) = (refl, refl)
  came_row voters acked a kept (Prepare k n) = (refl, refl)
  came_row voters acked a kept (Commit k) = (refl, refl)
  came_row voters acked a kept (Abort k) = (refl, refl)
  came_row voters acked a kept (Ticket k) = (refl, refl)
  came_row voters acked a kept (Rows k n rows) = (refl, refl)
  came_row voters acked a kept (Refused k reason) = (refl, refl)
  came_row voters acked a kept (Voted k vote) = (refl, refl)
  came_row voters acked a kept (Ack k) = came_ack L voters acked (a, k) kept
  came_row voters acked a kept (Inquire k) = (refl, refl)

  -- a letter of a site shows neither
  pub came_silent : (a : L.Site) (kept : Bool) (choice : Choice L) (body : Body L) (txn : Txn L) → IsSilent (on_desk_letter t a kept choice body txn).deeds
  came_silent a kept choice body (Known u) = came_known u a kept choice body
  came_silent a kept choice body Unknown = came_unknown a body
  came_silent a kept choice body (Row voters acked) = came_row voters acked a kept body

  at_rollback : (u : Undecided L) (stage : Stage L) → IsSilent (on_rollback t u stage).deeds
  at_rollback u Idle = (refl, refl)
  at_rollback u (Reading s asks) = (refl, refl)
  at_rollback u (Writing answer ws) = (refl, refl)
  at_rollback u (Voting votes) = (refl, refl)

  -- nor does a rollback or a giving up
  pub rollback_silent : (choice : Choice L) (txn : Txn L) → IsSilent (on_request t choice Rollback txn).deeds
  rollback_silent choice Unknown = (refl, refl)
  rollback_silent choice (Known u) = at_rollback u u.stage
  rollback_silent choice (Row voters acked) = (refl, refl)

  pub give_up_silent : (choice : Choice L) (txn : Txn L) → IsSilent (on_request t choice Give_up txn).deeds
  give_up_silent choice Unknown = (refl, refl)
  give_up_silent choice (Known u) = (refl, refl)
  give_up_silent choice (Row voters acked) = (refl, refl)

  -- a commit that is accepted shows the first phase
  at_commit : (u : Undecided L) (stage : Stage L) → refusal_at Commit_call stage ≡ None → (phases_of (on_commit_call t u stage).deeds ≡ t ∷ []) × (stated_of (on_commit_call t u stage).deeds ≡ [])
  at_commit u Idle accepted =
      let silent = voted u (λ a. None) true in
      (ap (λ rest. t ∷ rest) silent.0, silent.1)
  at_commit u (Reading s asks) accepted = absurd cc
  at_commit u (Writing answer ws) accepted = absurd cc
  at_commit u (Voting votes) accepted = absurd cc

  pub commit_shows : (choice : Choice L) (txn : Txn L) → refusal Commit_call txn ≡ None → (phases_of (on_request t choice Commit_call txn).deeds ≡ t ∷ []) × (stated_of (on_request t choice Commit_call txn).deeds ≡ [])
  commit_shows choice Unknown accepted = absurd cc
  commit_shows choice (Known u) accepted = at_commit u u.stage accepted
  commit_shows choice (Row voters acked) accepted = absurd cc

  -- a statement that is accepted is shown
  stated_so : (u : Undecided L) (s : L.Statement) (choice : Choice L) (asks : List (Ask L)) → IsSilent (states t u s asks choice).deeds
  stated_so u s choice [] = worked u s [] choice
  stated_so u s choice (q ∷ qs) = (refl, refl)

  at_state : (u : Undecided L) (s : L.Statement) (choice : Choice L) (stage : Stage L) → refusal_at (State s) stage ≡ None → (phases_of (on_state t u s choice stage).deeds ≡ []) × (stated_of (on_state t u s choice stage).deeds ≡ (t, s) ∷ [])
  at_state u s choice Idle accepted =
      let silent = stated_so u s choice (map ask_of (L.fetches s)) in
      (silent.0, ap (λ rest. (t, s) ∷ rest) silent.1)
  at_state u s choice (Reading r asks) accepted = absurd cc
  at_state u s choice (Writing answer ws) accepted = absurd cc
  at_state u s choice (Voting votes) accepted = absurd cc

  pub state_shows : (s : L.Statement) (choice : Choice L) (txn : Txn L) → refusal (State s) txn ≡ None → (phases_of (on_request t choice (State s) txn).deeds ≡ []) × (stated_of (on_request t choice (State s) txn).deeds ≡ (t, s) ∷ [])
  state_shows s choice Unknown accepted = absurd cc
  state_shows s choice (Known u) accepted = at_state u s choice u.stage accepted
  state_shows s choice (Row voters acked) accepted = absurd cc

-- a restart shows neither
silent_both : {L : Lang} (one other : List (Deed L)) → IsSilent one → IsSilent other → IsSilent (one ++ other)
silent_both [] other first second = second
silent_both (Began t ∷ ds) other first second = silent_both ds other first second
silent_both (Stated t s ∷ ds) other first second = absurd cc
silent_both (Worked t s asks choice ∷ ds) other first second = silent_both ds other first second
silent_both (Answered t x ∷ ds) other first second = silent_both ds other first second
silent_both (Phased t ∷ ds) other first second = absurd cc
silent_both (Committed t ∷ ds) other first second = silent_both ds other first second
silent_both (Aborted t why ∷ ds) other first second = silent_both ds other first second
silent_both (Rolled_back t ∷ ds) other first second = silent_both ds other first second

restarted_one : {L : Lang} (t : Name) (txn : Txn L) → IsSilent (txn_restarted t txn).deeds
restarted_one t Unknown = (refl, refl)
restarted_one t (Known u) = (refl, refl)
restarted_one t (Row voters acked) = (refl, refl)

pub restarted_silent : {L : Lang} (d : Desk L) (names : List Name) → IsSilent (flat_map (λ t. (txn_restarted t (d.txn t)).deeds) names)
restarted_silent d [] = (refl, refl)
restarted_silent d (t ∷ names) = silent_both (txn_restarted t (d.txn t)).deeds (flat_map (λ t. (txn_restarted t (d.txn t)).deeds) names) (restarted_one t (d.txn t)) (restarted_silent d names)

-- The coordinator's machine: transactions, what their clients and the letters of sites make of them.
use Rattle.std.specs.Prelude.{ℕ, suc, ◌==◌, ◌&&◌, ◌||◌, not, Bool, true, false, List, [], ◌∷◌, ◌++◌, map, length, if◌then◌else◌, ◌^◌, nat_lt, nat_le, Option, Some, None, is_some, is_none}
use Rattle.std.specs.List.{filter, list_any, list_all, flat_map}
use Rattle.protocol.specs.Language.{Lang, Name, same, put}
use Rattle.protocol.specs.Letter.{Vote, Yes, No, Read, Body, Open, Fetch, Write, Prepare, Commit, Abort, Ticket, Rows, Refused, Voted, Ack, Inquire, Letter, letters_to}

-- a fetch of a statement: its number among the operations sent to its site, and the rows that came
pub record Ask (L : Lang) : Type 0 where
  pub leaf : L.Leaf
  pub query : L.Query
  pub number : Option ℕ
  pub rows : Option L.Rows

-- where an undecided transaction stands: between statements; waiting for rows; with writes that wait for a ticket; in its first phase
pub data Stage (L : Lang) : Type 0 where
  Idle : Stage L
  Reading : (statement : L.Statement) (asks : List (Ask L)) → Stage L
  Writing : (answer : L.Answer) (unsent : List (L.Leaf × L.Write)) → Stage L
  Voting : (votes : L.Site → Option Vote) → Stage L

-- an undecided transaction: the sites visited, their first tickets, the operations sent to each; moves: whether it is a refragmentation
pub record Undecided (L : Lang) : Type 0 where
  pub visited : L.Site → Bool
  pub ticket : L.Site → Option Name
  pub sent : L.Site → ℕ
  pub stage : Stage L
  pub moves : Bool

-- a transaction is unknown, undecided, or has a commit row with the acknowledgements counted so far, as they came
pub data Txn (L : Lang) : Type 0 where
  Unknown : Txn L
  Known : (undecided : Undecided L) → Txn L
  Row : (voters acked : List (L.Site × Name)) → Txn L

-- why a transaction aborted
pub data Why : Type 0 where
  By_vote By_refusal Given_up By_restart By_store : Why

-- what a statement answers and writes once its rows are in
abbrev pub Choice : Lang → Type 0
Choice L = L.Answer × List (L.Leaf × L.Write)

-- what happened to transactions; the replies to clients are Began, Answered, Committed, Aborted and Rolled_back
pub data Deed (L : Lang) : Type 0 where
  Began : (txn : Name) → Deed L
  Stated : (txn : Name) (statement : L.Statement) → Deed L
  Worked : (txn : Name) (statement : L.Statement) (asks : List (Ask L)) (choice : Choice L) → Deed L
  Answered : (txn : Name) (answer : L.Answer) → Deed L
  Phased : (txn : Name) → Deed L
  Committed : (txn : Name) → Deed L
  Aborted : (txn : Name) (why : Why) → Deed L
  Rolled_back : (txn : Name) → Deed L

-- what a client asks for, beside a transaction of its own
pub data Request (L : Lang) : Type 0 where
  State : (statement : L.Statement) → Request L
  Commit_call : Request L
  Rollback : Request L
  Give_up : Request L

-- why a request is refused, the least number first
pub data Refusal : Type 0 where
  No_transaction Busy Ended : Refusal

-- a transaction after a step, the letters put out, and the deeds done
pub record Transition (L : Lang) : Type 0 where
  pub txn : Txn L
  pub letters : List (Letter L)
  pub deeds : List (Deed L)

-- known: the transactions that aren't unknown, oldest first; life and number: those of the last name given
pub record Desk (L : Lang) : Type 0 where
  pub txn : Name → Txn L
  pub known : List Name
  pub life : ℕ
  pub number : ℕ

-- operations put out: the operations that still wait, the counts of the sites, the letters
pub record Out (L : Lang) (A : Type 0) : Type 0 where
  pub left : List A
  pub sent : L.Site → ℕ
  pub letters : List (Letter L)

-- whether it is this ticket
abbrev pub is_named : Option Name → Name → Bool
is_named None k = false
is_named (Some j) k = same j k

-- whether it is this number
abbrev pub is_numbered : Option ℕ → ℕ → Bool
is_numbered None n = false
is_numbered (Some m) n = m == n

-- who voted No or Read has let go by itself, everybody else may still hold locks
abbrev pub may_hold : Option Vote → Bool
may_hold (Some No) = false
may_hold (Some Read) = false
may_hold vote = true

-- a site that voted Yes is a voter with its ticket
abbrev pub voter_at : {A : Type 0} → A → Option Vote → Option Name → List (A × Name)
voter_at a (Some Yes) (Some k) = (a, k) ∷ []
voter_at a vote ticket = []

-- whether it is this ticket of this site
abbrev pub is_pair : (L : Lang) → L.Site → Name → L.Site × Name → Bool
is_pair L a k v = L.same_site v.0 a && same v.1 k

-- whether each voter has acknowledged
abbrev pub are_acked : (L : Lang) → List (L.Site × Name) → List (L.Site × Name) → Bool
are_acked L voters acked = list_all (λ v. list_any (is_pair L v.0 v.1) acked) voters

module _ {L : Lang} where
  -- nothing is put out
  abbrev pub stays : Txn L → Transition L
  stays x = record { txn = x; letters = []; deeds = [] }

  -- a new transaction, or a new refragmentation
  abbrev pub fresh_as : Bool → Undecided L
  fresh_as moves = record { visited = λ a. false; ticket = λ a. None; sent = λ a. 0; stage = Idle; moves = moves }

  abbrev pub fresh : Undecided L
  fresh = fresh_as false

  -- a fetch that has not gone out
  abbrev pub ask_of : L.Leaf × L.Query → Ask L
  ask_of f = record { leaf = f.0; query = f.1; number = None; rows = None }

  -- one fetch goes out where its site has given a ticket
  abbrev pub ask_out : Name → Ask L → Option ℕ → Option Name → (L.Site → ℕ) → ((L.Site → ℕ) → Out L (Ask L)) → Out L (Ask L)
  ask_out t q None (Some k) sent rest =
      let n = suc (sent (L.home q.leaf)) in
      let after = rest (put L.same_site (L.home q.leaf) n sent) in
      record { left = record q { number = Some n } ∷ after.left; sent = after.sent; letters = record { site = L.home q.leaf; txn = t; body = Fetch k n q.leaf q.query } ∷ after.letters }
  ask_out t q number ticket sent rest =
      let after = rest sent in
      record { left = q ∷ after.left; sent = after.sent; letters = after.letters }

  -- fetches go out in order
  abbrev pub asks_out : Name → (L.Site → Option Name) → List (Ask L) → (L.Site → ℕ) → Out L (Ask L)
  asks_out t ticket [] sent = record { left = []; sent = sent; letters = [] }
  asks_out t ticket (q ∷ qs) sent = ask_out t q q.number (ticket (L.home q.leaf)) sent (asks_out t ticket qs)

  -- one write goes out where its site has given a ticket
  abbrev pub write_out : Name → L.Leaf × L.Write → Option Name → (L.Site → ℕ) → ((L.Site → ℕ) → Out L (L.Leaf × L.Write)) → Out L (L.Leaf × L.Write)
  write_out t w (Some k) sent rest =
      let n = suc (sent (L.home w.0)) in
      let after = rest (put L.same_site (L.home w.0) n sent) in
      record { left = after.left; sent = after.sent; letters = record { site = L.home w.0; txn = t; body = Write k n w.0 w.1 } ∷ after.letters }
  write_out t w None sent rest =
      let after = rest sent in
      record { left = w ∷ after.left; sent = after.sent; letters = after.letters }

  -- writes go out in order
  abbrev pub writes_out : Name → (L.Site → Option Name) → List (L.Leaf × L.Write) → (L.Site → ℕ) → Out L (L.Leaf × L.Write)
  writes_out t ticket [] sent = record { left = []; sent = sent; letters = [] }
  writes_out t ticket (w ∷ ws) sent = write_out t w (ticket (L.home w.0)) sent (writes_out t ticket ws)

  -- the sites of these leaves that aren't visited yet
  abbrev pub is_new : Undecided L → List L.Leaf → L.Site → Bool
  is_new u leaves a = not (u.visited a) && list_any (λ g. L.same_site (L.home g) a) leaves

  -- an Open, where there is to be one
  abbrev pub opening : Bool → Option (Body L)
  opening true = Some Open
  opening false = None

  -- new sites of these leaves get Open first
  abbrev pub opens : Name → Undecided L → List L.Leaf → List (Letter L)
  opens t u leaves = letters_to t (λ a. opening (is_new u leaves a)) L.sites

  -- new sites of these leaves are visited from now on
  abbrev pub visits : Undecided L → List L.Leaf → Undecided L
  visits u leaves = record u { visited = λ a. u.visited a || is_new u leaves a }

  -- the fetches whose sites have given a ticket go out
  abbrev pub asks_go : Name → Undecided L → L.Statement → List (Ask L) → Transition L
  asks_go t u s asks =
      let out = asks_out t u.ticket asks u.sent in
      record { txn = Known (record u { sent = out.sent; stage = Reading s out.left }); letters = out.letters; deeds = [] }

  -- the answer is given when every write was sent
  abbrev pub writing : Name → Undecided L → L.Answer → (L.Site → ℕ) → List (L.Leaf × L.Write) → List (Letter L) → Transition L
  writing t u answer sent [] letters = record { txn = Known (record u { sent = sent; stage = Idle }); letters = letters; deeds = Answered t answer ∷ [] }
  writing t u answer sent (w ∷ ws) letters = record { txn = Known (record u { sent = sent; stage = Writing answer (w ∷ ws) }); letters = letters; deeds = [] }

  -- the writes whose sites have given a ticket go out
  abbrev pub writes_go : Name → Undecided L → L.Answer → List (L.Leaf × L.Write) → Transition L
  writes_go t u answer ws =
      let out = writes_out t u.ticket ws u.sent in
      writing t u answer out.sent out.left out.letters

  -- letters before the others
  abbrev pub after_letters : List (Letter L) → Transition L → Transition L
  after_letters letters turn = record turn { letters = letters ++ turn.letters }

  -- a deed before the others
  abbrev pub after_deed : Deed L → Transition L → Transition L
  after_deed d turn = record turn { deeds = d ∷ turn.deeds }

  -- the rows are in: the statement is evaluated, new sites of its writes are opened, and its writes go out
  abbrev pub works : Name → Undecided L → L.Statement → List (Ask L) → Choice L → Transition L
  works t u s asks choice =
      let leaves = map (λ w. w.0) choice.1 in
      after_deed (Worked t s asks choice) (after_letters (opens t u leaves) (writes_go t (visits u leaves) choice.0 choice.1))

  -- a statement without fetches is evaluated at once, for any other new sites of its fetches are opened
  abbrev pub states : Name → Undecided L → L.Statement → List (Ask L) → Choice L → Transition L
  states t u s [] choice = works t u s [] choice
  states t u s (q ∷ qs) choice =
      let leaves = map (λ q. q.leaf) (q ∷ qs) in
      after_letters (opens t u leaves) (asks_go t (visits u leaves) s (q ∷ qs))

  -- a site that has given a ticket is asked to prepare as many operations as were sent to it
  abbrev pub to_prepare : Undecided L → L.Site → Option Name → Option (Body L)
  to_prepare u a None = None
  to_prepare u a (Some k) = Some (Prepare k (u.sent a))

  -- something is said, or nothing
  abbrev pub when : Bool → Option (Body L) → Option (Body L)
  when true body = body
  when false body = None

  -- the vote that was counted of a site
  abbrev pub vote_at : Stage L → L.Site → Option Vote
  vote_at (Voting votes) a = votes a
  vote_at stage a = None

  -- an Abort to a ticket
  abbrev pub to_abort : Option Name → Option (Body L)
  to_abort None = None
  to_abort (Some k) = Some (Abort k)

  -- the transaction ends without a commit, and whoever may hold locks hears Abort
  abbrev pub ends_by : Name → Undecided L → Deed L → Transition L
  ends_by t u d = record { txn = Unknown; letters = letters_to t (λ a. when (u.visited a && may_hold (vote_at u.stage a)) (to_abort (u.ticket a))) L.sites; deeds = d ∷ [] }

  -- a Commit to each voter
  abbrev pub commits : Name → List (L.Site × Name) → List (Letter L)
  commits t voters = map (λ v. record { site = v.0; txn = t; body = Commit v.1 }) voters

  -- all votes are in, none is No: committed at once where none is Yes, else where the commit row is kept. With a refragmentation the next catalogue's number is kept too, also where none is Yes
  abbrev pub decides : Name → Undecided L → Bool → List (L.Site × Name) → Transition L
  decides t u kept [] =
      if kept || not u.moves
      then record { txn = Unknown; letters = []; deeds = Committed t ∷ [] }
      else ends_by t u (Aborted t By_store)
  decides t u kept (v ∷ vs) =
      if kept
      then record { txn = Row (v ∷ vs) []; letters = commits t (v ∷ vs); deeds = Committed t ∷ [] }
      else ends_by t u (Aborted t By_store)

  -- the voters that are visited, in the catalogue's order
  abbrev pub voters_of : Undecided L → (L.Site → Option Vote) → List (L.Site × Name)
  voters_of u votes = flat_map (λ a. if u.visited a then voter_at a (votes a) (u.ticket a) else []) L.sites

  -- whether each visited site has voted
  abbrev pub are_all_in : Undecided L → (L.Site → Option Vote) → Bool
  are_all_in u votes = list_all (λ a. not (u.visited a) || is_some (votes a)) L.sites

  -- the first phase goes on with these votes
  abbrev pub votes_go : Name → Undecided L → (L.Site → Option Vote) → Bool → Transition L
  votes_go t u votes kept =
      if are_all_in u votes
      then decides t (record u { stage = Voting votes }) kept (voters_of u votes)
      else stays (Known (record u { stage = Voting votes }))

  -- the first phase: each visited site is asked to prepare what was sent to it; a transaction without sites is committed right away
  abbrev pub phases : Name → Undecided L → Transition L
  phases t u =
      let turn = votes_go t u (λ a. None) true in
      record turn { letters = letters_to t (λ a. when (u.visited a) (to_prepare u a (u.ticket a))) L.sites; deeds = Phased t ∷ turn.deeds }

  -- a commit is asked for between statements alone
  abbrev pub on_commit_call : Name → Undecided L → Stage L → Transition L
  on_commit_call t u Idle = phases t u
  on_commit_call t u stage = stays (Known u)

  -- so is a statement
  abbrev pub on_state : Name → Undecided L → L.Statement → Choice L → Stage L → Transition L
  on_state t u s choice Idle = after_deed (Stated t s) (states t u s (map ask_of (L.fetches s)) choice)
  on_state t u s choice stage = stays (Known u)

  -- a rollback is too late in the first phase
  abbrev pub on_rollback : Name → Undecided L → Stage L → Transition L
  on_rollback t u (Voting votes) = stays (Known u)
  on_rollback t u stage = ends_by t u (Rolled_back t)

  -- what a request of its client makes of a transaction; a refused request changes nothing
  abbrev pub on_request : Name → Choice L → Request L → Txn L → Transition L
  on_request t choice (State s) (Known u) = on_state t u s choice u.stage
  on_request t choice Commit_call (Known u) = on_commit_call t u u.stage
  on_request t choice Rollback (Known u) = on_rollback t u u.stage
  on_request t choice Give_up (Known u) = ends_by t u (Aborted t Given_up)
  on_request t choice request txn = stays txn

  -- the refusal of a request; giving up is never refused
  abbrev pub refusal_at : Request L → Stage L → Option Refusal
  refusal_at (State s) Idle = None
  refusal_at (State s) (Voting votes) = Some Ended
  refusal_at (State s) stage = Some Busy
  refusal_at Commit_call Idle = None
  refusal_at Commit_call (Voting votes) = Some Ended
  refusal_at Commit_call stage = Some Busy
  refusal_at Rollback (Voting votes) = Some Ended
  refusal_at Rollback stage = None
  refusal_at Give_up stage = None

  -- with no undecided transaction there is nothing to ask for
  abbrev pub refusal : Request L → Txn L → Option Refusal
  refusal request (Known u) = refusal_at request u.stage
  refusal Give_up txn = None
  refusal request txn = Some No_transaction

  -- a ticket, that of the site so far aside: the statement goes on where the operations waited for it
  abbrev pub ticket_goes : Name → Undecided L → Choice L → Stage L → Transition L
  ticket_goes t u choice Idle = stays (Known u)
  ticket_goes t u choice (Reading s asks) = asks_go t u s asks
  ticket_goes t u choice (Writing answer ws) = writes_go t u answer ws
  ticket_goes t u choice (Voting votes) = stays (Known u)

  -- one ticket of a site is enough, a further one hears Abort
  abbrev pub on_ticket : Name → Undecided L → L.Site → Name → Choice L → Option Name → Transition L
  on_ticket t u a k choice None = ticket_goes t (record u { ticket = put L.same_site a (Some k) u.ticket }) choice u.stage
  on_ticket t u a k choice (Some j) =
      if same j k
      then stays (Known u)
      else record { txn = Known u; letters = record { site = a; txn = t; body = Abort k } ∷ []; deeds = [] }

  -- whether these rows are those that the fetch waits for
  abbrev pub awaits : L.Statement → L.Site → ℕ → L.Rows → Ask L → Bool
  awaits s a n rows q = L.same_site (L.home q.leaf) a && is_numbered q.number n && is_none q.rows && L.well_formed s q.leaf rows

  -- the fetch with its rows, if these are they
  abbrev pub with_rows : L.Statement → L.Site → ℕ → L.Rows → Ask L → Ask L
  with_rows s a n rows q = if awaits s a n rows q then record q { rows = Some rows } else q

  -- rows come; when all are in, the statement is evaluated
  abbrev pub rows_go : Name → Undecided L → L.Statement → List (Ask L) → Choice L → Transition L
  rows_go t u s asks choice =
      if list_all (λ q. is_some q.rows) asks
      then works t u s asks choice
      else stays (Known (record u { stage = Reading s asks }))

  -- rows are waited for while a statement reads
  abbrev pub on_rows : Name → Undecided L → L.Site → ℕ → L.Rows → Choice L → Stage L → Transition L
  on_rows t u a n rows choice (Reading s asks) = rows_go t u s (map (with_rows s a n rows) asks) choice
  on_rows t u a n rows choice stage = stays (Known u)

  -- a refused operation ends the transaction, but not one in its first phase
  abbrev pub on_refused : Name → Undecided L → Stage L → Transition L
  on_refused t u (Voting votes) = stays (Known u)
  on_refused t u stage = ends_by t u (Aborted t By_refusal)

  -- one No aborts, other votes go on
  abbrev pub counts : Name → Undecided L → L.Site → (L.Site → Option Vote) → Bool → Vote → Transition L
  counts t u a votes kept No = ends_by t (record u { stage = Voting (put L.same_site a (Some No) votes) }) (Aborted t By_vote)
  counts t u a votes kept vote = votes_go t u (put L.same_site a (Some vote) votes) kept

  -- a site votes once
  abbrev pub on_vote : Name → Undecided L → L.Site → Bool → Vote → Stage L → Transition L
  on_vote t u a kept vote (Voting votes) = if is_none (votes a) then counts t u a votes kept vote else stays (Known u)
  on_vote t u a kept vote stage = stays (Known u)

  -- what a letter from a site makes of an undecided transaction; Rows, refusals and votes are those of its ticket
  abbrev pub on_known : Name → Undecided L → L.Site → Bool → Choice L → Body L → Transition L
  on_known t u a kept choice (Ticket k) = on_ticket t u a k choice (u.ticket a)
  on_known t u a kept choice (Rows k n rows) = if is_named (u.ticket a) k then on_rows t u a n rows choice u.stage else stays (Known u)
  on_known t u a kept choice (Refused k reason) = if is_named (u.ticket a) k then on_refused t u u.stage else stays (Known u)
  on_known t u a kept choice (Voted k vote) = if is_named (u.ticket a) k then on_vote t u a kept vote u.stage else stays (Known u)
  on_known t u a kept choice (Inquire k) = stays (Known u)
  on_known t u a kept choice body = stays (Known u)

  -- an unknown transaction is presumed aborted
  abbrev pub on_unknown : Name → L.Site → Body L → Transition L
  on_unknown t a (Ticket k) = record { txn = Unknown; letters = record { site = a; txn = t; body = Abort k } ∷ []; deeds = [] }
  on_unknown t a (Inquire k) = record { txn = Unknown; letters = record { site = a; txn = t; body = Abort k } ∷ []; deeds = [] }
  on_unknown t a body = stays Unknown

  -- with the last acknowledgement the commit row goes; if its store refuses that, the acknowledgement is as good as lost. One that comes again changes nothing
  abbrev pub on_ack : List (L.Site × Name) → List (L.Site × Name) → L.Site × Name → Bool → Transition L
  on_ack voters acked v kept =
      if list_any (is_pair L v.0 v.1) voters && not (list_any (is_pair L v.0 v.1) acked)
      then (if are_acked L voters (acked ++ v ∷ [])
      then (if kept then stays Unknown else stays (Row voters acked))
      else stays (Row voters (acked ++ v ∷ [])))
      else stays (Row voters acked)

  -- a committed transaction answers acknowledgements and inquiries
  abbrev pub on_row : Name → List (L.Site × Name) → List (L.Site × Name) → L.Site → Bool → Body L → Transition L
  on_row t voters acked a kept (Ack k) = on_ack voters acked (a, k) kept
  on_row t voters acked a kept (Inquire k) = record { txn = Row voters acked; letters = record { site = a; txn = t; body = Commit k } ∷ []; deeds = [] }
  on_row t voters acked a kept (Ticket k) = stays (Row voters acked)
  on_row t voters acked a kept body = stays (Row voters acked)

  -- what a letter from a site makes of its transaction
  abbrev pub on_desk_letter : Name → L.Site → Bool → Choice L → Body L → Txn L → Transition L
  on_desk_letter t a kept choice body (Known u) = on_known t u a kept choice body
  on_desk_letter t a kept choice body Unknown = on_unknown t a body
  on_desk_letter t a kept choice body (Row voters acked) = on_row t voters acked a kept body

  -- whether nothing is known of it
  abbrev pub is_unknown : Txn L → Bool
  is_unknown Unknown = true
  is_unknown txn = false

  -- whether it is undecided
  abbrev pub is_undecided : Txn L → Bool
  is_undecided (Known u) = true
  is_undecided txn = false

  -- other transactions; known are those of these names that aren't unknown
  abbrev pub with_txns : Desk L → (Name → Txn L) → List Name → Desk L
  with_txns d txn names = record d { txn = txn; known = filter (λ t. not (is_unknown (txn t))) names }

  -- one transaction is another
  abbrev pub desk_after : Desk L → Name → Txn L → Desk L
  desk_after d t txn = with_txns d (put same t txn d.txn) d.known

  -- the name that the next Begin gives
  abbrev pub next_txn : Desk L → Name
  next_txn d = record { life = d.life; number = suc d.number }

  -- whether it is an undecided refragmentation
  abbrev pub is_moving : Txn L → Bool
  is_moving (Known u) = u.moves
  is_moving txn = false

  -- a new transaction, or a new refragmentation
  abbrev pub began_as : Bool → Desk L → Desk L
  began_as moves d = record (with_txns d (put same (next_txn d) (Known (fresh_as moves)) d.txn) (d.known ++ next_txn d ∷ [])) { number = suc d.number }

  abbrev pub desk_began : Desk L → Desk L
  desk_began d = began_as false d

  -- a restart aborts the undecided ones and sends the commits again
  abbrev pub txn_restarted : Name → Txn L → Transition L
  txn_restarted t Unknown = stays Unknown
  txn_restarted t (Known u) = record { txn = Unknown; letters = []; deeds = Aborted t By_restart ∷ [] }
  txn_restarted t (Row voters acked) = record { txn = Row voters []; letters = commits t voters; deeds = [] }

  -- undecided transactions and acknowledgements are lost, commit rows stay, a new life begins
  abbrev pub desk_restarted : Desk L → Desk L
  desk_restarted d = record (with_txns d (λ t. (txn_restarted t (d.txn t)).txn) d.known) { life = suc d.life; number = 0 }

  -- operations of a visit are below 2^63
  abbrev pub is_short_txn : Txn L → Bool
  is_short_txn (Known u) = list_all (λ a. nat_lt (u.sent a) (2 ^ 63)) L.sites
  is_short_txn txn = true

  -- the limits of the coordinator: 256 undecided transactions, numbers below 2^63. A step that would lead past them is refused as Full
  abbrev pub is_desk_within : Desk L → Bool
  is_desk_within d = nat_lt d.life (2 ^ 63) && nat_lt d.number (2 ^ 63) && list_all (λ t. is_short_txn (d.txn t)) d.known && nat_le (length (filter (λ t. is_undecided (d.txn t)) d.known)) 256

  -- whether the deed commits this transaction
  abbrev pub commits_it : Name → Deed L → Bool
  commits_it t (Committed u) = same u t
  commits_it t deed = false

  -- whether the transaction was committed
  abbrev pub is_committed : List (Deed L) → Name → Bool
  is_committed past t = list_any (commits_it t) past

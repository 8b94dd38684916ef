-- Whatever the coordinator and the sites put out, operations are of leaves that have a home, where those of transactions and of what is chosen to be written are.
use Rattle.std.proofs.Common.{subst, ℕ, suc, ◌==◌, Bool, true, false, List, [], ◌∷◌, map, Option, Some, None, ◌||◌, not}
use Rattle.std.specs.List.{flat_map}
use Rattle.protocol.specs.Desk.{Aborted, Ask, By_refusal, By_store, By_vote, Choice, Deed, Given_up, Request, Rolled_back, Transition, Txn, Undecided, Voting, after_letters, are_all_in, ask_out, asks_go, asks_out, commits, decides, ends_by, opening, opens, phases, states, to_abort, to_prepare, visits, voters_of, votes_go, on_request, on_desk_letter, txn_restarted, Unknown, Known, Row, when, with_rows, works, write_out, writes_go, writes_out, writing}
use Rattle.protocol.specs.Home.{AreHomed, AsksHomed, IsAtHome, IsHomed, StageHomed, TxnHomed, WritesHomed}
use Rattle.protocol.specs.Language.{Lang, Name, put}
use Rattle.protocol.specs.Letter.{Body, Letter, Vote, No, Open, Fetch, Write, Prepare, Commit, Abort, Ticket, Rows, Refused, Voted, Ack, Inquire, letters_to}
use Rattle.protocol.specs.Site.{Act, Active, Dead, Prepared, SiteState, Status, inquiries, inquiry_of, on_abort, on_commit, on_fetch, on_letter, on_prepare, on_write, others_exclusive, said}
use Rattle.protocol.specs.World.{addressed}
use Rattle.protocol.proofs.Basics.{Every, either, every_append, every_flat}
use Rattle.protocol.proofs.DeskTable.{Cause, asked, came, Turned, ticketed, rests, accepts, begins_phase, rolls_back, is_given_up, takes_ticket, fetches, writes, turns_away, takes_rows, evaluates, is_refused, counts_no, counts_vote, presumes_abort, tells_abort, tells_commit, counts_ack, lets_row_go, request_turned, letter_turned}
use Rattle.protocol.proofs.Turns.{every_letter}

module _ (L : Lang) (P : L.Leaf → Type 0) where
  -- ---- a site
  -- a site says no operation
  abbrev SaysHomed : SiteState L → Act L → Type 0
  SaysHomed s act = Every (IsAtHome L P) (said s act)

  module _ (s : SiteState L) where
    fetch_homed : (kept : Bool) (k : Name) (op : ℕ) (g : L.Leaf) (q : L.Query) (st : Status L) → SaysHomed s (on_fetch s kept k op g q st)
    fetch_homed kept k op g q Dead = (tt, tt)
    fetch_homed kept k op g q (Prepared t i) = tt
    fetch_homed kept k op g q (Active v) = either (SaysHomed s) (op == suc v.done) _ _ (either (SaysHomed s) (others_exclusive s k g) _ _ (tt, tt) (either (SaysHomed s) kept _ _ (tt, tt) tt)) tt

    write_homed : (k : Name) (op : ℕ) (g : L.Leaf) (x : L.Write) (st : Status L) → SaysHomed s (on_write k op g x st)
    write_homed k op g x Dead = tt
    write_homed k op g x (Prepared t i) = tt
    write_homed k op g x (Active v) = either (SaysHomed s) (op == suc v.done) _ _ (either (SaysHomed s) (v.foreign g) _ _ (tt, tt) (either (SaysHomed s) (L.is_full g x v.changes) _ _ (tt, tt) tt)) tt

    prepare_homed : (kept : Bool) (t k : Name) (n : ℕ) (st : Status L) → SaysHomed s (on_prepare kept t k n st)
    prepare_homed kept t k n Dead = (tt, tt)
    prepare_homed kept t k n (Prepared j i) = (tt, tt)
    prepare_homed kept t k n (Active v) = either (SaysHomed s) (v.done == n) _ _ (either (SaysHomed s) (L.is_empty v.changes) _ _ (tt, tt) (either (SaysHomed s) kept _ _ (tt, tt) (tt, tt))) (tt, tt)

    commit_said : (kept : Bool) (k : Name) (st : Status L) → SaysHomed s (on_commit kept k st)
    commit_said kept k Dead = (tt, tt)
    commit_said kept k (Active v) = (tt, tt)
    commit_said kept k (Prepared t i) = either (SaysHomed s) kept _ _ (tt, tt) tt

    abort_said : (kept : Bool) (k : Name) (st : Status L) → SaysHomed s (on_abort kept k st)
    abort_said kept k Dead = tt
    abort_said kept k (Active v) = tt
    abort_said kept k (Prepared t i) = either (SaysHomed s) kept _ _ tt tt

    letter_homed : (t : Name) (kept : Bool) (c : Body L) → SaysHomed s (on_letter s t kept c)
    letter_homed t kept Open = (tt, tt)
    letter_homed t kept (Fetch k op g q) = fetch_homed kept k op g q (s.status k)
    letter_homed t kept (Write k op g x) = write_homed k op g x (s.status k)
    letter_homed t kept (Prepare k n) = prepare_homed kept t k n (s.status k)
    letter_homed t kept (Commit k) = commit_said kept k (s.status k)
    letter_homed t kept (Abort k) = abort_said kept k (s.status k)
    letter_homed t kept (Ticket k) = tt
    letter_homed t kept (Rows k n rows) = tt
    letter_homed t kept (Refused k reason) = tt
    letter_homed t kept (Voted k x) = tt
    letter_homed t kept (Ack k) = tt
    letter_homed t kept (Inquire k) = tt

  all_addressed : (a : L.Site) (t : Name) (bs : List (Body L)) → Every (IsAtHome L P) bs → AreHomed L P (addressed a t bs)
  all_addressed a t [] all = tt
  all_addressed a t (b ∷ bs) all = (all.0, all_addressed a t bs all.1)

  -- ---- the coordinator says something to each site, or nothing
  abbrev MayBeHomed : Option (Body L) → Type 0
  MayBeHomed None = Unit {0}
  MayBeHomed (Some b) = IsAtHome L P b

  opening_homed : (x : Bool) → MayBeHomed (opening x)
  opening_homed true = tt
  opening_homed false = tt

  to_abort_homed : (k : Option Name) → MayBeHomed (to_abort k)
  to_abort_homed None = tt
  to_abort_homed (Some k) = tt

  commits_homed : (t : Name) (voters : List (L.Site × Name)) → AreHomed L P (commits t voters)
  commits_homed t [] = tt
  commits_homed t (v ∷ voters) = (tt, commits_homed t voters)

  said_homed : (t : Name) (says : L.Site → Option (Body L)) (sites : List L.Site) → ((a : L.Site) → MayBeHomed (says a)) → AreHomed L P (letters_to t says sites)
  said_homed t says sites all = every_letter (IsHomed L P) t says sites (λ a b here e. subst MayBeHomed e (all a))

  to_prepare_homed : (u : Undecided L) (a : L.Site) (k : Option Name) → MayBeHomed (to_prepare u a k)
  to_prepare_homed u a None = tt
  to_prepare_homed u a (Some k) = tt

  when_homed : (x : Bool) (b : Option (Body L)) → MayBeHomed b → MayBeHomed (when x b)
  when_homed true b all = all
  when_homed false b all = tt

  -- ---- what becomes of a transaction
  abbrev PutsHomed : Transition L → Type 0
  PutsHomed turn = AreHomed L P turn.letters

  module _ (t : Name) where
    fetches_homed : (ticket : L.Site → Option Name) (asks : List (Ask L)) (sent : L.Site → ℕ) → Every (λ q. P q.leaf) asks → AreHomed L P (asks_out t ticket asks sent).letters
    fetches_homed ticket [] sent all = tt
    fetches_homed ticket (q ∷ qs) sent all = go q.number (ticket (L.home q.leaf)) (λ sent. fetches_homed ticket qs sent all.1)
      where
        go : (m : Option ℕ) (k : Option Name) → ((sent : L.Site → ℕ) → AreHomed L P (asks_out t ticket qs sent).letters) → AreHomed L P (ask_out t q m k sent (asks_out t ticket qs)).letters
        go None None more = more sent
        go None (Some k) more = (all.0, more (put L.same_site (L.home q.leaf) (suc (sent (L.home q.leaf))) sent))
        go (Some n) None more = more sent
        go (Some n) (Some k) more = more sent

    written_homed : (ticket : L.Site → Option Name) (ws : List (L.Leaf × L.Write)) (sent : L.Site → ℕ) → WritesHomed L P ws → AreHomed L P (writes_out t ticket ws sent).letters
    written_homed ticket [] sent all = tt
    written_homed ticket (x ∷ ws) sent all = go (ticket (L.home x.0)) (λ sent. written_homed ticket ws sent all.1)
      where
        go : (k : Option Name) → ((sent : L.Site → ℕ) → AreHomed L P (writes_out t ticket ws sent).letters) → AreHomed L P (write_out t x k sent (writes_out t ticket ws)).letters
        go None more = more sent
        go (Some k) more = (all.0, more (put L.same_site (L.home x.0) (suc (sent (L.home x.0))) sent))

    asks_homed : (u : Undecided L) (s : L.Statement) (asks : List (Ask L)) → Every (λ q. P q.leaf) asks → PutsHomed (asks_go t u s asks)
    asks_homed u s asks all = fetches_homed u.ticket asks u.sent all

    writing_homed : (u : Undecided L) (answer : L.Answer) (sent_to : L.Site → ℕ) (left : List (L.Leaf × L.Write)) (letters : List (Letter L)) → AreHomed L P letters → PutsHomed (writing t u answer sent_to left letters)
    writing_homed u answer sent_to [] letters all = all
    writing_homed u answer sent_to (x ∷ ws) letters all = all

    writes_homed : (u : Undecided L) (answer : L.Answer) (ws : List (L.Leaf × L.Write)) → WritesHomed L P ws → PutsHomed (writes_go t u answer ws)
    writes_homed u answer ws all =
        let out = writes_out {L = L} t u.ticket ws u.sent in
        writing_homed u answer out.sent out.left out.letters (written_homed u.ticket ws u.sent all)

    opens_homed : (u : Undecided L) (leaves : List L.Leaf) → AreHomed L P (opens t u leaves)
    opens_homed u leaves = said_homed t _ L.sites (λ a. opening_homed _)

    behind : (letters : List (Letter L)) (turn : Transition L) → AreHomed L P letters → PutsHomed turn → PutsHomed (after_letters letters turn)
    behind letters turn all more = every_append (IsHomed L P) letters turn.letters all more

    works_homed : (u : Undecided L) (s : L.Statement) (asks : List (Ask L)) (c : Choice L) → WritesHomed L P c.1 → PutsHomed (works t u s asks c)
    works_homed u s asks c chosen =
        let leaves = map (λ (x : L.Leaf × L.Write). x.0) c.1 in
        behind (opens t u leaves) (writes_go t (visits u leaves) c.0 c.1) (opens_homed u leaves) (writes_homed (visits u leaves) c.0 c.1 chosen)

    -- what is left of fetches that went out are those fetches
    left_homed : (ticket : L.Site → Option Name) (asks : List (Ask L)) (sent : L.Site → ℕ) → Every (λ q. P q.leaf) (asks_out t ticket asks sent).left → Every (λ q. P q.leaf) asks
    left_homed ticket [] sent all = tt
    left_homed ticket (q ∷ qs) sent all = go q.number (ticket (L.home q.leaf)) (λ sent. left_homed ticket qs sent) all
      where
        go : (m : Option ℕ) (k : Option Name) → ((sent : L.Site → ℕ) → Every (λ q. P q.leaf) (asks_out t ticket qs sent).left → Every (λ q. P q.leaf) qs) →
            Every (λ q. P q.leaf) (ask_out t q m k sent (asks_out t ticket qs)).left → Every (λ q. P q.leaf) (q ∷ qs)
        go None None more all = (all.0, more sent all.1)
        go None (Some k) more all = (all.0, more (put L.same_site (L.home q.leaf) (suc (sent (L.home q.leaf))) sent) all.1)
        go (Some n) None more all = (all.0, more sent all.1)
        go (Some n) (Some k) more all = (all.0, more sent all.1)

    states_homed : (u : Undecided L) (s : L.Statement) (asks : List (Ask L)) (c : Choice L) → TxnHomed L P (states t u s asks c).txn → WritesHomed L P c.1 → PutsHomed (states t u s asks c)
    states_homed u s [] c after chosen = works_homed u s [] c chosen
    states_homed u s (q ∷ qs) c after chosen =
        let leaves = map (λ (x : Ask L). x.leaf) (q ∷ qs) in
        behind (opens t u leaves) (asks_go t (visits u leaves) s (q ∷ qs)) (opens_homed u leaves) (asks_homed (visits u leaves) s (q ∷ qs) (left_homed u.ticket (q ∷ qs) u.sent after))

    ends_homed : (u : Undecided L) (d : Deed L) → PutsHomed (ends_by t u d)
    ends_homed u d = said_homed t _ L.sites (λ a. when_homed _ _ (to_abort_homed (u.ticket a)))

    decides_homed : (u : Undecided L) (kept : Bool) (voters : List (L.Site × Name)) → PutsHomed (decides t u kept voters)
    decides_homed u kept [] = either PutsHomed (kept || not u.moves) _ _ tt (ends_homed u (Aborted t By_store))
    decides_homed u kept (v ∷ voters) = either PutsHomed kept _ _ (commits_homed t (v ∷ voters)) (ends_homed u (Aborted t By_store))

    votes_homed : (u : Undecided L) (votes : L.Site → Option Vote) (kept : Bool) → PutsHomed (votes_go t u votes kept)
    votes_homed u votes kept = either PutsHomed (are_all_in u votes) _ _ (decides_homed (record u { stage = Voting votes }) kept (voters_of u votes)) tt

    phases_homed : (u : Undecided L) → PutsHomed (phases t u)
    phases_homed u = said_homed t _ L.sites (λ a. when_homed _ _ (to_prepare_homed u a (u.ticket a)))

    abbrev CauseHomed : Choice L → Cause L → Type 0
    CauseHomed choice (asked request) = AsksHomed L P request choice
    CauseHomed choice (came a kept body) = WritesHomed L P choice.1

    -- whatever the turn, where what the transaction fetches has a home before it and after it, and so has what is chosen to be written
    turned_homed : (choice : Choice L) (c : Cause L) (x : Txn L) (turn : Transition L) → CauseHomed choice c → TxnHomed L P x → TxnHomed L P turn.txn → Turned t choice c x turn → PutsHomed turn
    turned_homed choice c x turn chosen home after (rests d y) = tt
    turned_homed choice c x turn chosen home after (accepts u s idle) = states_homed u s _ choice after chosen
    turned_homed choice c x turn chosen home after (begins_phase u idle) = phases_homed u
    turned_homed choice c x turn chosen home after (rolls_back u calm) = ends_homed u (Rolled_back t)
    turned_homed choice c x turn chosen home after (is_given_up u) = ends_homed u (Aborted t Given_up)
    turned_homed choice c x turn chosen home after (takes_ticket u a kept k free) = tt
    turned_homed choice c x turn chosen home after (fetches u a kept k s qs free stage) = asks_homed (ticketed u a k) s qs (subst (StageHomed L P) stage home)
    turned_homed choice c x turn chosen home after (writes u a kept k answer ws free stage) = writes_homed (ticketed u a k) answer ws (subst (StageHomed L P) stage home)
    turned_homed choice c x turn chosen home after (turns_away u a kept k j own other) = (tt, tt)
    turned_homed choice c x turn chosen home after (takes_rows u a kept k n rows s qs own stage) = tt
    turned_homed choice c x turn chosen home after (evaluates u a kept k n rows s qs own stage all) = works_homed u s (map (with_rows s a n rows) qs) choice chosen
    turned_homed choice c x turn chosen home after (is_refused u a kept k reason own calm) = ends_homed u (Aborted t By_refusal)
    turned_homed choice c x turn chosen home after (counts_no u a kept k votes own stage) = ends_homed (record u { stage = Voting (put L.same_site a (Some No) votes) }) (Aborted t By_vote)
    turned_homed choice c x turn chosen home after (counts_vote u a kept k v votes own stage not_no) = votes_homed u _ kept
    turned_homed choice c x turn chosen home after (presumes_abort a kept k) = (tt, tt)
    turned_homed choice c x turn chosen home after (tells_abort a kept k) = (tt, tt)
    turned_homed choice c x turn chosen home after (tells_commit voters acked a kept k) = (tt, tt)
    turned_homed choice c x turn chosen home after (counts_ack voters acked a kept k) = tt
    turned_homed choice c x turn chosen home after (lets_row_go voters acked a kept k all) = tt

    -- the turn of a request, and of a letter
    pub request_homed : (choice : Choice L) (request : Request L) (x : Txn L) → AsksHomed L P request choice → TxnHomed L P x → TxnHomed L P (on_request t choice request x).txn → AreHomed L P (on_request t choice request x).letters
    request_homed choice request x chosen home after = turned_homed choice _ x _ chosen home after (request_turned t choice request x)

    pub turn_homed : (choice : Choice L) (a : L.Site) (kept : Bool) (body : Body L) (x : Txn L) → WritesHomed L P choice.1 → TxnHomed L P x → TxnHomed L P (on_desk_letter t a kept choice body x).txn → AreHomed L P (on_desk_letter t a kept choice body x).letters
    turn_homed choice a kept body x chosen home after = turned_homed choice _ x _ chosen home after (letter_turned t choice a kept body x)

    -- a restart of the coordinator
    pub restart_homed : (x : Txn L) → AreHomed L P (txn_restarted t x).letters
    restart_homed Unknown = tt
    restart_homed (Known u) = tt
    restart_homed (Row voters acked) = commits_homed t voters

  pub restarts_homed : (txn : Name → Txn L) (names : List Name) → AreHomed L P (flat_map (λ t. (txn_restarted t (txn t)).letters) names)
  restarts_homed txn names = every_flat (IsHomed L P) (λ t. (txn_restarted t (txn t)).letters) names (λ t. restart_homed t (txn t))

  -- ---- what a site puts out
  pub site_homed : (s : SiteState L) (a : L.Site) (t : Name) (kept : Bool) (c : Body L) → AreHomed L P (addressed a t (said s (on_letter s t kept c)))
  site_homed s a t kept c = all_addressed a t (said s (on_letter s t kept c)) (letter_homed s t kept c)

  inquiry_homed : (a : L.Site) (k : Name) (st : Status L) → AreHomed L P (inquiry_of a k st)
  inquiry_homed a k Dead = tt
  inquiry_homed a k (Active v) = tt
  inquiry_homed a k (Prepared t i) = (tt, tt)

  pub inquiries_homed : (a : L.Site) (s : SiteState L) → AreHomed L P (inquiries a s)
  inquiries_homed a s = every_flat (IsHomed L P) (λ k. inquiry_of a k (s.status k)) s.known (λ k. inquiry_homed a k (s.status k))

-- While a statement reads no write is on its way, and once it doesn't read, no letter makes it read again.
use Rattle.std.proofs.Common.{◌≡◌, refl, sym, ap, ◌∙◌, subst, ℕ, suc, ◌==◌, Bool, true, false, List, [], ◌∷◌, map, if◌then◌else◌, Option, Some, None, is_some, is_none, ◌||◌, not}
use Rattle.std.specs.List.{list_all}
use Rattle.protocol.specs.Client.{first, next}
use Rattle.protocol.specs.Desk.{Ask, Choice, Idle, Known, Reading, Row, Stage, State, Transition, Txn, Undecided, Unknown, Voting, Writing, are_all_in, asks_go, counts, decides, desk_after, is_desk_within, is_named, is_new, on_desk_letter, on_known, on_refused, on_request, on_rows, on_ticket, on_vote, opens, states, stays, ticket_goes, visits, voters_of, votes_go, with_rows, works, writing, on_state, writes_out}
use Rattle.protocol.specs.Language.{Lang, Name, put, same}
use Rattle.protocol.specs.Letter.{Body, Letter, Vote, Yes, No, Read, Open, Fetch, Write, Prepare, Commit, Abort, Ticket, Rows, Refused, Voted, Ack, Inquire, is_for_desk}
use Rattle.protocol.specs.Rounds.{is_reading, is_stage_reading}
use Rattle.protocol.specs.Site.{Act, Active, Dead, Prepared, SiteState, Status, is_within, on_abort, on_commit, on_fetch, on_letter, on_prepare, on_write, others_exclusive, said, site_after}
use Rattle.protocol.specs.World.{World, addressed, called, comes_to, turned, turns, with_site}
use Rattle.protocol.proofs.Basics.{Every, either, every_append, put_here, same_law}
use Rattle.protocol.proofs.DeskRanks.{desk_low}
use Rattle.protocol.proofs.Going.{asks_each, opening_is}
use Rattle.protocol.proofs.Turns.{every_letter}

-- the same answer, and no writes
abbrev pub bare : (L : Lang) → Choice L → Choice L
bare L c = (c.0, [])

module _ {L : Lang} where
  -- whether it is a write
  abbrev pub is_write : Body L → Bool
  is_write (Write k n g x) = true
  is_write said = false

  abbrev pub NoWrites : List (Letter L) → Type 0
  NoWrites letters = Every (λ l. is_write l.body ≡ false) letters

  -- ---- what a site answers
  module _ (s : SiteState L) (t : Name) (kept : Bool) where
    abbrev Answers : Act L → Type 0
    Answers act = Every (λ c. is_write c ≡ false) (said s act)

    fetch_answers : (k : Name) (op : ℕ) (g : L.Leaf) (q : L.Query) (st : Status L) → Answers (on_fetch s kept k op g q st)
    fetch_answers k op g q Dead = (refl, tt)
    fetch_answers k op g q (Prepared u i) = tt
    fetch_answers k op g q (Active v) = either Answers (op == suc v.done) _ _ (either Answers (others_exclusive s k g) _ _ (refl, tt) (either Answers kept _ _ (refl, tt) tt)) tt

    write_answers : (k : Name) (op : ℕ) (g : L.Leaf) (x : L.Write) (st : Status L) → Answers (on_write k op g x st)
    write_answers k op g x Dead = tt
    write_answers k op g x (Prepared u i) = tt
    write_answers k op g x (Active v) = either Answers (op == suc v.done) _ _ (either Answers (v.foreign g) _ _ (refl, tt) (either Answers (L.is_full g x v.changes) _ _ (refl, tt) tt)) tt

    prepare_answers : (k : Name) (n : ℕ) (st : Status L) → Answers (on_prepare kept t k n st)
    prepare_answers k n Dead = (refl, tt)
    prepare_answers k n (Prepared u i) = (refl, tt)
    prepare_answers k n (Active v) = either Answers (v.done == n) _ _ (either Answers (L.is_empty v.changes) _ _ (refl, tt) (either Answers kept _ _ (refl, tt) (refl, tt))) (refl, tt)

    commit_answers : (k : Name) (st : Status L) → Answers (on_commit kept k st)
    commit_answers k Dead = (refl, tt)
    commit_answers k (Active v) = (refl, tt)
    commit_answers k (Prepared u i) = either Answers kept _ _ (refl, tt) tt

    abort_answers : (k : Name) (st : Status L) → Answers (on_abort kept k st)
    abort_answers k Dead = tt
    abort_answers k (Active v) = tt
    abort_answers k (Prepared u i) = either Answers kept _ _ tt tt

    site_answers : (b : Body L) → Answers (on_letter s t kept b)
    site_answers Open = (refl, tt)
    site_answers (Fetch k op g q) = fetch_answers k op g q (s.status k)
    site_answers (Write k op g x) = write_answers k op g x (s.status k)
    site_answers (Prepare k n) = prepare_answers k n (s.status k)
    site_answers (Commit k) = commit_answers k (s.status k)
    site_answers (Abort k) = abort_answers k (s.status k)
    site_answers (Ticket k) = tt
    site_answers (Rows k n rows) = tt
    site_answers (Refused k reason) = tt
    site_answers (Voted k vote) = tt
    site_answers (Ack k) = tt
    site_answers (Inquire k) = tt

  all_addressed : (a : L.Site) (t : Name) (bs : List (Body L)) → Every (λ c. is_write c ≡ false) bs → NoWrites (addressed a t bs)
  all_addressed a t [] all = tt
  all_addressed a t (b ∷ bs) all = (all.0, all_addressed a t bs all.1)

  -- ---- turns after which a statement reads
  abbrev Reads : Transition L → Type 0
  Reads turn = is_reading turn.txn ≡ true → NoWrites turn.letters

  no_letters : (x : Txn L) → Reads (stays x)
  no_letters x is = tt

  not_written : (t : Name) (v : Undecided L) (answer : L.Answer) (sent : L.Site → ℕ) (left : List (L.Leaf × L.Write)) (letters : List (Letter L)) → Reads (writing t v answer sent left letters)
  not_written t v answer sent [] letters is = let e : false ≡ true = is in cc
  not_written t v answer sent (x ∷ ws) letters is = let e : false ≡ true = is in cc

  asks_read : (t : Name) (u : Undecided L) (s : L.Statement) (asks : List (Ask L)) → NoWrites (asks_go t u s asks).letters
  asks_read t u s asks = asks_each (λ l. is_write l.body ≡ false) t u.ticket (λ g q k n e. refl) asks u.sent

  opens_read : (t : Name) (u : Undecided L) (leaves : List L.Leaf) → NoWrites (opens t u leaves)
  opens_read t u leaves = every_letter (λ l. is_write l.body ≡ false) t _ L.sites (λ a b here e. subst (λ c. is_write c ≡ false) (sym (opening_is (is_new u leaves a) b e).1) refl)

  works_read : (t : Name) (u : Undecided L) (s : L.Statement) (asks : List (Ask L)) (c : Choice L) → is_reading (works t u s asks c).txn ≡ true → ⊥
  works_read t u s asks c = go ((writes_out {L = L} t u.ticket c.1 u.sent).left)
    where
      go : (left : List (L.Leaf × L.Write)) → is_reading (writing t (visits u (map (λ (x : L.Leaf × L.Write). x.0) c.1)) c.0 (writes_out {L = L} t u.ticket c.1 u.sent).sent left (writes_out {L = L} t u.ticket c.1 u.sent).letters).txn ≡ true → ⊥
      go [] is = let e : false ≡ true = is in cc
      go (x ∷ left) is = let e : false ≡ true = is in cc

  module _ (t : Name) (u : Undecided L) (c : Choice L) where
    states_read : (s : L.Statement) (asks : List (Ask L)) → Reads (states t u s asks c)
    states_read s [] is = absurd (works_read t u s [] c is)
    states_read s (q ∷ qs) is = every_append (λ l. is_write l.body ≡ false) (opens t u (map (λ (x : Ask L). x.leaf) (q ∷ qs))) _ (opens_read t u (map (λ (x : Ask L). x.leaf) (q ∷ qs))) (asks_read t (visits u (map (λ (x : Ask L). x.leaf) (q ∷ qs))) s (q ∷ qs))

    state_read : (s : L.Statement) (stage : Stage L) → Reads (on_state t u s c stage)
    state_read s Idle = states_read s _
    state_read s (Reading r asks) = no_letters (Known u)
    state_read s (Writing answer ws) = no_letters (Known u)
    state_read s (Voting votes) = no_letters (Known u)

    ticket_read : (stage : Stage L) → Reads (ticket_goes t u c stage)
    ticket_read Idle = no_letters (Known u)
    ticket_read (Reading s asks) = λ is. asks_read t u s asks
    ticket_read (Writing answer ws) = not_written t u answer _ _ _
    ticket_read (Voting votes) = no_letters (Known u)

    rows_read : (a : L.Site) (n : ℕ) (rows : L.Rows) (stage : Stage L) → Reads (on_rows t u a n rows c stage)
    rows_read a n rows Idle = no_letters (Known u)
    rows_read a n rows (Writing answer ws) = no_letters (Known u)
    rows_read a n rows (Voting votes) = no_letters (Known u)
    rows_read a n rows (Reading s asks) = either Reads (list_all (λ (q : Ask L). is_some q.rows) (map (with_rows s a n rows) asks)) _ _ (λ is. absurd (works_read t u s (map (with_rows s a n rows) asks) c is)) (no_letters (Known (record u { stage = Reading s (map (with_rows s a n rows) asks) })))

  module _ (t : Name) (a : L.Site) (kept : Bool) (c : Choice L) where
    first_read : (u : Undecided L) (k : Name) (tk : Option Name) → Reads (on_ticket t u a k c tk)
    first_read u k None = ticket_read t (record u { ticket = put L.same_site a (Some k) u.ticket }) c u.stage
    first_read u k (Some j) = either Reads (same j k) _ _ (no_letters (Known u)) (λ is. (refl, tt))

    refused_read : (u : Undecided L) (stage : Stage L) → Reads (on_refused t u stage)
    refused_read u Idle = λ is. (let e : false ≡ true = is in cc)
    refused_read u (Reading s asks) = λ is. (let e : false ≡ true = is in cc)
    refused_read u (Writing answer ws) = λ is. (let e : false ≡ true = is in cc)
    refused_read u (Voting votes) = no_letters (Known u)

    decides_read : (u : Undecided L) (voters : List (L.Site × Name)) → Reads (decides t u kept voters)
    decides_read u [] = either Reads (kept || not u.moves) _ _ (λ is. tt) (λ is. (let e : false ≡ true = is in cc))
    decides_read u (v ∷ voters) = either Reads kept _ _ (λ is. (let e : false ≡ true = is in cc)) (λ is. (let e : false ≡ true = is in cc))

    votes_read : (u : Undecided L) (votes : L.Site → Option Vote) → Reads (votes_go t u votes kept)
    votes_read u votes = either Reads (are_all_in u votes) _ _ (decides_read (record u { stage = Voting votes }) (voters_of u votes)) (no_letters (Known (record u { stage = Voting votes })))

    counts_read : (u : Undecided L) (votes : L.Site → Option Vote) (x : Vote) → Reads (counts t u a votes kept x)
    counts_read u votes Yes = votes_read u _
    counts_read u votes Read = votes_read u _
    counts_read u votes No = λ is. (let e : false ≡ true = is in cc)

    vote_read : (u : Undecided L) (x : Vote) (stage : Stage L) → Reads (on_vote t u a kept x stage)
    vote_read u x Idle = no_letters (Known u)
    vote_read u x (Reading s asks) = no_letters (Known u)
    vote_read u x (Writing answer ws) = no_letters (Known u)
    vote_read u x (Voting votes) = either Reads (is_none (votes a)) _ _ (counts_read u votes x) (no_letters (Known u))

    known_read : (u : Undecided L) (b : Body L) → Reads (on_known t u a kept c b)
    known_read u (Ticket k) = first_read u k (u.ticket a)
    known_read u (Rows k n rows) = either Reads (is_named (u.ticket a) k) _ _ (rows_read t u c a n rows u.stage) (no_letters (Known u))
    known_read u (Refused k reason) = either Reads (is_named (u.ticket a) k) _ _ (refused_read u u.stage) (no_letters (Known u))
    known_read u (Voted k x) = either Reads (is_named (u.ticket a) k) _ _ (vote_read u x u.stage) (no_letters (Known u))
    known_read u Open = no_letters (Known u)
    known_read u (Fetch k n g q) = no_letters (Known u)
    known_read u (Write k n g x) = no_letters (Known u)
    known_read u (Prepare k n) = no_letters (Known u)
    known_read u (Commit k) = no_letters (Known u)
    known_read u (Abort k) = no_letters (Known u)
    known_read u (Ack k) = no_letters (Known u)
    known_read u (Inquire k) = no_letters (Known u)

    -- one that isn't known doesn't read
    desk_read : (b : Body L) (x : Txn L) → Reads (on_desk_letter t a kept c b x)
    desk_read b (Known u) = known_read u b
    desk_read b Unknown = λ is. (let e : false ≡ true = (desk_low L t a kept c b Unknown).falls is in cc)
    desk_read b (Row voters acked) = λ is. (let e : false ≡ true = (desk_low L t a kept c b (Row voters acked)).falls is in cc)

  -- ---- the world after a letter
  module _ (w : World L) (l : Letter L) (q : List (Letter L)) (e : w.letters ≡ l ∷ q) (kept : Bool) (c : Choice L) where
    abbrev behind : World L
    behind = record w { letters = q }

    -- it reads only if it did, and then no write comes
    pub record Reading_on (v : World L) : Type 0 where
      pub falls : is_reading (v.desk.txn l.txn) ≡ true → is_reading (w.desk.txn l.txn) ≡ true
      pub none : is_reading (v.desk.txn l.txn) ≡ true → NoWrites q → NoWrites v.letters

    stays_on : Reading_on behind
    stays_on = record { falls = λ is. is; none = λ is none. none }

    pub reads_on : Reading_on (next w kept c)
    reads_on = subst (λ (letters : List (Letter L)). Reading_on (first w kept c letters)) (sym e) (go (is_for_desk l.body))
      where
        turn : Transition L
        turn = on_desk_letter l.txn l.site kept c l.body (w.desk.txn l.txn)

        now : (turned behind l.txn turn).desk.txn l.txn ≡ turn.txn
        now = put_here same same_law l.txn turn.txn w.desk.txn

        go : (b : Bool) → Reading_on (comes_to b behind kept c l)
        go true = either Reading_on (is_desk_within (desk_after w.desk l.txn turn.txn)) (turned behind l.txn turn) behind (record {
          falls = λ is. (desk_low L l.txn l.site kept c l.body (w.desk.txn l.txn)).falls (sym (ap is_reading now) ∙ is);
          none = λ is none. every_append (λ (x : Letter L). is_write x.body ≡ false) q turn.letters none (desk_read l.txn l.site kept c l.body (w.desk.txn l.txn) (sym (ap is_reading now) ∙ is));
        }) stays_on
        go false =
            let s = w.sites l.site in
            let act = on_letter s l.txn kept l.body in
            let out = addressed l.site l.txn (said s act) in
            either Reading_on (is_within (site_after s act)) (with_site behind l.site (site_after s act) out) behind (record {
              falls = λ is. is;
              none = λ is none. every_append (λ (x : Letter L). is_write x.body ≡ false) q out none (all_addressed l.site l.txn (said s act) (site_answers s l.txn kept l.body));
            }) stays_on

  -- ---- a letter that comes to one that doesn't read evaluates nothing
  module _ (t : Name) (a : L.Site) (kept : Bool) (c : Choice L) where
    goes_bare : (u : Undecided L) (stage : Stage L) → ticket_goes t u c stage ≡ ticket_goes t u (bare L c) stage
    goes_bare u Idle = refl
    goes_bare u (Reading s asks) = refl
    goes_bare u (Writing answer ws) = refl
    goes_bare u (Voting votes) = refl

    ticket_bare : (u : Undecided L) (k : Name) (tk : Option Name) → on_ticket t u a k c tk ≡ on_ticket t u a k (bare L c) tk
    ticket_bare u k None = goes_bare _ u.stage
    ticket_bare u k (Some j) = refl

    rows_bare : (u : Undecided L) (n : ℕ) (rows : L.Rows) (stage : Stage L) → is_stage_reading stage ≡ false → on_rows t u a n rows c stage ≡ on_rows t u a n rows (bare L c) stage
    rows_bare u n rows Idle none = refl
    rows_bare u n rows (Reading s asks) none = let e : true ≡ false = none in cc
    rows_bare u n rows (Writing answer ws) none = refl
    rows_bare u n rows (Voting votes) none = refl

    known_bare : (u : Undecided L) (b : Body L) → is_stage_reading u.stage ≡ false → on_known t u a kept c b ≡ on_known t u a kept (bare L c) b
    known_bare u (Ticket k) none = ticket_bare u k (u.ticket a)
    known_bare u (Rows k n rows) none = ap (λ (turn : Transition L). if is_named (u.ticket a) k then turn else stays (Known u)) (rows_bare u n rows u.stage none)
    known_bare u (Refused k reason) none = refl
    known_bare u (Voted k x) none = refl
    known_bare u Open none = refl
    known_bare u (Fetch k n g q) none = refl
    known_bare u (Write k n g x) none = refl
    known_bare u (Prepare k n) none = refl
    known_bare u (Commit k) none = refl
    known_bare u (Abort k) none = refl
    known_bare u (Ack k) none = refl
    known_bare u (Inquire k) none = refl

    pub desk_bare : (b : Body L) (x : Txn L) → is_reading x ≡ false → on_desk_letter t a kept c b x ≡ on_desk_letter t a kept (bare L c) b x
    desk_bare b (Known u) none = known_bare u b none
    desk_bare b Unknown none = refl
    desk_bare b (Row voters acked) none = refl

  pub comes_bare : (b : Bool) (w : World L) (kept : Bool) (c : Choice L) (l : Letter L) → is_reading (w.desk.txn l.txn) ≡ false → comes_to b w kept c l ≡ comes_to b w kept (bare L c) l
  comes_bare true w kept c l none = ap (turns w l.txn) (desk_bare l.txn l.site kept c l.body (w.desk.txn l.txn) none)
  comes_bare false w kept c l none = refl

  -- ---- a statement is accepted where no letter waits
  pub state_reads : (w : World L) (t : Name) (c : Choice L) (s : L.Statement) → w.letters ≡ [] → is_reading ((called w t c (State s)).desk.txn t) ≡ true → NoWrites (called w t c (State s)).letters
  state_reads w t c s silent = go (w.desk.txn t) refl
    where
      none : NoWrites w.letters
      none = subst NoWrites (sym silent) tt

      Fine : World L → Type 0
      Fine v = is_reading (v.desk.txn t) ≡ true → NoWrites v.letters

      of_turn : (turn : Transition L) → Reads turn → Fine (turns w t turn)
      of_turn turn reads = either Fine (is_desk_within (desk_after w.desk t turn.txn)) (turned w t turn) w
          (λ is. every_append (λ (x : Letter L). is_write x.body ≡ false) w.letters turn.letters none (reads (sym (ap is_reading (put_here same same_law t turn.txn w.desk.txn)) ∙ is))) (λ is. none)

      go : (x : Txn L) → w.desk.txn t ≡ x → Fine (turns w t (on_request t c (State s) (w.desk.txn t)))
      go Unknown is = subst (λ (y : Txn L). Fine (turns w t (on_request t c (State s) y))) (sym is) (of_turn _ (no_letters Unknown))
      go (Row voters acked) is = subst (λ (y : Txn L). Fine (turns w t (on_request t c (State s) y))) (sym is) (of_turn _ (no_letters (Row voters acked)))
      go (Known u) is = subst (λ (y : Txn L). Fine (turns w t (on_request t c (State s) y))) (sym is) (of_turn _ (state_read t u c s u.stage))

-- Each letter that waits is to or from one of the sites, so that none is passed over.
use Rattle.std.proofs.Common.{◌≡◌, refl, sym, ◌∙◌, subst, ℕ, ◌&&◌, not, Bool, true, false, List, [], ◌∷◌, ◌++◌, map, flat_map, Option, Some, None, is_some, is_none, inl, inr, ⊎_elim, ◌||◌}
use Rattle.std.specs.List.{list_all, list_any}
use Rattle.protocol.specs.StatementCourse.{Steady}
use Rattle.protocol.specs.Desk.{Aborted, Ask, By_refusal, By_store, By_vote, Choice, Commit_call, Deed, Give_up, Given_up, Idle, Known, Reading, Request, Rollback, Rolled_back, Row, Stage, State, Transition, Txn, Undecided, Unknown, Voting, Writing, after_letters, are_acked, are_all_in, asks_go, commits, counts, decides, desk_after, ends_by, is_desk_within, is_named, is_pair, is_undecided, on_commit_call, on_desk_letter, on_known, on_refused, on_request, on_rollback, on_row, on_rows, on_state, on_ticket, on_unknown, on_vote, opens, phases, states, ticket_goes, visits, voter_at, voters_of, votes_go, with_rows, works, writes_go, writes_out, writing}
use Rattle.protocol.specs.Language.{IsLawful, Lang, Name, put, same}
use Rattle.protocol.specs.Letter.{Body, Letter, Vote, Yes, No, Read, Open, Fetch, Write, Prepare, Commit, Abort, Ticket, Rows, Refused, Voted, Ack, Inquire, is_for_desk}
use Rattle.protocol.specs.Site.{Status, is_within, on_letter, said, site_after}
use Rattle.protocol.specs.VisitPlaces.{VisitPlace, asked, at, away, offered, works as is_working}
use Rattle.protocol.specs.World.{World, addressed, called, comes_to, turned, turns, with_site}
use Rattle.protocol.proofs.Basics.{Every, In, any_in, by_test, clash, either, every_append, put_all, same_law}
use Rattle.protocol.proofs.Going.{asks_each, writes_each}
use Rattle.protocol.proofs.Turns.{every_letter}
use Rattle.desk.specs.Database.{Database, language}
use Rattle.protocol.specs.Delivery.{Coming, IsFounded, Passed_over, Taken, Turned_away, first_comes}

every_found : {A B : Type 0} (P : B → Type 0) (f : A → List B) (xs : List A) → ((x : A) → In x xs → Every P (f x)) → Every P (flat_map f xs)
every_found P f [] all = tt
every_found P f (x ∷ xs) all = every_append P (f x) (flat_map f xs) (all x (inl refl)) (every_found P f xs (λ y here. all y (inr here)))

module _ {L : Lang} where
  -- to or from one of the sites
  abbrev pub IsSited : Letter L → Type 0
  IsSited l = In l.site L.sites

  abbrev pub AreSited : List (Letter L) → Type 0
  AreSited letters = Every IsSited letters

  -- a transaction has tickets of these sites alone
  abbrev pub HasSited : Txn L → Type 0
  HasSited Unknown = Unit {0}
  HasSited (Known u) = (a : L.Site) (k : Name) → u.ticket a ≡ Some k → In a L.sites
  HasSited (Row voters acked) = Unit {0}

  -- so after a turn, whose letters are for these sites
  abbrev pub TurnSited : Transition L → Type 0
  TurnSited turn = HasSited turn.txn × AreSited turn.letters

  -- so everywhere
  pub record Sited (w : World L) : Type 0 where
    pub letters : AreSited w.letters
    pub txns : (t : Name) → HasSited (w.desk.txn t)

-- those that voted Yes are sites
module _ (L : Lang) where
  abbrev VoterSited : L.Site × Name → Type 0
  VoterSited v = In v.0 L.sites

  commits_sited : (t : Name) (voters : List (L.Site × Name)) → Every VoterSited voters → AreSited {L = L} (commits t voters)
  commits_sited t [] all = tt
  commits_sited t (v ∷ voters) all = (all.0, commits_sited t voters all.1)

  voter_sited : (a : L.Site) → In a L.sites → (vote : Option Vote) (ticket : Option Name) → Every VoterSited (voter_at a vote ticket)
  voter_sited a here None ticket = tt
  voter_sited a here (Some Yes) None = tt
  voter_sited a here (Some Yes) (Some k) = (here, tt)
  voter_sited a here (Some No) ticket = tt
  voter_sited a here (Some Read) ticket = tt

  voters_sited : (u : Undecided L) (votes : L.Site → Option Vote) → Every VoterSited (voters_of u votes)
  voters_sited u votes = every_found VoterSited _ L.sites (λ a here. either (Every VoterSited) (u.visited a) _ _ (voter_sited a here (votes a) (u.ticket a)) tt)

module _ {L : Lang} where
  all_addressed : (a : L.Site) (t : Name) (bs : List (Body L)) → In a L.sites → AreSited (addressed a t bs)
  all_addressed a t [] here = tt
  all_addressed a t (b ∷ bs) here = (here, all_addressed a t bs here)

  -- ---- a statement
  module _ (t : Name) where
    asks_sited : (u : Undecided L) (s : L.Statement) (asks : List (Ask L)) → HasSited (Known u) → TurnSited (asks_go t u s asks)
    asks_sited u s asks have = (have, asks_each IsSited t u.ticket (λ g q k n own. have (L.home g) k own) asks u.sent)

    writing_sited : (u : Undecided L) (answer : L.Answer) (sent_to : L.Site → ℕ) (left : List (L.Leaf × L.Write)) (letters : List (Letter L)) → HasSited (Known u) → AreSited letters → TurnSited (writing t u answer sent_to left letters)
    writing_sited u answer sent_to [] letters have all = (have, all)
    writing_sited u answer sent_to (x ∷ ws) letters have all = (have, all)

    writes_sited : (u : Undecided L) (answer : L.Answer) (ws : List (L.Leaf × L.Write)) → HasSited (Known u) → TurnSited (writes_go t u answer ws)
    writes_sited u answer ws have =
        let out = writes_out {L = L} t u.ticket ws u.sent in
        writing_sited u answer out.sent out.left out.letters have (writes_each IsSited t u.ticket (λ g x k n own. have (L.home g) k own) ws u.sent)

    opens_sited : (u : Undecided L) (leaves : List L.Leaf) → AreSited (opens t u leaves)
    opens_sited u leaves = every_letter IsSited t _ L.sites (λ a b here e. here)

    behind : (letters : List (Letter L)) (turn : Transition L) → AreSited letters → TurnSited turn → TurnSited (after_letters letters turn)
    behind letters turn all s = (s.0, every_append IsSited letters turn.letters all s.1)

    works_sited : (u : Undecided L) (s : L.Statement) (asks : List (Ask L)) (c : Choice L) → HasSited (Known u) → TurnSited (works t u s asks c)
    works_sited u s asks c have =
        let leaves = map (λ (x : L.Leaf × L.Write). x.0) c.1 in
        behind (opens t u leaves) (writes_go t (visits u leaves) c.0 c.1) (opens_sited u leaves) (writes_sited (visits u leaves) c.0 c.1 have)

    states_sited : (u : Undecided L) (s : L.Statement) (asks : List (Ask L)) (c : Choice L) → HasSited (Known u) → TurnSited (states t u s asks c)
    states_sited u s [] c have = works_sited u s [] c have
    states_sited u s (q ∷ qs) c have =
        let leaves = map (λ (x : Ask L). x.leaf) (q ∷ qs) in
        behind (opens t u leaves) (asks_go t (visits u leaves) s (q ∷ qs)) (opens_sited u leaves) (asks_sited (visits u leaves) s (q ∷ qs) have)

    state_sited : (u : Undecided L) (s : L.Statement) (c : Choice L) (stage : Stage L) → HasSited (Known u) → TurnSited (on_state t u s c stage)
    state_sited u s c Idle have = states_sited u s _ c have
    state_sited u s c (Reading r asks) have = (have, tt)
    state_sited u s c (Writing answer ws) have = (have, tt)
    state_sited u s c (Voting votes) have = (have, tt)

    -- ---- an end
    ends_sited : (u : Undecided L) (d : Deed L) → TurnSited (ends_by t u d)
    ends_sited u d = (tt, every_letter IsSited t _ L.sites (λ a b here e. here))

    decides_sited : (u : Undecided L) (kept : Bool) (voters : List (L.Site × Name)) → Every (VoterSited L) voters → TurnSited (decides t u kept voters)
    decides_sited u kept [] all = either TurnSited (kept || not u.moves) _ _ (tt, tt) (ends_sited u (Aborted t By_store))
    decides_sited u kept (v ∷ voters) all = either TurnSited kept _ _ (tt, commits_sited L t (v ∷ voters) all) (ends_sited u (Aborted t By_store))

    votes_sited : (u : Undecided L) (votes : L.Site → Option Vote) (kept : Bool) → HasSited (Known u) → TurnSited (votes_go t u votes kept)
    votes_sited u votes kept have = either TurnSited (are_all_in u votes) _ _ (decides_sited (record u { stage = Voting votes }) kept (voters_of u votes) (voters_sited L u votes)) (have, tt)

    phases_sited : (u : Undecided L) → HasSited (Known u) → TurnSited (phases t u)
    phases_sited u have = ((votes_sited u (λ a. None) true have).0, every_letter IsSited t _ L.sites (λ a b here e. here))

    commit_sited : (u : Undecided L) (stage : Stage L) → HasSited (Known u) → TurnSited (on_commit_call t u stage)
    commit_sited u Idle have = phases_sited u have
    commit_sited u (Reading s asks) have = (have, tt)
    commit_sited u (Writing answer ws) have = (have, tt)
    commit_sited u (Voting votes) have = (have, tt)

    rollback_sited : (u : Undecided L) (stage : Stage L) → HasSited (Known u) → TurnSited (on_rollback t u stage)
    rollback_sited u Idle have = ends_sited u (Rolled_back t)
    rollback_sited u (Reading s asks) have = ends_sited u (Rolled_back t)
    rollback_sited u (Writing answer ws) have = ends_sited u (Rolled_back t)
    rollback_sited u (Voting votes) have = (have, tt)

    -- whatever is asked for
    pub request_sited : (c : Choice L) (request : Request L) (x : Txn L) → HasSited x → TurnSited (on_request t c request x)
    request_sited c (State s) (Known u) have = state_sited u s c u.stage have
    request_sited c Commit_call (Known u) have = commit_sited u u.stage have
    request_sited c Rollback (Known u) have = rollback_sited u u.stage have
    request_sited c Give_up (Known u) have = ends_sited u (Aborted t Given_up)
    request_sited c (State s) Unknown have = (tt, tt)
    request_sited c Commit_call Unknown have = (tt, tt)
    request_sited c Rollback Unknown have = (tt, tt)
    request_sited c Give_up Unknown have = (tt, tt)
    request_sited c (State s) (Row voters acked) have = (tt, tt)
    request_sited c Commit_call (Row voters acked) have = (tt, tt)
    request_sited c Rollback (Row voters acked) have = (tt, tt)
    request_sited c Give_up (Row voters acked) have = (tt, tt)

  -- ---- a letter comes to the coordinator
  module _ (law : IsLawful L) (t : Name) (a : L.Site) (here : In a L.sites) (kept : Bool) (c : Choice L) where
    ticket_sited : (u : Undecided L) (stage : Stage L) → HasSited (Known u) → TurnSited (ticket_goes t u c stage)
    ticket_sited u Idle have = (have, tt)
    ticket_sited u (Reading s asks) have = asks_sited t u s asks have
    ticket_sited u (Writing answer ws) have = writes_sited t u answer ws have
    ticket_sited u (Voting votes) have = (have, tt)

    first_sited : (u : Undecided L) (k : Name) (tk : Option Name) → HasSited (Known u) → TurnSited (on_ticket t u a k c tk)
    first_sited u k None have = ticket_sited (record u { ticket = put L.same_site a (Some k) u.ticket }) u.stage
        (λ b j. put_all L.same_site law.sites a (Some k) u.ticket (λ i (tk : Option Name). tk ≡ Some j → In i L.sites) (λ e. here) (λ i other e. have i j e) b)
    first_sited u k (Some j) have = either TurnSited (same j k) _ _ (have, tt) (have, (here, tt))

    rows_sited : (u : Undecided L) (n : ℕ) (rows : L.Rows) (stage : Stage L) → HasSited (Known u) → TurnSited (on_rows t u a n rows c stage)
    rows_sited u n rows Idle have = (have, tt)
    rows_sited u n rows (Writing answer ws) have = (have, tt)
    rows_sited u n rows (Voting votes) have = (have, tt)
    rows_sited u n rows (Reading s asks) have = either TurnSited (list_all (λ (q : Ask L). is_some q.rows) (map (with_rows s a n rows) asks)) _ _ (works_sited t u s (map (with_rows s a n rows) asks) c have) (have, tt)

    refused_sited : (u : Undecided L) (stage : Stage L) → HasSited (Known u) → TurnSited (on_refused t u stage)
    refused_sited u Idle have = ends_sited t u (Aborted t By_refusal)
    refused_sited u (Reading s asks) have = ends_sited t u (Aborted t By_refusal)
    refused_sited u (Writing answer ws) have = ends_sited t u (Aborted t By_refusal)
    refused_sited u (Voting votes) have = (have, tt)

    counts_sited : (u : Undecided L) (votes : L.Site → Option Vote) (x : Vote) → HasSited (Known u) → TurnSited (counts t u a votes kept x)
    counts_sited u votes Yes have = votes_sited t u _ kept have
    counts_sited u votes Read have = votes_sited t u _ kept have
    counts_sited u votes No have = ends_sited t (record u { stage = Voting (put L.same_site a (Some No) votes) }) (Aborted t By_vote)

    vote_sited : (u : Undecided L) (x : Vote) (stage : Stage L) → HasSited (Known u) → TurnSited (on_vote t u a kept x stage)
    vote_sited u x Idle have = (have, tt)
    vote_sited u x (Reading s asks) have = (have, tt)
    vote_sited u x (Writing answer ws) have = (have, tt)
    vote_sited u x (Voting votes) have = either TurnSited (is_none (votes a)) _ _ (counts_sited u votes x have) (have, tt)

    known_sited : (u : Undecided L) (b : Body L) → HasSited (Known u) → TurnSited (on_known t u a kept c b)
    known_sited u (Ticket k) have = first_sited u k (u.ticket a) have
    known_sited u (Rows k n rows) have = either TurnSited (is_named (u.ticket a) k) _ _ (rows_sited u n rows u.stage have) (have, tt)
    known_sited u (Refused k reason) have = either TurnSited (is_named (u.ticket a) k) _ _ (refused_sited u u.stage have) (have, tt)
    known_sited u (Voted k x) have = either TurnSited (is_named (u.ticket a) k) _ _ (vote_sited u x u.stage have) (have, tt)
    known_sited u Open have = (have, tt)
    known_sited u (Fetch k n g q) have = (have, tt)
    known_sited u (Write k n g x) have = (have, tt)
    known_sited u (Prepare k n) have = (have, tt)
    known_sited u (Commit k) have = (have, tt)
    known_sited u (Abort k) have = (have, tt)
    known_sited u (Ack k) have = (have, tt)
    known_sited u (Inquire k) have = (have, tt)

    unknown_sited : (b : Body L) → TurnSited (on_unknown t a b)
    unknown_sited (Ticket k) = (tt, (here, tt))
    unknown_sited (Inquire k) = (tt, (here, tt))
    unknown_sited Open = (tt, tt)
    unknown_sited (Fetch k n g q) = (tt, tt)
    unknown_sited (Write k n g x) = (tt, tt)
    unknown_sited (Prepare k n) = (tt, tt)
    unknown_sited (Commit k) = (tt, tt)
    unknown_sited (Abort k) = (tt, tt)
    unknown_sited (Rows k n rows) = (tt, tt)
    unknown_sited (Refused k reason) = (tt, tt)
    unknown_sited (Voted k x) = (tt, tt)
    unknown_sited (Ack k) = (tt, tt)

    row_sited : (voters acked : List (L.Site × Name)) (b : Body L) → TurnSited (on_row t voters acked a kept b)
    row_sited voters acked (Ack k) = either TurnSited (list_any (is_pair L a k) voters && not (list_any (is_pair L a k) acked)) _ _
        (either TurnSited (are_acked L voters (acked ++ (a, k) ∷ [])) _ _ (either TurnSited kept _ _ (tt, tt) (tt, tt)) (tt, tt)) (tt, tt)
    row_sited voters acked (Inquire k) = (tt, (here, tt))
    row_sited voters acked (Ticket k) = (tt, tt)
    row_sited voters acked Open = (tt, tt)
    row_sited voters acked (Fetch k n g q) = (tt, tt)
    row_sited voters acked (Write k n g x) = (tt, tt)
    row_sited voters acked (Prepare k n) = (tt, tt)
    row_sited voters acked (Commit k) = (tt, tt)
    row_sited voters acked (Abort k) = (tt, tt)
    row_sited voters acked (Rows k n rows) = (tt, tt)
    row_sited voters acked (Refused k reason) = (tt, tt)
    row_sited voters acked (Voted k x) = (tt, tt)

    desk_sited : (b : Body L) (x : Txn L) → HasSited x → TurnSited (on_desk_letter t a kept c b x)
    desk_sited b (Known u) have = known_sited u b have
    desk_sited b Unknown have = unknown_sited b
    desk_sited b (Row voters acked) have = row_sited voters acked b

  -- ---- worlds
  turns_sited : (w : World L) (t : Name) (turn : Transition L) → TurnSited turn → Sited w → Sited (turns w t turn)
  turns_sited w t turn s so_far = either Sited (is_desk_within (desk_after w.desk t turn.txn)) (turned w t turn) w (record {
    letters = every_append IsSited w.letters turn.letters so_far.letters s.1;
    txns = put_all same same_law t turn.txn w.desk.txn (λ i x. HasSited x) s.0 (λ i other. so_far.txns i);
  }) so_far

  pub called_sited : (w : World L) (t : Name) (c : Choice L) (request : Request L) → Sited w → Sited (called w t c request)
  called_sited w t c request so_far = turns_sited w t _ (request_sited t c request (w.desk.txn t) (so_far.txns t)) so_far

  comes_sited : (law : IsLawful L) (b : Bool) (w : World L) (kept : Bool) (c : Choice L) (l : Letter L) → IsSited l → Sited w → Sited (comes_to b w kept c l)
  comes_sited law true w kept c l here so_far = turns_sited w l.txn _ (desk_sited law l.txn l.site here kept c l.body (w.desk.txn l.txn) (so_far.txns l.txn)) so_far
  comes_sited law false w kept c l here so_far =
      let act = on_letter (w.sites l.site) l.txn kept l.body in
      let out = addressed l.site l.txn (said (w.sites l.site) act) in
      either Sited (is_within (site_after (w.sites l.site) act)) (with_site w l.site (site_after (w.sites l.site) act) out) w (record {
        letters = every_append IsSited w.letters out so_far.letters (all_addressed l.site l.txn _ here);
        txns = so_far.txns;
      }) so_far

  -- whatever becomes of the oldest letter
  pub come_sited : (law : IsLawful L) (w : World L) (c : Coming L) (letters : List (Letter L)) → w.letters ≡ letters → Sited w → Sited (first_comes w c letters)
  come_sited law w c [] e so_far = so_far
  come_sited law w (Taken kept choice) (l ∷ q) e so_far =
      let all = subst AreSited e so_far.letters in
      comes_sited law (is_for_desk l.body) (record w { letters = q }) kept choice l all.0 (record { letters = all.1; txns = so_far.txns })
  come_sited law w (Turned_away choice) (l ∷ q) e so_far = called_sited (record w { letters = q }) l.txn choice Give_up (record { letters = (subst AreSited e so_far.letters).1; txns = so_far.txns })
  come_sited law w Passed_over (l ∷ q) e so_far = record { letters = (subst AreSited e so_far.letters).1; txns = so_far.txns }

  -- ---- where a transaction is steady
  spot_visited : (f : Name → Status L) (b : Bool) (tk : Option Name) (n : ℕ) (bs : List (Body L)) (k : Name) → VisitPlace f b tk n bs → tk ≡ Some k → b ≡ true
  spot_visited f b tk n bs k (away x) is = let none = sym x.no_ticket ∙ is in cc
  spot_visited f b tk n bs k (asked x) is = x.visited
  spot_visited f b tk n bs k (offered j x) is = x.visited
  spot_visited f b tk n bs k (is_working j x) is = x.visited

  no_tickets : (x : Txn L) → is_undecided x ≡ false → HasSited x
  no_tickets Unknown none = tt
  no_tickets (Known u) none = let e : true ≡ false = none in cc
  no_tickets (Row voters acked) none = tt

  pub steady_sited : (t : Name) (w : World L) → Steady t w → Sited w
  steady_sited t w steady = record {
    letters = subst AreSited (sym steady.silent) tt;
    txns = λ j. ⊎_elim (λ is. subst (λ (i : Name). HasSited (w.desk.txn i)) (sym ((same_law j t).0 is)) own) (λ other. no_tickets (w.desk.txn j) (steady.stands.others j other)) (by_test (same j t));
  }
    where
      u : Undecided L
      u = steady.u

      own : HasSited (w.desk.txn t)
      own = subst HasSited (sym steady.known) (λ a k is. steady.stands.among a (spot_visited (w.sites a).status (u.visited a) (u.ticket a) (u.sent a) (at a w.letters) k (steady.stands.spots a) is))

-- no letter of a site is passed over
pub not_passed : (db : Database) (law : IsLawful (language db)) (w : World (language db)) (l : Letter (language db)) → IsSited l → IsFounded w Passed_over l → ⊥
not_passed db law w l sited none = clash (any_in (λ a. (language db).same_site a l.site) l.site db.sites sited ((law.sites l.site l.site).1 refl)) none

-- the oldest letter is of a site
pub first_is_sited : {L : Lang} (w : World L) (l : Letter L) (q : List (Letter L)) → w.letters ≡ l ∷ q → Sited w → IsSited l
first_is_sited w l q e so_far = (subst AreSited e so_far.letters).0

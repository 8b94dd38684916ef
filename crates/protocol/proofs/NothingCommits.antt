-- Where no ballot is on its way and no commit is asked for, nothing is committed.
use Rattle.std.proofs.Common.{◌≡◌, refl, sym, ap, ◌∙◌, subst, ℕ, suc, ◌==◌, ◌&&◌, ◌||◌, Bool, true, false, List, [], ◌∷◌, ◌++◌, map, filter, Option, Some, None, append_assoc, append-nil}
use Rattle.protocol.specs.Language.{Lang, Name}
use Rattle.protocol.specs.Letter.{Body, Open, Fetch, Write, Prepare, Commit, Abort, Ticket, Rows, Refused, Voted, Ack, Inquire, Letter, is_for_desk}
use Rattle.protocol.specs.Site.{SiteState, Status, Dead, Active, Prepared, Act, is_within, on_letter, on_fetch, on_write, on_commit, on_abort, others_exclusive, said, site_after}
use Rattle.protocol.specs.Desk.{Ask, Choice, Undecided, Txn, Known, Deed, Began, Stated, Worked, Answered, Phased, Committed, Aborted, Rolled_back, By_refusal, Given_up, State, Commit_call, Rollback, Give_up, Transition, when, ends_by, on_state, stays, to_abort, may_hold, vote_at, with_rows, desk_after, desk_began, is_desk_within, next_txn, asks_go, writing, writes_go, writes_out, works, states, opens, visits, is_new, Idle}
use Rattle.protocol.specs.World.{World, addressed, begins, begun, called, comes, comes_to, turned, turns}
use Rattle.protocol.specs.Serial.{commits_it, committed, is_committed, phases_of}
use Rattle.protocol.specs.NothingCommits.{AreInVain, is_of_commit}
use Rattle.protocol.proofs.Basics.{Every, every_append, either, some_is}
use Rattle.protocol.proofs.DeskTable.{Cause, asked, came, Turned, ticketed, rests, accepts, begins_phase, rolls_back, is_given_up, takes_ticket, fetches, writes, turns_away, takes_rows, evaluates, is_refused, counts_no, counts_vote, presumes_abort, tells_abort, tells_commit, counts_ack, lets_row_go, request_turned, letter_turned}
use Rattle.protocol.proofs.Turns.{every_letter}
use Rattle.protocol.proofs.Going.{asks_each, first_written, opening_is, writes_each}

module _ {L : Lang} where
  -- ---- deeds
  none_phased : (deeds : List (Deed L)) → AreInVain deeds → phases_of deeds ≡ []
  none_phased [] vain = refl
  none_phased (Phased t ∷ deeds) vain = let e : true ≡ false = vain.0 in cc
  none_phased (Committed t ∷ deeds) vain = none_phased deeds vain.1
  none_phased (Began t ∷ deeds) vain = none_phased deeds vain.1
  none_phased (Stated t s ∷ deeds) vain = none_phased deeds vain.1
  none_phased (Worked t s asks choice ∷ deeds) vain = none_phased deeds vain.1
  none_phased (Answered t answer ∷ deeds) vain = none_phased deeds vain.1
  none_phased (Aborted t why ∷ deeds) vain = none_phased deeds vain.1
  none_phased (Rolled_back t ∷ deeds) vain = none_phased deeds vain.1

  none_commits : (deeds : List (Deed L)) (t : Name) → AreInVain deeds → is_committed deeds t ≡ false
  none_commits [] t vain = refl
  none_commits (Committed u ∷ deeds) t vain = let e : true ≡ false = vain.0 in cc
  none_commits (Phased u ∷ deeds) t vain = none_commits deeds t vain.1
  none_commits (Began u ∷ deeds) t vain = none_commits deeds t vain.1
  none_commits (Stated u s ∷ deeds) t vain = none_commits deeds t vain.1
  none_commits (Worked u s asks choice ∷ deeds) t vain = none_commits deeds t vain.1
  none_commits (Answered u answer ∷ deeds) t vain = none_commits deeds t vain.1
  none_commits (Aborted u why ∷ deeds) t vain = none_commits deeds t vain.1
  none_commits (Rolled_back u ∷ deeds) t vain = none_commits deeds t vain.1

  phases_still : (past deeds : List (Deed L)) → AreInVain deeds → phases_of (past ++ deeds) ≡ phases_of past
  phases_still [] deeds vain = none_phased deeds vain
  phases_still (d ∷ past) deeds vain = ap (λ ts. Rattle.protocol.specs.Serial.phased_of d ++ ts) (phases_still past deeds vain)

  commits_still : (past deeds : List (Deed L)) (t : Name) → AreInVain deeds → is_committed (past ++ deeds) t ≡ is_committed past t
  commits_still [] deeds t vain = none_commits deeds t vain
  commits_still (d ∷ past) deeds t vain = ap (λ b. commits_it t d || b) (commits_still past deeds t vain)

  pub committed_still : (past deeds : List (Deed L)) → AreInVain deeds → committed (past ++ deeds) ≡ committed past
  committed_still past deeds vain = λ i. filter (λ t. commits_still past deeds t vain i) (phases_still past deeds vain i)

  -- ---- letters
  abbrev pub is_ballot : Body L → Bool
  is_ballot (Prepare k n) = true
  is_ballot (Voted k vote) = true
  is_ballot body = false

  abbrev pub AreCalm : List (Letter L) → Type 0
  AreCalm letters = Every (λ l. is_ballot l.body ≡ false) letters

  module _ (s : SiteState L) (t : Name) (kept : Bool) where
    abbrev Quiet : Act L → Type 0
    Quiet act = Every (λ c. is_ballot c ≡ false) (said s act)

    fetch_quiet : (k : Name) (op : ℕ) (g : L.Leaf) (q : L.Query) (st : Status L) → Quiet (on_fetch s kept k op g q st)
    fetch_quiet k op g q Dead = (refl, tt)
    fetch_quiet k op g q (Prepared u i) = tt
    fetch_quiet k op g q (Active v) = either Quiet (op == suc v.done) _ _ (either Quiet (others_exclusive s k g) _ _ (refl, tt) (either Quiet kept _ _ (refl, tt) tt)) tt

    write_quiet : (k : Name) (op : ℕ) (g : L.Leaf) (x : L.Write) (st : Status L) → Quiet (on_write k op g x st)
    write_quiet k op g x Dead = tt
    write_quiet k op g x (Prepared u i) = tt
    write_quiet k op g x (Active v) = either Quiet (op == suc v.done) _ _ (either Quiet (v.foreign g) _ _ (refl, tt) (either Quiet (L.is_full g x v.changes) _ _ (refl, tt) tt)) tt

    commit_quiet : (k : Name) (st : Status L) → Quiet (on_commit kept k st)
    commit_quiet k Dead = (refl, tt)
    commit_quiet k (Active v) = (refl, tt)
    commit_quiet k (Prepared u i) = either Quiet kept _ _ (refl, tt) tt

    abort_quiet : (k : Name) (st : Status L) → Quiet (on_abort kept k st)
    abort_quiet k Dead = tt
    abort_quiet k (Active v) = tt
    abort_quiet k (Prepared u i) = either Quiet kept _ _ tt tt

    site_quiet : (b : Body L) → is_ballot b ≡ false → Quiet (on_letter s t kept b)
    site_quiet Open none = (refl, tt)
    site_quiet (Fetch k op g q) none = fetch_quiet k op g q (s.status k)
    site_quiet (Write k op g x) none = write_quiet k op g x (s.status k)
    site_quiet (Prepare k n) none = let e : true ≡ false = none in cc
    site_quiet (Commit k) none = commit_quiet k (s.status k)
    site_quiet (Abort k) none = abort_quiet k (s.status k)
    site_quiet (Ticket k) none = tt
    site_quiet (Rows k n rows) none = tt
    site_quiet (Refused k reason) none = tt
    site_quiet (Voted k vote) none = tt
    site_quiet (Ack k) none = tt
    site_quiet (Inquire k) none = tt

  -- ---- turns
  record Mild (turn : Transition L) : Type 0 where
    letters : AreCalm turn.letters
    deeds : AreInVain turn.deeds

  stays_mild : (x : Txn L) → Mild (stays x)
  stays_mild x = record { letters = tt; deeds = tt }

  abort_calm : (b : Bool) (k : Option Name) (c : Body L) → when b (to_abort k) ≡ Some c → is_ballot c ≡ false
  abort_calm true None c e = cc
  abort_calm true (Some k) c e = subst (λ x. is_ballot x ≡ false) (some_is e) refl
  abort_calm false k c e = cc

  ends_mild : (t : Name) (u : Undecided L) (d : Deed L) → is_of_commit d ≡ false → Mild (ends_by t u d)
  ends_mild t u d none = record {
    letters = every_letter (λ l. is_ballot l.body ≡ false) t _ L.sites (λ a b here e. abort_calm (u.visited a && may_hold (vote_at u.stage a)) (u.ticket a) b e);
    deeds = (none, tt);
  }

  asks_mild : (t : Name) (u : Undecided L) (s : L.Statement) (asks : List (Ask L)) → Mild (asks_go t u s asks)
  asks_mild t u s asks = record { letters = asks_each (λ l. is_ballot l.body ≡ false) t u.ticket (λ g q k n e. refl) asks u.sent; deeds = tt }

  writing_mild : (t : Name) (v : Undecided L) (answer : L.Answer) (sent : L.Site → ℕ) (left : List (L.Leaf × L.Write)) (letters : List (Letter L)) → AreCalm letters → Mild (writing t v answer sent left letters)
  writing_mild t v answer sent [] letters calm = record { letters = calm; deeds = (refl, tt) }
  writing_mild t v answer sent (x ∷ ws) letters calm = record { letters = calm; deeds = tt }

  writes_mild : (t : Name) (u : Undecided L) (answer : L.Answer) (ws : List (L.Leaf × L.Write)) → Mild (writes_go t u answer ws)
  writes_mild t u answer ws = writing_mild t u answer _ _ _ (writes_each (λ l. is_ballot l.body ≡ false) t u.ticket (λ g x k m e. refl) ws u.sent)

  opens_calm : (t : Name) (u : Undecided L) (leaves : List L.Leaf) → AreCalm (opens t u leaves)
  opens_calm t u leaves = every_letter (λ l. is_ballot l.body ≡ false) t _ L.sites (λ a b here e. subst (λ c. is_ballot c ≡ false) (sym (opening_is (is_new u leaves a) b e).1) refl)

  works_mild : (t : Name) (u : Undecided L) (s : L.Statement) (asks : List (Ask L)) (choice : Choice L) → Mild (works t u s asks choice)
  works_mild t u s asks choice =
      let leaves = map (λ (x : L.Leaf × L.Write). x.0) choice.1 in
      let out = writes_out {L = L} t u.ticket choice.1 u.sent in
      let mild = writing_mild t (visits u leaves) choice.0 out.sent out.left (opens t u leaves ++ out.letters)
      (every_append (λ l. is_ballot l.body ≡ false) (opens t u leaves) out.letters (opens_calm t u leaves) (writes_each (λ l. is_ballot l.body ≡ false) t u.ticket (λ g x k m e. refl) choice.1 u.sent)) in
      let same_ = subst Mild (sym (first_written t (visits u leaves) choice.0 (opens t u leaves) out.sent out.left out.letters)) mild in
      record { letters = same_.letters; deeds = (refl, same_.deeds) }

  states_mild : (t : Name) (u : Undecided L) (s : L.Statement) (asks : List (Ask L)) (choice : Choice L) → Mild (states t u s asks choice)
  states_mild t u s [] choice = works_mild t u s [] choice
  states_mild t u s (q ∷ qs) choice =
      let leaves = map (λ (x : Ask L). x.leaf) (q ∷ qs) in
      let mild = asks_mild t (visits u leaves) s (q ∷ qs) in
      record { letters = every_append (λ l. is_ballot l.body ≡ false) (opens t u leaves) (asks_go t (visits u leaves) s (q ∷ qs)).letters (opens_calm t u leaves) mild.letters; deeds = mild.deeds }

  -- a statement commits nobody
  pub state_commits_none : (t : Name) (u : Undecided L) (s : L.Statement) (choice : Choice L) (j : Name) → is_committed (on_state t u s choice Idle).deeds j ≡ false
  state_commits_none t u s choice j = none_commits (states t u s _ choice).deeds j (states_mild t u s _ choice).deeds

  -- whether a turn comes of a ballot, or of a client that asks for a commit
  abbrev is_of_phase : Cause L → Bool
  is_of_phase (asked Commit_call) = true
  is_of_phase (asked request) = false
  is_of_phase (came a kept b) = is_ballot b

  turned_mild : (t : Name) (choice : Choice L) (c : Cause L) (x : Txn L) (turn : Transition L) → is_of_phase c ≡ false → Turned t choice c x turn → Mild turn
  turned_mild t choice c x turn none (rests d y) = stays_mild y
  turned_mild t choice c x turn none (accepts u s idle) = let mild = states_mild t u s _ choice in record { letters = mild.letters; deeds = (refl, mild.deeds) }
  turned_mild t choice c x turn none (begins_phase u idle) = let e : true ≡ false = none in cc
  turned_mild t choice c x turn none (rolls_back u calm) = ends_mild t u (Rolled_back t) refl
  turned_mild t choice c x turn none (is_given_up u) = ends_mild t u (Aborted t Given_up) refl
  turned_mild t choice c x turn none (takes_ticket u a kept k free) = stays_mild (Known (ticketed u a k))
  turned_mild t choice c x turn none (fetches u a kept k s asks free stage) = asks_mild t (ticketed u a k) s asks
  turned_mild t choice c x turn none (writes u a kept k answer ws free stage) = writes_mild t (ticketed u a k) answer ws
  turned_mild t choice c x turn none (turns_away u a kept k j own other) = record { letters = (refl, tt); deeds = tt }
  turned_mild t choice c x turn none (takes_rows u a kept k n rows s asks own stage) = stays_mild _
  turned_mild t choice c x turn none (evaluates u a kept k n rows s asks own stage all) = works_mild t u s (map (with_rows s a n rows) asks) choice
  turned_mild t choice c x turn none (is_refused u a kept k reason own calm) = ends_mild t u (Aborted t By_refusal) refl
  turned_mild t choice c x turn none (counts_no u a kept k votes own stage) = let e : true ≡ false = none in cc
  turned_mild t choice c x turn none (counts_vote u a kept k v votes own stage not_no) = let e : true ≡ false = none in cc
  turned_mild t choice c x turn none (presumes_abort a kept k) = record { letters = (refl, tt); deeds = tt }
  turned_mild t choice c x turn none (tells_abort a kept k) = record { letters = (refl, tt); deeds = tt }
  turned_mild t choice c x turn none (tells_commit voters acked a kept k) = record { letters = (refl, tt); deeds = tt }
  turned_mild t choice c x turn none (counts_ack voters acked a kept k) = stays_mild _
  turned_mild t choice c x turn none (lets_row_go voters acked a kept k all) = stays_mild _

  -- ---- worlds: what happens from one to another is in vain, and no ballot waits
  pub record Vainly (w v : World L) : Type 0 where
    pub more : List (Deed L)
    pub vain : AreInVain more
    pub is : v.past ≡ w.past ++ more
    pub calm : AreCalm v.letters

  pub vainly_none : (w : World L) → AreCalm w.letters → Vainly w w
  vainly_none w calm = record { more = []; vain = tt; is = sym (append-nil w.past); calm = calm }

  pub vainly_then : (w v u : World L) → Vainly w v → Vainly v u → Vainly w u
  vainly_then w v u one two = record {
    more = one.more ++ two.more;
    vain = every_append (λ d. is_of_commit d ≡ false) one.more two.more one.vain two.vain;
    is = two.is ∙ ap (λ past. past ++ two.more) one.is ∙ append_assoc w.past one.more two.more;
    calm = two.calm;
  }

  turns_vainly : (w : World L) (t : Name) (turn : Transition L) → AreCalm w.letters → Mild turn → Vainly w (turns w t turn)
  turns_vainly w t turn calm mild = either (Vainly w) (is_desk_within (desk_after w.desk t turn.txn)) (turned w t turn) w
      (record { more = turn.deeds; vain = mild.deeds; is = refl; calm = every_append (λ l. is_ballot l.body ≡ false) w.letters turn.letters calm mild.letters }) (vainly_none w calm)

  pub begins_vainly : (w : World L) → AreCalm w.letters → Vainly w (begins w)
  begins_vainly w calm = either (Vainly w) (is_desk_within (desk_began w.desk)) (begun false w) w (record { more = Began (next_txn w.desk) ∷ []; vain = (refl, tt); is = refl; calm = calm }) (vainly_none w calm)

  module _ (w : World L) (calm : AreCalm w.letters) (t : Name) (choice : Choice L) where
    pub state_vainly : (s : L.Statement) → Vainly w (called w t choice (State s))
    state_vainly s = turns_vainly w t _ calm (turned_mild t choice _ _ _ refl (request_turned t choice (State s) (w.desk.txn t)))

    pub rollback_vainly : Vainly w (called w t choice Rollback)
    rollback_vainly = turns_vainly w t _ calm (turned_mild t choice _ _ _ refl (request_turned t choice Rollback (w.desk.txn t)))

    pub give_up_vainly : Vainly w (called w t choice Give_up)
    give_up_vainly = turns_vainly w t _ calm (turned_mild t choice _ _ _ refl (request_turned t choice Give_up (w.desk.txn t)))

  pub comes_vainly : (w : World L) (kept : Bool) (choice : Choice L) (l : Letter L) → is_ballot l.body ≡ false → AreCalm w.letters → Vainly w (comes w kept choice l)
  comes_vainly w kept choice l none calm = go (is_for_desk l.body)
    where
      out : List (Letter L)
      out = addressed l.site l.txn (said (w.sites l.site) (on_letter (w.sites l.site) l.txn kept l.body))

      said_calm : AreCalm out
      said_calm = every_bodies (said (w.sites l.site) (on_letter (w.sites l.site) l.txn kept l.body)) (site_quiet (w.sites l.site) l.txn kept l.body none)
        where
          every_bodies : (bs : List (Body L)) → Every (λ c. is_ballot c ≡ false) bs → AreCalm (addressed l.site l.txn bs)
          every_bodies [] all = tt
          every_bodies (b ∷ bs) all = (all.0, every_bodies bs all.1)

      go : (b : Bool) → Vainly w (comes_to b w kept choice l)
      go true = turns_vainly w l.txn _ calm (turned_mild l.txn choice _ _ _ none (letter_turned l.txn choice l.site kept l.body (w.desk.txn l.txn)))
      go false = either (Vainly w) (is_within (site_after (w.sites l.site) (on_letter (w.sites l.site) l.txn kept l.body))) _ w
          (record { more = []; vain = tt; is = sym (append-nil w.past); calm = every_append (λ m. is_ballot m.body ≡ false) w.letters out calm said_calm }) (vainly_none w calm)

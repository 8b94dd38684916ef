-- One client's statement from its beginning to its answer, letter by letter.
use Rattle.std.proofs.Common.{◌≡◌, refl, sym, ap, ◌∙◌, subst, ℕ, Bool, true, false, List, [], ◌∷◌, ◌++◌, map, if◌then◌else◌, Option, Some, is_some, ◌⊎◌, inl, inr, ⊎_elim}
use Rattle.std.specs.Prelude.{⊤}
use Rattle.std.specs.List.{list_all}
use Rattle.protocol.specs.Language.{Lang, IsLawful, Name}
use Rattle.protocol.specs.Letter.{Body, Open, Fetch, Write, Prepare, Commit, Abort, Ticket, Rows, Refused, Voted, Ack, Inquire, Letter, is_for_desk}
use Rattle.protocol.specs.Site.{SiteState, Status, on_letter, site_after, said}
use Rattle.protocol.specs.Desk.{Ask, Choice, Idle, Undecided, Known, Deed, Stated, Worked, Answered, State, ticket_goes, stays, is_named, on_request, on_state, on_known, on_ticket, on_rows, on_desk_letter, desk_after, is_desk_within}
use Rattle.protocol.specs.World.{World, addressed, with_site, turned, called, comes_to}
use Rattle.protocol.specs.Client.{first, next}
use Rattle.protocol.specs.VisitPlaces.{at, VisitPlace, Works, Flow, away, asked, offered, works}
use Rattle.protocol.specs.StatementCourse.{AtSites, Stands, AskWaits, came, unsent, sent, told, AskStands, Far, reads, writes, is_answered, InStatement, Steady, RowsFit, Room, passes_to, Well}
use Rattle.protocol.specs.Rounds.{is_reading, is_stage_reading}
use Rattle.protocol.proofs.Basics.{Every, In, every_more, in_right, if_true, same_refl, clash}
use Rattle.protocol.proofs.Locks.{Once}
use Rattle.protocol.proofs.Queue.{at_append, at_here}
use Rattle.protocol.proofs.AtSite.{fetch_acts, head_is}
use Rattle.protocol.proofs.AtDesk.{site_stands}
use Rattle.protocol.proofs.StatementMeetsNoLock.{with_ticket, ticket_came, first_ticket, rows_came}
use Rattle.protocol.proofs.Waiting.{in_at, all_came, none_unsent}
use Rattle.protocol.proofs.Stating.{GoesOn, turned_on, ticket_on, rows_on, states_on}

module _ {L : Lang} where
  -- the letters that wait while a statement works
  abbrev pub OfStatement : Body L → Type 0
  OfStatement Open = ⊤
  OfStatement (Fetch k op g q) = ⊤
  OfStatement (Write k op g x) = ⊤
  OfStatement (Ticket k) = ⊤
  OfStatement (Rows k n rows) = ⊤
  OfStatement body = ⊥

  flow_head : (k : Name) (d n : ℕ) (c : Body L) (bs : List (Body L)) → Flow k d n (c ∷ bs) → OfStatement c
  flow_head k d n Open bs flow = absurd flow
  flow_head k d n (Fetch j m g q) bs flow = tt
  flow_head k d n (Write j m g x) bs flow = tt
  flow_head k d n (Rows j m rows) bs flow = tt
  flow_head k d n (Prepare j m) bs flow = absurd flow
  flow_head k d n (Commit j) bs flow = absurd flow
  flow_head k d n (Abort j) bs flow = absurd flow
  flow_head k d n (Ticket j) bs flow = absurd flow
  flow_head k d n (Refused j reason) bs flow = absurd flow
  flow_head k d n (Voted j x) bs flow = absurd flow
  flow_head k d n (Ack j) bs flow = absurd flow
  flow_head k d n (Inquire j) bs flow = absurd flow

  pub spot_head : (f : Name → Status L) (b : Bool) (tk : Option Name) (n : ℕ) (c : Body L) (bs : List (Body L)) → VisitPlace f b tk n (c ∷ bs) → OfStatement c
  spot_head f b tk n c bs (away s) = let e : c ∷ bs ≡ [] = s.silent in cc
  spot_head f b tk n c bs (asked s) = subst OfStatement (sym (head_is c Open bs [] s.waits)) tt
  spot_head f b tk n c bs (offered k s) = subst OfStatement (sym (head_is c (Ticket k) bs [] s.waits)) tt
  spot_head f b tk n c bs (works k s) = flow_head k s.visit.done n c bs s.flow

  -- what a fetch brings
  fetch_said : (y : L.Statement) (s : SiteState L) (t : Name) (b : Bool) (tk : Option Name) (n : ℕ) (k : Name) (op : ℕ) (g : L.Leaf) (q : L.Query) (bs : List (Body L)) (a : L.Site) → L.home g ≡ a → RowsFit y a s (Fetch k op g q) → VisitPlace s.status b tk n (Fetch k op g q ∷ bs) →
      (rows : L.Rows) × (L.well_formed y g rows ≡ true) × (said s (on_letter s t true (Fetch k op g q)) ≡ Rows k op rows ∷ [])
  fetch_said y s t b tk n k op g q bs a home fit (away p) = let e : Fetch k op g q ∷ bs ≡ [] = p.silent in cc
  fetch_said y s t b tk n k op g q bs a home fit (asked p) = let e : Fetch k op g q ∷ bs ≡ Open ∷ [] = p.waits in cc
  fetch_said y s t b tk n k op g q bs a home fit (offered j p) = let e : Fetch k op g q ∷ bs ≡ Ticket j ∷ [] = p.waits in cc
  fetch_said y s t b tk n k op g q bs a home fit (works j p) =
      let w : Works k s.status b tk n (Fetch k op g q ∷ bs) = subst (λ i. Works i s.status b tk n (Fetch k op g q ∷ bs)) (sym p.flow.0) p in
      (L.parts q (L.changed g w.visit.changes (s.kept g)), fit home w.visit w.active, ap (said s) (fetch_acts s b tk n k bs op g q w))

  -- a letter comes to its site: what is awaited is on its way still
  module _ (law : IsLawful L) (t : Name) (s : L.Statement) (before : List (Deed L)) (u : Undecided L) (w : World L) (l : Letter L) (q : List (Letter L)) (e : w.letters ≡ l ∷ q) (stands : Stands t u w) (fit : is_stage_reading u.stage ≡ true → RowsFit s l.site (w.sites l.site) l.body) (to_site : is_for_desk l.body ≡ false) where
    abbrev out : List (Letter L)
    out = addressed l.site l.txn (said (w.sites l.site) (on_letter (w.sites l.site) l.txn true l.body))

    front : VisitPlace (w.sites l.site).status (u.visited l.site) (u.ticket l.site) (u.sent l.site) (l.body ∷ at l.site q)
    front = subst (VisitPlace (w.sites l.site).status (u.visited l.site) (u.ticket l.site) (u.sent l.site)) (ap (at l.site) e ∙ if_true (L.same_site l.site l.site) (l.body ∷ at l.site q) (at l.site q) ((law.sites l.site l.site).1 refl)) (stands.spots l.site)

    answered_here : is_stage_reading u.stage ≡ true → (x : Ask L) (k : Name) (n : ℕ) → x.number ≡ Some n → L.same_site (L.home x.leaf) l.site ≡ true → Fetch k n x.leaf x.query ≡ l.body → AskWaits s u (q ++ out) x
    answered_here reading x k n number here is =
        let a = l.site in
        let told_ = fetch_said s (w.sites a) l.txn (u.visited a) (u.ticket a) (u.sent a) k n x.leaf x.query (at a q) a ((law.sites (L.home x.leaf) a).0 here) (subst (RowsFit s a (w.sites a)) (sym is) (fit reading)) (subst (λ c. VisitPlace (w.sites a).status (u.visited a) (u.ticket a) (u.sent a) (c ∷ at a q)) (sym is) front) in
        told k n told_.0 number told_.1
        (subst (In (Rows k n told_.0)) (sym (at_append (L.home x.leaf) q out)) (in_right (Rows k n told_.0) (at (L.home x.leaf) q) (at (L.home x.leaf) out)
        (subst (In (Rows k n told_.0)) (sym (at_here (L.home x.leaf) a l.txn _ here ∙ ap (λ c. said (w.sites a) (on_letter (w.sites a) l.txn true c)) (sym is) ∙ told_.2)) (inl refl))))

    still_waits : is_stage_reading u.stage ≡ true → (x : Ask L) → AskWaits s u w.letters x → AskWaits s u (q ++ out) x
    still_waits reading x waits = go (subst (λ z. AskWaits s u z x) e waits)
      where
        rest : (c : Body L) → In c (at (L.home x.leaf) q) → In c (at (L.home x.leaf) (q ++ out))
        rest c here = in_at (L.home x.leaf) c q out here

        found : (c : Body L) (b : Bool) → In c (if b then l.body ∷ at (L.home x.leaf) q else at (L.home x.leaf) q) → ((b ≡ true) × (c ≡ l.body)) ⊎ In c (at (L.home x.leaf) q)
        found c true (inl is) = inl (refl, is)
        found c true (inr below) = inr below
        found c false here = inr here

        go : AskWaits s u (l ∷ q) x → AskWaits s u (q ++ out) x
        go (came is) = came is
        go (unsent number visited none) = unsent number visited none
        go (sent k n number here) = ⊎_elim (λ f. answered_here reading x k n number f.0 f.1) (λ below. sent k n number (rest (Fetch k n x.leaf x.query) below)) (found (Fetch k n x.leaf x.query) (L.same_site (L.home x.leaf) l.site) here)
        go (told k n rows number fits here) = ⊎_elim (λ f. clash (ap is_for_desk (sym f.1)) to_site) (λ below. told k n rows number fits (rest (Rows k n rows) below)) (found (Rows k n rows) (L.same_site (L.home x.leaf) l.site) here)

    pub site_far : (past : List (Deed L)) → Far t s before u w.letters past → Far t s before u (q ++ out) past
    site_far past (reads asks is missing all deeds) = reads asks is missing (every_more (AskStands s u w.letters) (AskStands s u (q ++ out)) asks (λ x a. record { home = a.home; visited = a.visited; waits = still_waits (ap is_stage_reading is) x a.waits }) all) deeds
    site_far past (writes asks choice x ws is all deeds) = writes asks choice x ws is all deeds
    site_far past (is_answered asks choice is deeds) = is_answered asks choice is deeds

  module _ (law : IsLawful L) (once : Once L.sites) (t : Name) (s : L.Statement) where
    -- ---- a letter comes to the coordinator
    module _ (before : List (Deed L)) (w : World L) (at_ : InStatement t s before w) (a : L.Site) (q : List (Letter L)) (kept : Bool) (choice : Choice L) (homes : AtSites L (map (λ x. x.0) choice.1)) where
      abbrev w1 : World L
      w1 = record w { letters = q }

      ticket_step : (k : Name) → w.letters ≡ record { site = a; txn = t; body = Ticket k } ∷ q → InStatement t s before (turned w1 t (on_ticket t at_.u a k choice (at_.u.ticket a)))
      ticket_step k e =
          let none = first_ticket law t at_.u w a q at_.stands k e in
          subst (λ tk. InStatement t s before (turned w1 t (on_ticket t at_.u a k choice tk))) (sym none)
          (turned_on t s before (with_ticket at_.u a k) w1 (ticket_goes t (with_ticket at_.u a k) choice at_.u.stage) (ticket_came law t at_.u w a q at_.stands k e)
          (ticket_on law once t s before at_.u a q w.past k choice none (subst (λ x. Far t s before at_.u x w.past) e at_.far)))

      rows_step : (k : Name) (n : ℕ) (rows : L.Rows) → w.letters ≡ record { site = a; txn = t; body = Rows k n rows } ∷ q → InStatement t s before (turned w1 t (if is_named (at_.u.ticket a) k then on_rows t at_.u a n rows choice at_.u.stage else stays (Known at_.u)))
      rows_step k n rows e =
          let here = rows_came law t at_.u w a q at_.stands k n rows e in
          subst (λ turn. InStatement t s before (turned w1 t turn)) (sym (if_true (is_named (at_.u.ticket a) k) _ _ (ap (λ tk. is_named tk k) here.1 ∙ same_refl k)))
          (turned_on t s before at_.u w1 (on_rows t at_.u a n rows choice at_.u.stage) here.0
          (rows_on law once t s before at_.u a q w.past k n rows choice homes (subst (λ x. Far t s before at_.u x w.past) e at_.far)))

      known_step : (b : Body L) → is_for_desk b ≡ true → OfStatement b → w.letters ≡ record { site = a; txn = t; body = b } ∷ q → InStatement t s before (turned w1 t (on_known t at_.u a kept choice b))
      known_step (Ticket k) to_desk of e = ticket_step k e
      known_step (Rows k n rows) to_desk of e = rows_step k n rows e
      known_step Open to_desk of e = cc
      known_step (Fetch k op g x) to_desk of e = cc
      known_step (Write k op g x) to_desk of e = cc
      known_step (Prepare k n) to_desk of e = cc
      known_step (Commit k) to_desk of e = cc
      known_step (Abort k) to_desk of e = cc
      known_step (Refused k reason) to_desk of e = absurd of
      known_step (Voted k vote) to_desk of e = absurd of
      known_step (Ack k) to_desk of e = absurd of
      known_step (Inquire k) to_desk of e = absurd of

    -- a letter that waits comes, and is taken as it should be
    module _ (bare : (g : L.Leaf) → L.touches g L.none ≡ false) (before : List (Deed L)) (w : World L) (at_ : InStatement t s before w) (kept : Bool) (choice : Choice L) (l : Letter L) (q : List (Letter L)) (e : w.letters ≡ l ∷ q) (E : Type 0) (well : Well E s w kept choice l) (room : Room (w.sites l.site) l.body) where
      own : l.txn ≡ t
      own = (subst (Every (λ x. x.txn ≡ t)) e at_.stands.alone).0

      head_of : OfStatement l.body
      head_of = spot_head (w.sites l.site).status (at_.u.visited l.site) (at_.u.ticket l.site) (at_.u.sent l.site) l.body (at l.site q)
          (subst (VisitPlace (w.sites l.site).status (at_.u.visited l.site) (at_.u.ticket l.site) (at_.u.sent l.site)) (ap (at l.site) e ∙ if_true (L.same_site l.site l.site) (l.body ∷ at l.site q) (at l.site q) ((law.sites l.site l.site).1 refl)) (at_.stands.spots l.site))

      at_desk : is_for_desk l.body ≡ true → InStatement t s before (turned (record w { letters = q }) l.txn (on_desk_letter l.txn l.site kept choice l.body (w.desk.txn l.txn)))
      at_desk to_desk = subst (λ j. InStatement t s before (turned (record w { letters = q }) j (on_desk_letter j l.site kept choice l.body (w.desk.txn j)))) (sym own)
          (subst (λ x. InStatement t s before (turned (record w { letters = q }) t (on_desk_letter t l.site kept choice l.body x))) (sym at_.known)
          (known_step before w at_ l.site q kept choice well.homes l.body to_desk head_of (e ∙ ap (λ j. record { site = l.site; txn = j; body = l.body } ∷ q) own)))

      at_site : is_for_desk l.body ≡ false → InStatement t s before (with_site (record w { letters = q }) l.site (site_after (w.sites l.site) (on_letter (w.sites l.site) l.txn true l.body)) (addressed l.site l.txn (said (w.sites l.site) (on_letter (w.sites l.site) l.txn true l.body))))
      at_site to_site = record {
        u = at_.u;
        known = at_.known;
        stands = site_stands law bare t at_.u w l q e at_.stands to_site room;
        far = site_far law t s before at_.u w l q e at_.stands (λ r. well.fit (ap (λ j. is_reading (w.desk.txn j)) own ∙ ap is_reading at_.known ∙ r)) to_site w.past at_.far;
      }

      go : (b : Bool) → is_for_desk l.body ≡ b → passes_to b w kept choice l ≡ true → InStatement t s before (comes_to b (record w { letters = q }) kept choice l)
      go true to_desk within = subst (InStatement t s before) (sym (if_true _ _ _ within)) (at_desk to_desk)
      go false to_site within = subst (InStatement t s before) (sym (if_true _ _ _ within)) (subst (λ b. InStatement t s before (with_site (record w { letters = q }) l.site (site_after (w.sites l.site) (on_letter (w.sites l.site) l.txn b l.body)) (addressed l.site l.txn (said (w.sites l.site) (on_letter (w.sites l.site) l.txn b l.body))))) (sym well.is_kept) (at_site to_site))

      pub statement_step : InStatement t s before (next w kept choice)
      statement_step = subst (λ letters. InStatement t s before (first w kept choice letters)) (sym e) (go (is_for_desk l.body) refl well.within)

    -- a statement is accepted
    pub statement_starts : (w : World L) (choice : Choice L) → Steady t w → AtSites L (map (λ f. f.0) (L.fetches s)) → AtSites L (map (λ x. x.0) choice.1) → is_desk_within (desk_after w.desk t (on_request t choice (State s) (w.desk.txn t)).txn) ≡ true → InStatement t s w.past (called w t choice (State s))
    statement_starts w choice steady fetched written within =
        subst (InStatement t s w.past) (sym (if_true _ _ _ within))
        (subst (λ x. InStatement t s w.past (turned w t (on_request t choice (State s) x))) (sym steady.known)
        (subst (λ st. InStatement t s w.past (turned w t (on_state t steady.u s choice st))) (sym steady.idle)
        (turned_on t s w.past steady.u w (on_state t steady.u s choice Idle) steady.stands
        (subst (λ q. GoesOn t s w.past steady.u q w.past (on_state t steady.u s choice Idle)) (sym steady.silent) (states_on law once t s steady.u choice w.past (L.fetches s) fetched written)))))

    -- no letter waits: the statement is answered
    pub statement_ends : (before : List (Deed L)) (w : World L) → InStatement t s before w → w.letters ≡ [] → Steady t w × ((asks : List (Ask L)) × (choice : Choice L) × (w.past ≡ before ++ Stated t s ∷ Worked t s asks choice ∷ Answered t choice.0 ∷ []))
    statement_ends before w at_ silent = go at_.far
      where
        none_missing : (asks : List (Ask L)) → Every (λ q. is_some q.rows ≡ true) asks → list_all (λ q. is_some q.rows) asks ≡ true
        none_missing [] all = refl
        none_missing (x ∷ asks) all = rw all.0 (none_missing asks all.1)

        go : Far t s before at_.u w.letters w.past → Steady t w × ((asks : List (Ask L)) × (choice : Choice L) × (w.past ≡ before ++ Stated t s ∷ Worked t s asks choice ∷ Answered t choice.0 ∷ []))
        go (reads asks is missing all deeds) = clash (none_missing asks (all_came w t at_.u at_.stands silent s asks (every_more (AskStands s at_.u w.letters) (AskWaits s at_.u w.letters) asks (λ x a. a.waits) all))) missing
        go (writes asks choice x ws is all deeds) = let e : x ∷ ws ≡ [] = none_unsent w t at_.u at_.stands silent (x ∷ ws) all in cc
        go (is_answered asks choice is deeds) = (record { u = at_.u; known = at_.known; idle = is; stands = at_.stands; silent = silent }, (asks, choice, deeds))

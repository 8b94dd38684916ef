-- How far a statement has come is kept by each turn of the coordinator: what it waits for is on its way.
use Rattle.std.proofs.Common.{◌≡◌, refl, sym, ap, ◌∙◌, subst, ℕ, suc, ◌&&◌, Bool, true, false, List, [], ◌∷◌, ◌++◌, map, Option, Some, None, is_some, is_none, inl, inr, ⊎_elim, append_assoc, append-nil, if◌then◌else◌}
use Rattle.std.proofs.lemmas.Bool.{eq-eqb}
use Rattle.std.specs.List.{list_all}
use Rattle.protocol.specs.Language.{Lang, IsLawful, Name, same, put}
use Rattle.protocol.specs.Letter.{Body, Fetch, Ticket, Rows, Letter}
use Rattle.protocol.specs.Desk.{Ask, Choice, Stage, Idle, Reading, Writing, Undecided, Known, Deed, Stated, Worked, Answered, Transition, ask_of, ask_out, asks_out, write_out, writes_out, opens, visits, asks_go, writing, writes_go, after_letters, works, states, stays, ticket_goes, is_numbered, awaits, with_rows, on_rows, after_deed}
use Rattle.protocol.specs.World.{World, turned}
use Rattle.protocol.specs.StatementCourse.{AtSites, Stands, AskWaits, came, unsent, sent, told, AskStands, WriteWaits, Far, reads, writes, is_answered, InStatement}
use Rattle.protocol.proofs.Basics.{Every, In, every_more, every_self, put_here, same_law, clash, not_false, both_true}
use Rattle.protocol.proofs.Locks.{Once}
use Rattle.protocol.proofs.Ranks.{all_visited, in_map}
use Rattle.protocol.proofs.Queue.{at}
use Rattle.protocol.proofs.AtDesk.{Goes, First, first_none, first_opens, asks_goes, writes_goes}
use Rattle.protocol.proofs.Going.{first_written}
use Rattle.protocol.proofs.StatementMeetsNoLock.{GoesTo, turned_stands, stays_goes, stage_goes, with_ticket}
use Rattle.protocol.proofs.Waiting.{AskReady, new_ask, old_ask, asks_wait, in_at}

-- two facts of each
two_facts : {A : Type 0} (P Q R : A → Type 0) (xs : List A) → ((x : A) → P x → Q x → R x) → Every P xs → Every Q xs → Every R xs
two_facts P Q R [] to p q = tt
two_facts P Q R (x ∷ xs) to p q = (to x p.0 q.0, two_facts P Q R xs to p.1 q.1)

module _ {L : Lang} where
  -- a turn after which the statement goes on; q and past: the letters and deeds before it
  pub record GoesOn (t : Name) (s : L.Statement) (before : List (Deed L)) (u : Undecided L) (q : List (Letter L)) (past : List (Deed L)) (turn : Transition L) : Type 0 where
    pub to : GoesTo t u turn
    pub far : Far t s before to.new (q ++ turn.letters) (past ++ turn.deeds)

  pub turned_on : (t : Name) (s : L.Statement) (before : List (Deed L)) (u : Undecided L) (w : World L) (turn : Transition L) → Stands t u w → GoesOn t s before u w.letters w.past turn → InStatement t s before (turned w t turn)
  turned_on t s before u w turn stands on = record {
    u = on.to.new;
    known = put_here same same_law t turn.txn w.desk.txn ∙ on.to.is;
    stands = turned_stands t u w turn stands on.to;
    far = on.far;
  }

  -- ---- what is left of fetches and writes
  left_leaves : (P : L.Leaf → Type 0) (t : Name) (ticket : L.Site → Option Name) (asks : List (Ask L)) (counts : L.Site → ℕ) → Every (λ q. P q.leaf) asks → Every (λ q. P q.leaf) (asks_out t ticket asks counts).left
  left_leaves P t ticket [] counts all = tt
  left_leaves P t ticket (q ∷ qs) counts all = go q.number (ticket (L.home q.leaf)) (λ counts. left_leaves P t ticket qs counts all.1)
    where
      go : (m : Option ℕ) (k : Option Name) → ((counts : L.Site → ℕ) → Every (λ q. P q.leaf) (asks_out t ticket qs counts).left) → Every (λ q. P q.leaf) (ask_out t q m k counts (asks_out t ticket qs)).left
      go None None rest = (all.0, rest counts)
      go None (Some k) rest = (all.0, rest (put L.same_site (L.home q.leaf) (suc (counts (L.home q.leaf))) counts))
      go (Some n) None rest = (all.0, rest counts)
      go (Some n) (Some k) rest = (all.0, rest counts)

  left_came : (t : Name) (ticket : L.Site → Option Name) (asks : List (Ask L)) (counts : L.Site → ℕ) → list_all (λ q. is_some q.rows) (asks_out t ticket asks counts).left ≡ list_all (λ q. is_some q.rows) asks
  left_came t ticket [] counts = refl
  left_came t ticket (q ∷ qs) counts = go q.number (ticket (L.home q.leaf)) (left_came t ticket qs)
    where
      go : (m : Option ℕ) (k : Option Name) → ((counts : L.Site → ℕ) → list_all (λ q. is_some q.rows) (asks_out t ticket qs counts).left ≡ list_all (λ q. is_some q.rows) qs) → list_all (λ q. is_some q.rows) (ask_out t q m k counts (asks_out t ticket qs)).left ≡ list_all (λ q. is_some q.rows) (q ∷ qs)
      go None None rest = ap (λ b. is_some q.rows && b) (rest counts)
      go None (Some k) rest = ap (λ b. is_some q.rows && b) (rest (put L.same_site (L.home q.leaf) (suc (counts (L.home q.leaf))) counts))
      go (Some n) None rest = ap (λ b. is_some q.rows && b) (rest counts)
      go (Some n) (Some k) rest = ap (λ b. is_some q.rows && b) (rest counts)

  left_waits : (v : Undecided L) (t : Name) (ws : List (L.Leaf × L.Write)) (counts : L.Site → ℕ) → Every (λ x. In (L.home x.0) L.sites × (v.visited (L.home x.0) ≡ true)) ws → Every (WriteWaits v) (writes_out {L = L} t v.ticket ws counts).left
  left_waits v t [] counts all = tt
  left_waits v t (x ∷ ws) counts all = go (v.ticket (L.home x.0)) refl (λ counts. left_waits v t ws counts all.1)
    where
      go : (k : Option Name) → v.ticket (L.home x.0) ≡ k → ((counts : L.Site → ℕ) → Every (WriteWaits v) (writes_out {L = L} t v.ticket ws counts).left) → Every (WriteWaits v) (write_out {L = L} t x k counts (writes_out t v.ticket ws)).left
      go None e rest = (record { home = all.0.0; visited = all.0.1; no_ticket = e }, rest counts)
      go (Some k) e rest = rest (put L.same_site (L.home x.0) (suc (counts (L.home x.0))) counts)

  -- ---- turns
  module _ (law : IsLawful L) (once : Once L.sites) (t : Name) (s : L.Statement) (before : List (Deed L)) (u : Undecided L) (q : List (Letter L)) where
    -- fetches go out
    pub asks_on : (visited : L.Site → Bool) (letters : List (Letter L)) → First law t u visited letters → (asks : List (Ask L)) (past : List (Deed L)) → Every (λ x. In (L.home x.leaf) L.sites × (visited (L.home x.leaf) ≡ true)) asks → Every (AskReady s (record u { visited = visited }) q) asks → list_all (λ x. is_some x.rows) asks ≡ false → past ≡ before ++ Stated t s ∷ [] →
        GoesOn t s before u q past (after_letters letters (asks_go t (record u { visited = visited }) s asks))
    asks_on visited letters first asks past homes ready missing deeds =
        let out = asks_out t u.ticket asks u.sent in
        let v : Undecided L = record u { visited = visited; sent = out.sent; stage = Reading s out.left } in
        let seen : Every (λ (x : Ask L). In (L.home x.leaf) L.sites × (v.visited (L.home x.leaf) ≡ true)) out.left = left_leaves (λ g. In (L.home g) L.sites × (visited (L.home g) ≡ true)) t u.ticket asks u.sent homes in
        let waits : Every (AskWaits s v (q ++ (letters ++ out.letters))) out.left =
        subst (λ x. Every (AskWaits s v x) out.left) (append_assoc q letters out.letters) (asks_wait law t s v (q ++ letters) asks u.sent (every_more (AskReady s (record u { visited = visited }) q) (AskReady s v (q ++ letters)) asks (λ x r. ready_more out.sent (Reading s out.left) x r) ready)) in
        record {
          to = record { new = v; is = refl; goes = asks_goes law t u visited letters first asks (Reading s out.left) };
          far = reads out.left refl (left_came t u.ticket asks u.sent ∙ missing)
              (two_facts (λ (x : Ask L). In (L.home x.leaf) L.sites × (v.visited (L.home x.leaf) ≡ true)) (AskWaits s v (q ++ (letters ++ out.letters))) (AskStands s v (q ++ (letters ++ out.letters))) out.left (λ x p r. record { home = p.0; visited = p.1; waits = r }) seen waits)
              (append-nil past ∙ deeds);
        }
      where
        waits_still : (counts : L.Site → ℕ) (stage : Stage L) (x : Ask L) → AskWaits s (record u { visited = visited }) q x → AskWaits s (record u { visited = visited; sent = counts; stage = stage }) (q ++ letters) x
        waits_still counts stage x (came is) = came is
        waits_still counts stage x (unsent number visited none) = unsent number visited none
        waits_still counts stage x (sent k n number here) = sent k n number (in_at (L.home x.leaf) (Fetch k n x.leaf x.query) q letters here)
        waits_still counts stage x (told k n rows number fits here) = told k n rows number fits (in_at (L.home x.leaf) (Rows k n rows) q letters here)

        ready_more : (counts : L.Site → ℕ) (stage : Stage L) (x : Ask L) → AskReady s (record u { visited = visited }) q x → AskReady s (record u { visited = visited; sent = counts; stage = stage }) (q ++ letters) x
        ready_more counts stage x (new_ask number visited) = new_ask number visited
        ready_more counts stage x (old_ask m number waits) = old_ask m number (waits_still counts stage x waits)

    -- writes go out
    pub writes_on : (visited : L.Site → Bool) (letters : List (Letter L)) → First law t u visited letters → (asks : List (Ask L)) (choice : Choice L) (ws : List (L.Leaf × L.Write)) (past : List (Deed L)) → Every (λ x. In (L.home x.0) L.sites × (visited (L.home x.0) ≡ true)) ws → past ≡ before ++ Stated t s ∷ Worked t s asks choice ∷ [] →
        GoesOn t s before u q past (after_letters letters (writes_go t (record u { visited = visited }) choice.0 ws))
    writes_on visited letters first asks choice ws past homes deeds =
        let out = writes_out {L = L} t u.ticket ws u.sent in
        subst (GoesOn t s before u q past) (sym (first_written t (record u { visited = visited }) choice.0 letters out.sent out.left out.letters))
        (go out.sent out.left (letters ++ out.letters) (λ stage. writes_goes law t u visited letters first ws stage) (λ stage. left_waits (record u { visited = visited; sent = out.sent; stage = stage }) t ws u.sent homes))
      where
        v : Undecided L
        v = record u { visited = visited }

        go : (counts : L.Site → ℕ) (left : List (L.Leaf × L.Write)) (letters : List (Letter L)) → ((stage : Stage L) → Goes t u (record v { sent = counts; stage = stage }) letters) → ((stage : Stage L) → Every (WriteWaits (record v { sent = counts; stage = stage })) left) → GoesOn t s before u q past (writing t v choice.0 counts left letters)
        go counts [] letters goes waits = record {
          to = record { new = record v { sent = counts; stage = Idle }; is = refl; goes = goes Idle };
          far = is_answered asks choice refl (ap (λ x. x ++ Answered t choice.0 ∷ []) deeds ∙ append_assoc before (Stated t s ∷ Worked t s asks choice ∷ []) (Answered t choice.0 ∷ []));
        }
        go counts (x ∷ left) letters goes waits = record {
          to = record { new = record v { sent = counts; stage = Writing choice.0 (x ∷ left) }; is = refl; goes = goes (Writing choice.0 (x ∷ left)) };
          far = writes asks choice x left refl (waits (Writing choice.0 (x ∷ left))) (append-nil past ∙ deeds);
        }

    -- the rows are in
    pub works_on : (asks : List (Ask L)) (choice : Choice L) (past : List (Deed L)) → AtSites L (map (λ x. x.0) choice.1) → past ≡ before ++ Stated t s ∷ [] → GoesOn t s before u q past (works t u s asks choice)
    works_on asks choice past homes deeds =
        let leaves = map (λ (x : L.Leaf × L.Write). x.0) choice.1 in
        let turn = after_letters (opens t u leaves) (writes_go t (visits u leaves) choice.0 choice.1) in
        let on = writes_on (visits u leaves).visited (opens t u leaves) (first_opens law once t u leaves homes) asks choice choice.1 (past ++ Worked t s asks choice ∷ [])
        (every_self (λ x. In (L.home x.0) L.sites × ((visits u leaves).visited (L.home x.0) ≡ true)) choice.1 (λ x here. let there = in_map (λ (y : L.Leaf × L.Write). y.0) x choice.1 here in (homes x.0 there, not_false ((visits u leaves).visited (L.home x.0)) (all_visited law u leaves x.0 there))))
        (ap (λ x. x ++ Worked t s asks choice ∷ []) deeds ∙ append_assoc before (Stated t s ∷ []) (Worked t s asks choice ∷ [])) in
        record {
          to = record { new = on.to.new; is = on.to.is; goes = on.to.goes };
          far = subst (Far t s before on.to.new (q ++ turn.letters)) (append_assoc past (Worked t s asks choice ∷ []) turn.deeds) on.far;
        }

  -- ---- letters from a site
  module _ (law : IsLawful L) (once : Once L.sites) (t : Name) (s : L.Statement) (before : List (Deed L)) (u : Undecided L) (a : L.Site) (q : List (Letter L)) (past : List (Deed L)) where
    -- it isn't the letter in front
    behind : (b : L.Site) (c d : Body L) → (c ≡ d → ⊥) → In c (at b (record { site = a; txn = t; body = d } ∷ q)) → In c (at b q)
    behind b c d other here = go (L.same_site b a) here
      where
        go : (x : Bool) → In c (if x then d ∷ at b q else at b q) → In c (at b q)
        go true here = ⊎_elim (λ e. absurd (other e)) (λ there. there) here
        go false here = here

    still_on : (v : Undecided L) (turn : Transition L) → u ≡ v → turn ≡ stays (Known v) → Far t s before u q past → GoesOn t s before u q past turn
    still_on v turn e is far = subst (GoesOn t s before u q past) (sym (is ∙ ap (λ x. stays (Known x)) (sym e))) (record { to = stays_goes t u; far = subst (λ x. Far t s before u x (past ++ [])) (sym (append-nil q)) (subst (Far t s before u q) (sym (append-nil past)) far) })

    module _ (k : Name) (choice : Choice L) (first : u.ticket a ≡ None) where
      abbrev pub new : Undecided L
      new = with_ticket u a k

      waits_on : (x : Ask L) (m : ℕ) → x.number ≡ Some m → AskWaits s u (record { site = a; txn = t; body = Ticket k } ∷ q) x → AskWaits s new q x
      waits_on x m e (came rows) = came rows
      waits_on x m e (unsent number visited none) = let f : Some m ≡ None = sym e ∙ number in cc
      waits_on x m e (sent j n number here) = sent j n number (behind (L.home x.leaf) (Fetch j n x.leaf x.query) (Ticket k) (λ f. cc) here)
      waits_on x m e (told j n rows number fits here) = told j n rows number fits (behind (L.home x.leaf) (Rows j n rows) (Ticket k) (λ f. cc) here)

      ready : (x : Ask L) → AskStands s u (record { site = a; txn = t; body = Ticket k } ∷ q) x → AskReady s new q x
      ready x stands = go x.number refl
        where
          go : (m : Option ℕ) → x.number ≡ m → AskReady s new q x
          go None e = new_ask e stands.visited
          go (Some m) e = old_ask m e (waits_on x m e stands.waits)

      -- a ticket comes
      pub ticket_on : Far t s before u (record { site = a; txn = t; body = Ticket k } ∷ q) past → GoesOn t s before new q past (ticket_goes t new choice u.stage)
      ticket_on (reads asks e missing all deeds) = subst (λ st. GoesOn t s before new q past (ticket_goes t new choice st)) (sym e)
          (asks_on law once t s before new q new.visited [] (first_none law t new) asks past
          (every_more (AskStands s u (record { site = a; txn = t; body = Ticket k } ∷ q)) (λ x. In (L.home x.leaf) L.sites × (new.visited (L.home x.leaf) ≡ true)) asks (λ x stands. (stands.home, stands.visited)) all)
          (every_more (AskStands s u (record { site = a; txn = t; body = Ticket k } ∷ q)) (AskReady s new q) asks ready all) missing deeds)
      ticket_on (writes asks done x ws e all deeds) = subst (λ st. GoesOn t s before new q past (ticket_goes t new choice st)) (sym e)
          (writes_on law once t s before new q new.visited [] (first_none law t new) asks done (x ∷ ws) past (every_more (WriteWaits u) (λ y. In (L.home y.0) L.sites × (new.visited (L.home y.0) ≡ true)) (x ∷ ws) (λ y waits. (waits.home, waits.visited)) all) deeds)
      ticket_on (is_answered asks done e deeds) = subst (λ st. GoesOn t s before new q past (ticket_goes t new choice st)) (sym e)
          (record { to = stays_goes t new; far = is_answered asks done e (append-nil past ∙ deeds) })

    module _ (k : Name) (n : ℕ) (rows : L.Rows) where
      abbrev l : Letter L
      l = record { site = a; txn = t; body = Rows k n rows }

      -- the fetch that waits for these rows gets them
      fetch_came : (v : Undecided L) → ((b : L.Site) → v.visited b ≡ u.visited b) → ((b : L.Site) → v.ticket b ≡ u.ticket b) → (x : Ask L) → AskStands s u (l ∷ q) x → AskStands s v q (with_rows s a n rows x)
      fetch_came v visited ticket x stands = by_awaits (awaits s a n rows x) refl
        where
          in_front : (m : ℕ) (others : L.Rows) → awaits s a n rows x ≡ false → L.same_site (L.home x.leaf) a ≡ true → x.number ≡ Some m → m ≡ n → others ≡ rows → L.well_formed s x.leaf others ≡ true → AskWaits s v q x
          in_front m others none here number is are fits = by_rows x.rows refl
            where
              by_rows : (r : Option L.Rows) → x.rows ≡ r → AskWaits s v q x
              by_rows None e = clash (both_true (L.same_site (L.home x.leaf) a && is_numbered x.number n && is_none x.rows) (L.well_formed s x.leaf rows) (both_true (L.same_site (L.home x.leaf) a && is_numbered x.number n) (is_none x.rows) (both_true (L.same_site (L.home x.leaf) a) (is_numbered x.number n) here (ap (λ y. is_numbered y n) number ∙ eq-eqb m n is)) (ap is_none e)) (ap (L.well_formed s x.leaf) (sym are) ∙ fits)) none
              by_rows (Some r) e = came (ap is_some e)

          missed : (j : Name) (m : ℕ) (others : L.Rows) → x.number ≡ Some m → L.well_formed s x.leaf others ≡ true → awaits s a n rows x ≡ false → (b : Bool) → L.same_site (L.home x.leaf) a ≡ b → In (Rows j m others) (if b then Rows k n rows ∷ at (L.home x.leaf) q else at (L.home x.leaf) q) → AskWaits s v q x
          missed j m others number fits none true e (inl is) = in_front m others none e number (let f : Rows j m others ≡ Rows k n rows = is in cc) (let f : Rows j m others ≡ Rows k n rows = is in cc) fits
          missed j m others number fits none true e (inr below) = told j m others number fits below
          missed j m others number fits none false e here = told j m others number fits here

          waits : awaits s a n rows x ≡ false → AskWaits s u (l ∷ q) x → AskWaits s v q x
          waits none (came is) = came is
          waits none (unsent number seen no_ticket) = unsent number (visited (L.home x.leaf) ∙ seen) (ticket (L.home x.leaf) ∙ no_ticket)
          waits none (sent j m number here) = sent j m number (behind (L.home x.leaf) (Fetch j m x.leaf x.query) (Rows k n rows) (λ f. cc) here)
          waits none (told j m others number fits here) = missed j m others number fits none (L.same_site (L.home x.leaf) a) refl here

          by_awaits : (b : Bool) → awaits s a n rows x ≡ b → AskStands s v q (if b then record x { rows = Some rows } else x)
          by_awaits true e = record { home = stands.home; visited = visited (L.home x.leaf) ∙ stands.visited; waits = came refl }
          by_awaits false e = record { home = stands.home; visited = visited (L.home x.leaf) ∙ stands.visited; waits = waits e stands.waits }

      all_came : (v : Undecided L) → ((b : L.Site) → v.visited b ≡ u.visited b) → ((b : L.Site) → v.ticket b ≡ u.ticket b) → (asks : List (Ask L)) → Every (AskStands s u (l ∷ q)) asks → Every (AskStands s v q) (map (with_rows s a n rows) asks)
      all_came v visited ticket [] all = tt
      all_came v visited ticket (x ∷ asks) all = (fetch_came v visited ticket x all.0, all_came v visited ticket asks all.1)

      -- rows come
      pub rows_on : (choice : Choice L) → AtSites L (map (λ x. x.0) choice.1) → Far t s before u (l ∷ q) past → GoesOn t s before u q past (on_rows t u a n rows choice u.stage)
      rows_on choice homes (reads asks e missing all deeds) = subst (λ st. GoesOn t s before u q past (on_rows t u a n rows choice st)) (sym e) (by_test_of (list_all (λ (x : Ask L). is_some x.rows) new) refl)
        where
          new : List (Ask L)
          new = map (with_rows s a n rows) asks

          v : Undecided L
          v = record u { stage = Reading s new }

          by_test_of : (b : Bool) → list_all (λ (x : Ask L). is_some x.rows) new ≡ b → GoesOn t s before u q past (if b then works t u s new choice else stays (Known v))
          by_test_of true is = works_on law once t s before u q new choice past homes deeds
          by_test_of false is = record {
            to = record { new = v; is = refl; goes = stage_goes t u (Reading s new) };
            far = reads new refl is (subst (λ x. Every (AskStands s v x) new) (sym (append-nil q)) (all_came v (λ b. refl) (λ b. refl) asks all)) (append-nil past ∙ deeds);
          }
      rows_on choice homes (writes asks done x ws e all deeds) = subst (λ st. GoesOn t s before u q past (on_rows t u a n rows choice st)) (sym e) (record { to = stays_goes t u; far = writes asks done x ws e all (append-nil past ∙ deeds) })
      rows_on choice homes (is_answered asks done e deeds) = subst (λ st. GoesOn t s before u q past (on_rows t u a n rows choice st)) (sym e) (record { to = stays_goes t u; far = is_answered asks done e (append-nil past ∙ deeds) })

  -- ---- a statement is accepted
  module _ (law : IsLawful L) (once : Once L.sites) (t : Name) (s : L.Statement) (u : Undecided L) (choice : Choice L) where
    new_asks : (leaves : List L.Leaf) (fs : List (L.Leaf × L.Query)) → ((g : L.Leaf) → In g (map (λ x. x.leaf) (map (ask_of {L = L}) fs)) → In g leaves) → Every (AskReady s (visits u leaves) []) (map (ask_of {L = L}) fs)
    new_asks leaves [] all = tt
    new_asks leaves (f ∷ fs) all = (new_ask refl (not_false ((visits u leaves).visited (L.home f.0)) (all_visited law u leaves f.0 (all f.0 (inl refl)))), new_asks leaves fs (λ g here. all g (inr here)))

    new_homes : (fs : List (L.Leaf × L.Query)) → AtSites L (map (λ x. x.0) fs) → Every (λ x. In (L.home x.leaf) L.sites) (map (ask_of {L = L}) fs)
    new_homes [] homes = tt
    new_homes (f ∷ fs) homes = (homes f.0 (inl refl), new_homes fs (λ g here. homes g (inr here)))

    home_of : (asks : List (Ask L)) → Every (λ x. In (L.home x.leaf) L.sites) asks → AtSites L (map (λ x. x.leaf) asks)
    home_of [] homes g here = absurd here
    home_of (x ∷ asks) homes g (inl e) = subst (λ h. In (L.home h) L.sites) (sym e) homes.0
    home_of (x ∷ asks) homes g (inr below) = home_of asks homes.1 g below

    pub states_on : (past : List (Deed L)) (fs : List (L.Leaf × L.Query)) → AtSites L (map (λ x. x.0) fs) → AtSites L (map (λ x. x.0) choice.1) → GoesOn t s past u [] past (after_deed (Stated t s) (states t u s (map (ask_of {L = L}) fs) choice))
    states_on past fs homes written = later (states t u s (map (ask_of {L = L}) fs) choice) (go fs homes)
      where
        go : (fs : List (L.Leaf × L.Query)) → AtSites L (map (λ x. x.0) fs) → GoesOn t s past u [] (past ++ Stated t s ∷ []) (states t u s (map (ask_of {L = L}) fs) choice)
        go [] homes = works_on law once t s past u [] [] choice (past ++ Stated t s ∷ []) written refl
        go (f ∷ fs) homes =
            let asks = map (ask_of {L = L}) (f ∷ fs) in
            let leaves = map (λ (x : Ask L). x.leaf) asks in
            let seen = new_homes (f ∷ fs) homes in
            asks_on law once t s past u [] (visits u leaves).visited (opens t u leaves) (first_opens law once t u leaves (home_of asks seen)) asks (past ++ Stated t s ∷ [])
            (every_self (λ x. In (L.home x.leaf) L.sites × ((visits u leaves).visited (L.home x.leaf) ≡ true)) asks (λ x here. let there = in_map (λ (y : Ask L). y.leaf) x asks here in (home_of asks seen x.leaf there, not_false ((visits u leaves).visited (L.home x.leaf)) (all_visited law u leaves x.leaf there))))
            (new_asks leaves (f ∷ fs) (λ g here. here)) refl refl

        later : (turn : Transition L) → GoesOn t s past u [] (past ++ Stated t s ∷ []) turn → GoesOn t s past u [] past (after_deed (Stated t s) turn)
        later turn on = record {
          to = record { new = on.to.new; is = on.to.is; goes = on.to.goes };
          far = subst (Far t s past on.to.new turn.letters) (append_assoc past (Stated t s ∷ []) turn.deeds) on.far;
        }

-- What waits to and from each site while one client's statement works: operations in the order of their numbers.
use Rattle.std.proofs.Common.{◌≡◌, refl, sym, ap, ◌∙◌, subst, ℕ, suc, Bool, true, false, List, [], ◌∷◌, ◌++◌, if◌then◌else◌, Option, Some, None, append-nil}
use Rattle.protocol.specs.Language.{Lang, IsLawful, Name, put}
use Rattle.protocol.specs.Letter.{Body, Open, Fetch, Write, Prepare, Commit, Abort, Ticket, Rows, Refused, Voted, Ack, Inquire, Letter}
use Rattle.protocol.specs.Site.{Status, Dead, Active, Prepared, has_lock}
use Rattle.protocol.specs.Desk.{Ask, ask_out, asks_out, write_out, writes_out}
use Rattle.protocol.specs.World.{addressed}
pub use Rattle.protocol.specs.VisitPlaces.{at, Unlocked, Flow, Away, Asked, Offered, Works, VisitPlace, away, asked, offered, works}
use Rattle.protocol.proofs.Basics.{if_true, if_false, some_is}

module _ {L : Lang} where
  pub at_append : (a : L.Site) (xs ys : List (Letter L)) → at a (xs ++ ys) ≡ at a xs ++ at a ys
  at_append a [] ys = refl
  at_append a (l ∷ xs) ys = go (L.same_site a l.site) (at_append a xs ys)
    where
      go : (b : Bool) → at a (xs ++ ys) ≡ at a xs ++ at a ys → (if b then l.body ∷ at a (xs ++ ys) else at a (xs ++ ys)) ≡ (if b then l.body ∷ at a xs else at a xs) ++ at a ys
      go true rest = ap (λ x. l.body ∷ x) rest
      go false rest = rest

  pub at_here : (a b : L.Site) (t : Name) (bodies : List (Body L)) → L.same_site a b ≡ true → at a (addressed b t bodies) ≡ bodies
  at_here a b t [] e = refl
  at_here a b t (c ∷ bodies) e = if_true (L.same_site a b) (c ∷ at a (addressed b t bodies)) (at a (addressed b t bodies)) e ∙ ap (λ x. c ∷ x) (at_here a b t bodies e)

  pub at_away : (a b : L.Site) (t : Name) (bodies : List (Body L)) → L.same_site a b ≡ false → at a (addressed b t bodies) ≡ []
  at_away a b t [] e = refl
  at_away a b t (c ∷ bodies) e = if_false (L.same_site a b) (c ∷ at a (addressed b t bodies)) (at a (addressed b t bodies)) e ∙ at_away a b t bodies e

  pub unlocked_free : (g : L.Leaf) (st : Status L) → Unlocked st → has_lock g st ≡ false
  unlocked_free g Dead free = refl
  unlocked_free g (Active v) free = free g
  unlocked_free g (Prepared t i) free = absurd free

  pub flow_append : (k : Name) (d n m : ℕ) (bs more : List (Body L)) → Flow k d n bs → Flow k n m more → Flow k d m (bs ++ more)
  flow_append k d n m [] more flow rest = subst (λ x. Flow k x m more) (sym flow) rest
  flow_append k d n m (Fetch j i g q ∷ bs) more flow rest = (flow.0, flow.1, flow_append k (suc d) n m bs more flow.2 rest)
  flow_append k d n m (Write j i g x ∷ bs) more flow rest = (flow.0, flow.1, flow_append k (suc d) n m bs more flow.2 rest)
  flow_append k d n m (Rows j i rows ∷ bs) more flow rest = (flow.0, flow_append k d n m bs more flow.1 rest)
  flow_append k d n m (Open ∷ bs) more flow rest = absurd flow
  flow_append k d n m (Prepare j i ∷ bs) more flow rest = absurd flow
  flow_append k d n m (Commit j ∷ bs) more flow rest = absurd flow
  flow_append k d n m (Abort j ∷ bs) more flow rest = absurd flow
  flow_append k d n m (Ticket j ∷ bs) more flow rest = absurd flow
  flow_append k d n m (Refused j reason ∷ bs) more flow rest = absurd flow
  flow_append k d n m (Voted j x ∷ bs) more flow rest = absurd flow
  flow_append k d n m (Ack j ∷ bs) more flow rest = absurd flow
  flow_append k d n m (Inquire j ∷ bs) more flow rest = absurd flow

  -- what a turn puts out to a site: nothing without a ticket, else its next operations
  abbrev pub OutAt : Option Name → ℕ → ℕ → List (Body L) → Type 0
  OutAt None n m bs = (bs ≡ []) × (m ≡ n)
  OutAt (Some k) n m bs = Flow k n m bs

  no_out : (bs : List (Body L)) → bs ≡ [] → (tk : Option Name) (n : ℕ) → OutAt tk n n bs
  no_out bs e None n = (e, refl)
  no_out bs e (Some k) n = subst (Flow k n n) (sym e) refl

  out_silent : (tk : Option Name) (n m : ℕ) (bs : List (Body L)) → tk ≡ None → OutAt tk n m bs → (bs ≡ []) × (m ≡ n)
  out_silent None n m bs e out = out
  out_silent (Some k) n m bs e out = cc

  out_flow : (tk : Option Name) (k : Name) (n m : ℕ) (bs : List (Body L)) → tk ≡ Some k → OutAt tk n m bs → Flow k n m bs
  out_flow None k n m bs e out = cc
  out_flow (Some j) k n m bs e out = subst (λ i. Flow i n m bs) (some_is e) out

  nothing_more : (bs more : List (Body L)) → more ≡ [] → bs ++ more ≡ bs
  nothing_more bs more e = ap (λ x. bs ++ x) e ∙ append-nil bs

  -- the coordinator sends what it may
  pub spot_out : (f : Name → Status L) (b : Bool) (tk : Option Name) (n m : ℕ) (bs more : List (Body L)) → VisitPlace f b tk n bs → OutAt tk n m more → VisitPlace f b tk m (bs ++ more)
  spot_out f b tk n m bs more (away s) out =
      let none = out_silent tk n m more s.no_ticket out in
      away (record { unvisited = s.unvisited; no_ticket = s.no_ticket; nothing_sent = none.1 ∙ s.nothing_sent; silent = nothing_more bs more none.0 ∙ s.silent; free = s.free })
  spot_out f b tk n m bs more (asked s) out =
      let none = out_silent tk n m more s.no_ticket out in
      asked (record { visited = s.visited; no_ticket = s.no_ticket; nothing_sent = none.1 ∙ s.nothing_sent; waits = nothing_more bs more none.0 ∙ s.waits; free = s.free })
  spot_out f b tk n m bs more (offered k s) out =
      let none = out_silent tk n m more s.no_ticket out in
      offered k (record { visited = s.visited; no_ticket = s.no_ticket; nothing_sent = none.1 ∙ s.nothing_sent; waits = nothing_more bs more none.0 ∙ s.waits; visit = s.visit; active = s.active; nothing_done = s.nothing_done; own = s.own; free = s.free })
  spot_out f b tk n m bs more (works k s) out =
      works k (record { visited = s.visited; ticket = s.ticket; visit = s.visit; active = s.active; own = s.own; free = s.free; flow = flow_append k s.visit.done n m bs more s.flow (out_flow tk k n m more s.ticket out) })

  -- a new site is visited, its Open goes out
  pub spot_open : (f : Name → Status L) (tk : Option Name) (n : ℕ) (bs : List (Body L)) → VisitPlace f false tk n bs → VisitPlace f true tk n (bs ++ Open ∷ [])
  spot_open f tk n bs (away s) = asked (record { visited = refl; no_ticket = s.no_ticket; nothing_sent = s.nothing_sent; waits = ap (λ x. x ++ Open ∷ []) s.silent; free = s.free })
  spot_open f tk n bs (asked s) = let e : false ≡ true = s.visited in cc
  spot_open f tk n bs (offered k s) = let e : false ≡ true = s.visited in cc
  spot_open f tk n bs (works k s) = let e : false ≡ true = s.visited in cc

  -- its ticket comes
  pub spot_ticket : (f : Name → Status L) (b : Bool) (n : ℕ) (k : Name) (bs : List (Body L)) (tk : Option Name) → VisitPlace f b tk n (Ticket k ∷ bs) → VisitPlace f b (Some k) n bs × (tk ≡ None)
  spot_ticket f b n k bs tk (away s) = let e : Ticket k ∷ bs ≡ [] = s.silent in cc
  spot_ticket f b n k bs tk (asked s) = let e : Ticket k ∷ bs ≡ Open ∷ [] = s.waits in cc
  spot_ticket f b n k bs tk (offered j s) =
      let is : k ≡ j = ticket_is k j bs s.waits in (
        works k (record {
          visited = s.visited;
          ticket = refl;
          visit = s.visit;
          active = ap f is ∙ s.active;
          own = s.own;
          free = λ i other. s.free i;
          flow = subst (Flow k s.visit.done n) (sym (none_behind k j bs s.waits)) (s.nothing_done ∙ sym s.nothing_sent);
        }),
        s.no_ticket,
      )
    where
      ticket_is : (k j : Name) (bs : List (Body L)) → Ticket k ∷ bs ≡ Ticket j ∷ [] → k ≡ j
      ticket_is k j bs e = cc

      none_behind : (k j : Name) (bs : List (Body L)) → Ticket k ∷ bs ≡ Ticket j ∷ [] → bs ≡ []
      none_behind k j bs e = cc
  spot_ticket f b n k bs tk (works j s) = absurd s.flow

  -- rows come
  pub spot_rows : (f : Name → Status L) (b : Bool) (tk : Option Name) (n : ℕ) (k : Name) (m : ℕ) (rows : L.Rows) (bs : List (Body L)) → VisitPlace f b tk n (Rows k m rows ∷ bs) → VisitPlace f b tk n bs × (tk ≡ Some k)
  spot_rows f b tk n k m rows bs (away s) = let e : Rows k m rows ∷ bs ≡ [] = s.silent in cc
  spot_rows f b tk n k m rows bs (asked s) = let e : Rows k m rows ∷ bs ≡ Open ∷ [] = s.waits in cc
  spot_rows f b tk n k m rows bs (offered j s) = let e : Rows k m rows ∷ bs ≡ Ticket j ∷ [] = s.waits in cc
  spot_rows f b tk n k m rows bs (works j s) =
      (works j (record { visited = s.visited; ticket = s.ticket; visit = s.visit; active = s.active; own = s.own; free = s.free; flow = s.flow.1 }), s.ticket ∙ ap (λ i. Some i) (sym s.flow.0))

  -- ---- what goes out, by site
  fetch_out : (b : Bool) (tk : Option Name) (k : Name) (n m z : ℕ) (g : L.Leaf) (q : L.Query) (bs : List (Body L)) → (b ≡ true → (tk ≡ Some k) × (m ≡ n)) → OutAt tk (if b then suc m else n) z bs → OutAt tk n z (if b then Fetch k (suc m) g q ∷ bs else bs)
  fetch_out false tk k n m z g q bs here out = out
  fetch_out true None k n m z g q bs here out = let e : None ≡ Some k = (here refl).0 in cc
  fetch_out true (Some j) k n m z g q bs here out = (sym (some_is (here refl).0), ap suc (here refl).1, subst (λ x. Flow j (suc x) z bs) (here refl).1 out)

  one_write_out : (b : Bool) (tk : Option Name) (k : Name) (n m z : ℕ) (g : L.Leaf) (x : L.Write) (bs : List (Body L)) → (b ≡ true → (tk ≡ Some k) × (m ≡ n)) → OutAt tk (if b then suc m else n) z bs → OutAt tk n z (if b then Write k (suc m) g x ∷ bs else bs)
  one_write_out false tk k n m z g x bs here out = out
  one_write_out true None k n m z g x bs here out = let e : None ≡ Some k = (here refl).0 in cc
  one_write_out true (Some j) k n m z g x bs here out = (sym (some_is (here refl).0), ap suc (here refl).1, subst (λ y. Flow j (suc y) z bs) (here refl).1 out)

  module _ (law : IsLawful L) (t : Name) (ticket : L.Site → Option Name) (a : L.Site) where
    at_home : (h : L.Site) (k : Name) (sent : L.Site → ℕ) → ticket h ≡ Some k → L.same_site a h ≡ true → (ticket a ≡ Some k) × (sent h ≡ sent a)
    at_home h k sent own is = let e : a ≡ h = (law.sites a h).0 is in (ap ticket e ∙ own, ap sent (sym e))

    -- fetches go out
    pub asks_at : (asks : List (Ask L)) (sent : L.Site → ℕ) → OutAt (ticket a) (sent a) ((asks_out t ticket asks sent).sent a) (at a (asks_out t ticket asks sent).letters)
    asks_at [] sent = no_out [] refl (ticket a) (sent a)
    asks_at (q ∷ qs) sent = go q.number (ticket (L.home q.leaf)) refl (asks_at qs)
      where
        go : (m : Option ℕ) (k : Option Name) → ticket (L.home q.leaf) ≡ k → ((sent : L.Site → ℕ) → OutAt (ticket a) (sent a) ((asks_out t ticket qs sent).sent a) (at a (asks_out t ticket qs sent).letters)) →
            OutAt (ticket a) (sent a) ((ask_out t q m k sent (asks_out t ticket qs)).sent a) (at a (ask_out t q m k sent (asks_out t ticket qs)).letters)
        go None None e rest = rest sent
        go None (Some k) e rest = fetch_out (L.same_site a (L.home q.leaf)) (ticket a) k (sent a) (sent (L.home q.leaf)) _ q.leaf q.query _ (at_home (L.home q.leaf) k sent e) (rest (put L.same_site (L.home q.leaf) (suc (sent (L.home q.leaf))) sent))
        go (Some n) None e rest = rest sent
        go (Some n) (Some k) e rest = rest sent

    -- writes go out
    pub writes_at : (ws : List (L.Leaf × L.Write)) (sent : L.Site → ℕ) → OutAt (ticket a) (sent a) ((writes_out {L = L} t ticket ws sent).sent a) (at a (writes_out {L = L} t ticket ws sent).letters)
    writes_at [] sent = no_out [] refl (ticket a) (sent a)
    writes_at (x ∷ ws) sent = go (ticket (L.home x.0)) refl (writes_at ws)
      where
        go : (k : Option Name) → ticket (L.home x.0) ≡ k → ((sent : L.Site → ℕ) → OutAt (ticket a) (sent a) ((writes_out {L = L} t ticket ws sent).sent a) (at a (writes_out {L = L} t ticket ws sent).letters)) →
            OutAt (ticket a) (sent a) ((write_out {L = L} t x k sent (writes_out t ticket ws)).sent a) (at a (write_out {L = L} t x k sent (writes_out t ticket ws)).letters)
        go None e rest = rest sent
        go (Some k) e rest = one_write_out (L.same_site a (L.home x.0)) (ticket a) k (sent a) (sent (L.home x.0)) _ x.0 x.1 _ (at_home (L.home x.0) k sent e) (rest (put L.same_site (L.home x.0) (suc (sent (L.home x.0))) sent))

-- A turn of the coordinator keeps what letters, prepared rows and transactions say.
use Rattle.std.proofs.Common.{◌≡◌, sym, ◌∙◌, subst, true, false, List, ◌++◌, ◌⊎◌, inl, inr, ⊎_elim}
use Rattle.std.proofs.lemmas.List.Folds.{list_any-append}
use Rattle.protocol.specs.Language.{Lang, Name, same, put}
use Rattle.protocol.specs.Letter.{Yes, No, Read, Body, Open, Fetch, Write, Prepare, Commit, Abort, Ticket, Rows, Refused, Voted, Ack, Inquire, Letter}
use Rattle.protocol.specs.Site.{Prepared, is_dead, is_active, is_prepared}
use Rattle.protocol.specs.Desk.{Undecided, Known, Row, Deed, Desk, Transition, desk_after}
use Rattle.protocol.specs.World.{World, turned}
use Rattle.protocol.specs.Serial.{is_committed, commits_it}
use Rattle.protocol.proofs.Basics.{Every, In, put_all, put_here, put_there, every_append, every_more, clash, same_law, or_cases, or_left, or_right, by_test, some_is}
use Rattle.protocol.proofs.Fits.{Born, Und, is_voting, Own, Other, OwnVoting, IsCommitted, FitsBody, Fits, KnownAt, known_more, Gone, Votes, Fit}
use Rattle.protocol.proofs.SiteFits.{not_prepared}

module _ {L : Lang} where
  -- an undecided transaction keeps its tickets and visits, and goes on voting
  pub record Grows (u new : Undecided L) : Type 0 where
    pub ticket : (a : L.Site) (k : Name) → Own a k u → Own a k new
    pub visited : (a : L.Site) → u.visited a ≡ true → new.visited a ≡ true
    pub voting : is_voting u.stage ≡ true → is_voting new.stage ≡ true

  pub grows_same : (u : Undecided L) → Grows u u
  grows_same u = record { ticket = λ a k e. e; visited = λ a e. e; voting = λ e. e }

  -- how the coordinator may change
  pub record DeskLater (o : L.Site → Name → Name) (w : World L) (d : Desk L) (past : List (Deed L)) : Type 0 where
    pub born : (t : Name) → Born w.desk t → Born d t
    pub grown : (t : Name) → Born w.desk t → (v : Undecided L) → d.txn t ≡ Known v → (u : Undecided L) × (w.desk.txn t ≡ Known u) × Grows u v
    pub more : (t : Name) → IsCommitted w.past t → IsCommitted past t
    pub newly : (t : Name) → IsCommitted past t → (IsCommitted w.past t) ⊎ ((u : Undecided L) × (w.desk.txn t ≡ Known u) × ((a : L.Site) (k : Name) → Own a k u → is_active ((w.sites a).status k) ≡ false))

  module _ (o : L.Site → Name → Name) (w : World L) (d : Desk L) (past : List (Deed L)) (fit : Fit o w) (later : DeskLater o w d past) where
    own_later : (t : Name) (a : L.Site) (k : Name) → Born w.desk t → Und w.desk t (OwnVoting a k) → Und d t (OwnVoting a k)
    own_later t a k born own v e = let g = later.grown t born v e in (g.2.ticket a k (own g.0 g.1).0, g.2.voting (own g.0 g.1).1)

    free_later : (t : Name) (a : L.Site) (k : Name) → o a k ≡ t → Und w.desk t (Other a k) → (IsCommitted w.past t → is_prepared ((w.sites a).status k) ≡ false) → IsCommitted past t → is_prepared ((w.sites a).status k) ≡ false
    free_later t a k owner other free done = ⊎_elim (λ was. free was)
        (λ now. not_prepared ((w.sites a).status k) (λ j i row.
        let p = fit.prepared a k j i row in
        let is : j ≡ t = sym p.owner ∙ owner in
        let its = other now.0 now.1 in
        let own = p.own now.0 (subst (λ n. w.desk.txn n ≡ Known now.0) (sym is) now.1) in
        let eq : its.0 ≡ k = some_is (sym its.1 ∙ own.0) in
        clash ((same_law its.0 k).1 eq) its.2))
        (later.newly t done)

    pub body_desk : (a : L.Site) (t : Name) (b : Body L) → Born w.desk t → FitsBody o w.desk w.past a (w.sites a) t b → FitsBody o d past a (w.sites a) t b
    body_desk a t Open born (site, visited) = (site, λ v e. let g = later.grown t born v e in g.2.visited a (visited g.0 g.1))
    body_desk a t (Ticket k) born (drawn, owner, site, visited) = (drawn, owner, site, λ v e. let g = later.grown t born v e in g.2.visited a (visited g.0 g.1))
    body_desk a t (Fetch k op q c) born (drawn, owner, own) = (drawn, owner, λ v e. let g = later.grown t born v e in g.2.ticket a k (own g.0 g.1))
    body_desk a t (Write k op q x) born (drawn, owner, own) = (drawn, owner, λ v e. let g = later.grown t born v e in g.2.ticket a k (own g.0 g.1))
    body_desk a t (Prepare k n) born (drawn, owner, own, quiet) = (drawn, owner, own_later t a k born own, λ done. ⊎_elim (λ was. quiet was) (λ now. now.2 a k (own now.0 now.1).0) (later.newly t done))
    body_desk a t (Commit k) born (drawn, owner, done, quiet) = (drawn, owner, later.more t done, quiet)
    body_desk a t (Abort k) born (drawn, owner, other, free) = (drawn, owner, λ v e. let g = later.grown t born v e in let its = other g.0 g.1 in (its.0, g.2.ticket a its.0 its.1, its.2), free_later t a k owner other free)
    body_desk a t (Rows k op rows) born fit_b = fit_b
    body_desk a t (Refused k reason) born fit_b = fit_b
    body_desk a t (Voted k Yes) born (drawn, owner, vote) = (drawn, owner, (vote.0, λ v e. let g = later.grown t born v e in vote.1 g.0 g.1))
    body_desk a t (Voted k No) born (drawn, owner, vote) = (drawn, owner, vote)
    body_desk a t (Voted k Read) born (drawn, owner, vote) = (drawn, owner, (vote.0, λ v e. let g = later.grown t born v e in g.2.voting (vote.1 g.0 g.1)))
    body_desk a t (Ack k) born fit_b = fit_b
    body_desk a t (Inquire k) born fit_b = fit_b

    pub letters_desk : (letters : List (Letter L)) → Every (Fits o w.desk w.past w.sites) letters → Every (Fits o d past w.sites) letters
    letters_desk letters all = every_more (Fits o w.desk w.past w.sites) (Fits o d past w.sites) letters (λ l is. (later.born l.txn is.0, body_desk l.site l.txn l.body is.0 is.1)) all

  -- what a turn of one transaction has to keep
  pub record TurnFine (o : L.Site → Name → Name) (w : World L) (t : Name) (turn : Transition L) : Type 0 where
    pub grows : (v : Undecided L) → turn.txn ≡ Known v → (u : Undecided L) × (w.desk.txn t ≡ Known u) × Grows u v
    pub known : (v : Undecided L) → turn.txn ≡ Known v → KnownAt o w.sites w.letters t v
    pub rows : (vs acked : List (L.Site × Name)) → turn.txn ≡ Row vs acked → ((IsCommitted w.past t) ⊎ (IsCommitted turn.deeds t)) × Every (Gone w.sites) acked × Every (Votes o w.sites t) vs
    pub only : (j : Name) → same j t ≡ false → is_committed turn.deeds j ≡ false
    pub commits : IsCommitted turn.deeds t → (u : Undecided L) × (w.desk.txn t ≡ Known u) × ((v : Undecided L) → turn.txn ≡ Known v → ⊥) × ((a : L.Site) (k : Name) → Own a k u → is_active ((w.sites a).status k) ≡ false)
        × ((a : L.Site) (k : Name) → Own a k u → (is_dead ((w.sites a).status k) ≡ false) ⊎ In (record { site = a; txn = t; body = Voted k Read }) w.letters)
        × ((a : L.Site) (k : Name) (i : L.Intentions) → Own a k u → (w.sites a).status k ≡ Prepared t i → (vs : List (L.Site × Name)) × (acked : List (L.Site × Name)) × (turn.txn ≡ Row vs acked) × In (a, k) vs)
    pub keeps : (vs acked : List (L.Site × Name)) → w.desk.txn t ≡ Row vs acked → (a : L.Site) (k : Name) (i : L.Intentions) → In (a, k) vs → (w.sites a).status k ≡ Prepared t i → (new : List (L.Site × Name)) × (turn.txn ≡ Row vs new)

  module _ (o : L.Site → Name → Name) (w : World L) (t : Name) (turn : Transition L) (fit : Fit o w) (fine : TurnFine o w t turn) where
    pub split : (j : Name) → IsCommitted (w.past ++ turn.deeds) j → (IsCommitted w.past j) ⊎ ((j ≡ t) × IsCommitted turn.deeds t)
    split j done = ⊎_elim (λ was. inl was)
        (λ now. ⊎_elim (λ is. let eq = (same_law j t).0 is in inr (eq, subst (IsCommitted turn.deeds) eq now)) (λ other. clash now (fine.only j other)) (by_test (same j t)))
        (or_cases (is_committed w.past j) (is_committed turn.deeds j) (sym (list_any-append (commits_it j) w.past turn.deeds) ∙ done))

    pub was_committed : (j : Name) → IsCommitted w.past j → IsCommitted (w.past ++ turn.deeds) j
    was_committed j was = list_any-append (commits_it j) w.past turn.deeds ∙ or_left (is_committed w.past j) (is_committed turn.deeds j) was

    pub now_committed : (j : Name) → IsCommitted turn.deeds j → IsCommitted (w.past ++ turn.deeds) j
    now_committed j now = list_any-append (commits_it j) w.past turn.deeds ∙ or_right (is_committed w.past j) (is_committed turn.deeds j) now

    pub turn_later : DeskLater o w (desk_after w.desk t turn.txn) (w.past ++ turn.deeds)
    turn_later = record {
      born = λ j h. h;
      grown = λ j born. put_all same same_law t turn.txn w.desk.txn (λ j x. (v : Undecided L) → x ≡ Known v → (u : Undecided L) × (w.desk.txn j ≡ Known u) × Grows u v) fine.grows (λ j other v e. (v, e, grows_same v)) j;
      more = was_committed;
      newly = λ j done. ⊎_elim (λ was. inl was) (λ now. let c = fine.commits now.1 in inr (c.0, subst (λ n. w.desk.txn n ≡ Known c.0) (sym now.0) c.1, c.3)) (split j done);
    }

    voter_later : (a : L.Site) (k j : Name) (i : L.Intentions) → (w.sites a).status k ≡ Prepared j i → IsCommitted (w.past ++ turn.deeds) j →
        (vs : List (L.Site × Name)) × (acked : List (L.Site × Name)) × (put same t turn.txn w.desk.txn j ≡ Row vs acked) × In (a, k) vs
    voter_later a k j i row done = ⊎_elim
        (λ was. let v = (fit.prepared a k j i row).voter was in ⊎_elim
        (λ is. let eq = (same_law j t).0 is in
        let n = fine.keeps v.0 v.1 (subst (λ n. w.desk.txn n ≡ Row v.0 v.1) eq v.2) a k i v.3 (subst (λ n. (w.sites a).status k ≡ Prepared n i) eq row) in
        (v.0, n.0, subst (λ n'. put same t turn.txn w.desk.txn n' ≡ Row v.0 n.0) (sym eq) (put_here same same_law t turn.txn w.desk.txn ∙ n.1), v.3))
        (λ other. (v.0, v.1, put_there same same_law t turn.txn w.desk.txn j other ∙ v.2, v.3))
        (by_test (same j t)))
        (λ now. let c = fine.commits now.1 in
        let own = (fit.prepared a k j i row).own c.0 (subst (λ n. w.desk.txn n ≡ Known c.0) (sym now.0) c.1) in
        let v = c.5 a k i own.0 (subst (λ n. (w.sites a).status k ≡ Prepared n i) now.0 row) in
        (v.0, v.1, subst (λ n. put same t turn.txn w.desk.txn n ≡ Row v.0 v.1) (sym now.0) (put_here same same_law t turn.txn w.desk.txn ∙ v.2), v.3))
        (split j done)

    pub turn_moves : Every (Fits o (desk_after w.desk t turn.txn) (w.past ++ turn.deeds) w.sites) turn.letters → Fit o (turned w t turn)
    turn_moves letters = record {
      live = fit.live;
      prepared = λ a k j i row. let p = fit.prepared a k j i row in record {
        owner = p.owner;
        born = p.born;
        own = own_later o w (desk_after w.desk t turn.txn) (w.past ++ turn.deeds) fit turn_later j a k p.born p.own;
        voter = voter_later a k j i row;
      };
      born = put_all same same_law t turn.txn w.desk.txn (λ j x. (v : Undecided L) → x ≡ Known v → Born w.desk j) (λ v e. let g = fine.grows v e in fit.born t g.0 g.1) (λ j other v e. fit.born j v e);
      known = put_all same same_law t turn.txn w.desk.txn (λ j x. (v : Undecided L) → x ≡ Known v → KnownAt o w.sites (w.letters ++ turn.letters) j v) (λ v e. known_more o w.sites w.letters turn.letters t v (fine.known v e)) (λ j other v e. known_more o w.sites w.letters turn.letters j v (fit.known j v e));
      rows = put_all same same_law t turn.txn w.desk.txn (λ j x. (vs acked : List (L.Site × Name)) → x ≡ Row vs acked → IsCommitted (w.past ++ turn.deeds) j × Every (Gone w.sites) acked × Every (Votes o w.sites j) vs)
          (λ vs acked e. let r = fine.rows vs acked e in (⊎_elim (was_committed t) (now_committed t) r.0, r.1, r.2))
          (λ j other vs acked e. let r = fit.rows j vs acked e in (was_committed j r.0, r.1, r.2));
      committed = λ j done. ⊎_elim
          (λ was. let c = fit.committed j was in (c.0, λ v e. let g = turn_later.grown j c.0 v e in c.1 g.0 g.1))
          (λ now. let c = fine.commits now.1 in
          (subst (Born w.desk) (sym now.0) (fit.born t c.0 c.1), λ v e. c.2 v (sym (put_here same same_law t turn.txn w.desk.txn) ∙ subst (λ n. put same t turn.txn w.desk.txn n ≡ Known v) now.0 e)))
          (split j done);
      letters = every_append (Fits o (desk_after w.desk t turn.txn) (w.past ++ turn.deeds) w.sites) w.letters turn.letters
          (letters_desk o w (desk_after w.desk t turn.txn) (w.past ++ turn.deeds) fit turn_later w.letters fit.letters) letters;
    }

-- A step of one site keeps what letters, prepared rows and transactions say.
use Rattle.std.proofs.Common.{◌≡◌, refl, sym, ap, ◌∙◌, subst, true, false, List, ◌⊎◌, inl, ⊎_elim}
use Rattle.protocol.specs.Language.{Lang, IsLawful, Name, put}
use Rattle.protocol.specs.Letter.{Yes, No, Read, Vote, Body, Open, Fetch, Write, Prepare, Commit, Abort, Ticket, Rows, Refused, Voted, Ack, Inquire, Letter}
use Rattle.protocol.specs.Site.{Status, Dead, Active, Prepared, SiteState, is_dead, is_active, is_prepared}
use Rattle.protocol.specs.Desk.{Undecided, Known, Deed, Desk}
use Rattle.protocol.specs.World.{World, with_site}
use Rattle.protocol.proofs.Basics.{Every, in_left, put_all, put_here, every_append, every_more, clash}
use Rattle.protocol.proofs.Fits.{Drawn, Born, Und, OwnVoting, IsCommitted, FitsVote, FitsBody, Fits, PreparedAt, VoteAt, Gone, Votes, Fit}

module _ {L : Lang} where
  -- how a site may change: drawn tickets stay drawn, the dead stay dead, a prepared row of an undecided transaction stays, and a new one is its transaction's own
  pub record Later (o : L.Site → Name → Name) (d : Desk L) (past : List (Deed L)) (a : L.Site) (s new : SiteState L) : Type 0 where
    pub drawn : (k : Name) → Drawn s k → Drawn new k
    pub dead : (k : Name) → Drawn s k → is_dead (s.status k) ≡ true → is_dead (new.status k) ≡ true
    pub quiet : (k : Name) → Drawn s k → is_active (s.status k) ≡ false → is_active (new.status k) ≡ false
    pub stays : (k t : Name) (i : L.Intentions) (u : Undecided L) → d.txn t ≡ Known u → s.status k ≡ Prepared t i → new.status k ≡ Prepared t i
    pub comes : (k t : Name) (i : L.Intentions) → new.status k ≡ Prepared t i → (s.status k ≡ Prepared t i) ⊎ ((o a k ≡ t) × Born d t × Und d t (OwnVoting a k) × (IsCommitted past t → ⊥))
    pub live : (k : Name) → is_dead (new.status k) ≡ false → Drawn new k

  -- nothing is prepared where no transaction has it prepared
  pub not_prepared : (st : Status L) → ((t : Name) (i : L.Intentions) → st ≡ Prepared t i → ⊥) → is_prepared st ≡ false
  not_prepared Dead none = refl
  not_prepared (Active v) none = refl
  not_prepared (Prepared t i) none = absurd (none t i refl)

  pub is_prepared_at : (st : Status L) (t : Name) (i : L.Intentions) → st ≡ Prepared t i → is_prepared st ≡ true
  is_prepared_at st t i e = ap is_prepared e

  module _ (o : L.Site → Name → Name) (d : Desk L) (past : List (Deed L)) (a : L.Site) (s new : SiteState L) (later : Later o d past a s new) where
    vote_later : (t k : Name) (x : Vote) → Drawn s k → FitsVote d s t k x → FitsVote d new t k x
    vote_later t k Yes drawn (quiet, held) = (later.quiet k drawn quiet, λ u e. ((held u e).0, later.stays k t (held u e).0 u e (held u e).1))
    vote_later t k No drawn fit = fit
    vote_later t k Read drawn fit = (later.dead k drawn fit.0, fit.1)

    never_prepared : (t k : Name) → o a k ≡ t → (IsCommitted past t → is_prepared (s.status k) ≡ false) → IsCommitted past t → is_prepared (new.status k) ≡ false
    never_prepared t k owner before done = not_prepared (new.status k) (λ u i e. ⊎_elim
        (λ held. clash (is_prepared_at (s.status k) u i held) (before done))
        (λ fresh. fresh.3 (subst (IsCommitted past) (sym owner ∙ fresh.0) done))
        (later.comes k u i e))

    pub body_later : (t : Name) (b : Body L) → FitsBody o d past a s t b → FitsBody o d past a new t b
    body_later t Open fit = fit
    body_later t (Ticket k) (drawn, owner, site, visited) = (later.drawn k drawn, owner, site, visited)
    body_later t (Fetch k op g q) (drawn, owner, own) = (later.drawn k drawn, owner, own)
    body_later t (Write k op g x) (drawn, owner, own) = (later.drawn k drawn, owner, own)
    body_later t (Prepare k n) (drawn, owner, own, quiet) = (later.drawn k drawn, owner, own, λ done. later.quiet k drawn (quiet done))
    body_later t (Commit k) (drawn, owner, done, quiet) = (later.drawn k drawn, owner, done, later.quiet k drawn quiet)
    body_later t (Abort k) (drawn, owner, other, free) = (later.drawn k drawn, owner, other, never_prepared t k owner free)
    body_later t (Rows k op rows) fit = fit
    body_later t (Refused k reason) fit = fit
    body_later t (Voted k x) (drawn, owner, vote) = (later.drawn k drawn, owner, vote_later t k x drawn vote)
    body_later t (Ack k) (drawn, owner, dead) = (later.drawn k drawn, owner, later.dead k drawn dead)
    body_later t (Inquire k) (drawn, owner, quiet) = (later.drawn k drawn, owner, later.quiet k drawn quiet)

    pub prepared_later : (k t : Name) (i : L.Intentions) → ((i : L.Intentions) → s.status k ≡ Prepared t i → PreparedAt o d past a k t) → new.status k ≡ Prepared t i → PreparedAt o d past a k t
    prepared_later k t i before e = ⊎_elim
        (λ held. before i held)
        (λ fresh. record { owner = fresh.0; born = fresh.1; own = fresh.2; voter = λ done. absurd (fresh.3 done) })
        (later.comes k t i e)

    pub vote_at_later : (t k : Name) (u : Undecided L) (x : Vote) → d.txn t ≡ Known u → Drawn s k → VoteAt s t k x → VoteAt new t k x
    vote_at_later t k u Yes e drawn (i, held) = (i, later.stays k t i u e held)
    vote_at_later t k u No e drawn vote = vote
    vote_at_later t k u Read e drawn vote = later.dead k drawn vote

  pub same_later : (o : L.Site → Name → Name) (d : Desk L) (past : List (Deed L)) (a : L.Site) (s : SiteState L) → ((k : Name) → is_dead (s.status k) ≡ false → Drawn s k) → Later o d past a s s
  same_later o d past a s live = record { drawn = λ k h. h; dead = λ k h e. e; quiet = λ k h e. e; stays = λ k t i u e h. h; comes = λ k t i e. inl e; live = live }

  -- a step of one site
  module _ (law : IsLawful L) where
    pub site_moves : (o : L.Site → Name → Name) (w : World L) (a : L.Site) (new : SiteState L) (letters : List (Letter L)) → Fit o w → Later o w.desk w.past a (w.sites a) new →
        Every (λ l. Born w.desk l.txn × (l.site ≡ a) × FitsBody o w.desk w.past a new l.txn l.body) letters → Fit o (with_site w a new letters)
    site_moves o w a new letters fit later fits =
        let at : (b : L.Site) → Later o w.desk w.past b (w.sites b) (put L.same_site a new w.sites b) =
        put_all L.same_site law.sites a new w.sites (λ b s. Later o w.desk w.past b (w.sites b) s) later (λ b e. same_later o w.desk w.past b (w.sites b) (fit.live b)) in
        record {
          live = λ b. (at b).live;
          prepared = λ b k t i e. prepared_later o w.desk w.past b (w.sites b) (put L.same_site a new w.sites b) (at b) k t i (fit.prepared b k t) e;
          born = fit.born;
          known = λ t u e. let known = fit.known t u e in record {
            tickets = λ b k own. let ticket = known.tickets b k own in ((at b).drawn k ticket.0, ticket.1, ticket.2, ticket.3);
            votes = λ votes stage b x counted k own. vote_at_later o w.desk w.past b (w.sites b) (put L.same_site a new w.sites b) (at b) t k u x e ((known.tickets b k own).0) (known.votes votes stage b x counted k own);
            none = known.none;
            named = known.named;
            reads = λ votes stage b k is own. in_left (record { site = b; txn = t; body = Voted k Read }) w.letters letters (known.reads votes stage b k is own);
          };
          rows = λ t vs acked e. (
            (fit.rows t vs acked e).0,
            every_more (Gone w.sites) (Gone (put L.same_site a new w.sites)) acked (λ v gone. ((at v.0).drawn v.1 gone.0, (at v.0).dead v.1 gone.0 gone.1)) (fit.rows t vs acked e).1,
            every_more (Votes o w.sites t) (Votes o (put L.same_site a new w.sites) t) vs (λ v is. ((at v.0).drawn v.1 is.0, is.1, (at v.0).quiet v.1 is.0 is.2)) (fit.rows t vs acked e).2,
          );
          committed = fit.committed;
          letters = every_append (Fits o w.desk w.past (put L.same_site a new w.sites)) w.letters letters
              (every_more (Fits o w.desk w.past w.sites) (Fits o w.desk w.past (put L.same_site a new w.sites)) w.letters
              (λ l was. (was.0, body_later o w.desk w.past l.site (w.sites l.site) (put L.same_site a new w.sites l.site) (at l.site) l.txn l.body was.1)) fit.letters)
              (every_more (λ l. Born w.desk l.txn × (l.site ≡ a) × FitsBody o w.desk w.past a new l.txn l.body) (Fits o w.desk w.past (put L.same_site a new w.sites)) letters
              (λ l is. (is.0, subst (λ b. FitsBody o w.desk w.past b (put L.same_site a new w.sites b) l.txn l.body) (sym is.1) (subst (λ s. FitsBody o w.desk w.past a s l.txn l.body) (sym (put_here L.same_site law.sites a new w.sites)) is.2))) fits);
        }

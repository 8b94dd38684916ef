-- Each event of a site keeps what letters, prepared rows and transactions say: letters, Opens, restarts, giving up, inquiries.
use Rattle.std.proofs.Common.{◌≡◌, refl, ap, ◌∙◌, subst, suc, ◌&&◌, Bool, true, false, List, [], ◌∷◌, if◌then◌else◌, ◌⊎◌, inl, inr, ⊎_elim, arith, le_refl, le_trans, le_of_lt, lt-suc_self}
use Rattle.protocol.specs.Language.{Lang, IsLawful, Name, same}
use Rattle.protocol.specs.Letter.{Body, Open, Fetch, Write, Prepare, Commit, Abort, Ticket, Rows, Refused, Voted, Ack, Inquire}
use Rattle.protocol.specs.Site.{Status, Dead, Active, Prepared, SiteState, Act, Opens, Ends, is_dead, is_active, next_ticket, new_visit, on_letter, site_after, said, restarted, site_restarted, on_give_up, inquiry_of, inquiries, is_within}
use Rattle.protocol.specs.Desk.{Deed, Desk}
use Rattle.protocol.specs.World.{World, with_site, addressed, site_steps, gives_up, inquires, restarts}
use Rattle.protocol.proofs.Basics.{Every, put_all, every_append, every_more, every_flat, clash, same_law, same_refl, either, either_if, both_true, left_true, right_true, if_true}
use Rattle.protocol.proofs.Fits.{Drawn, Born, Und, OwnVoting, IsCommitted, FitsBody, Fits, known_more, Votes, Fit}
use Rattle.protocol.proofs.SiteTable.{Acted, acted}
use Rattle.protocol.proofs.SiteFits.{Later, same_later, site_moves}
use Rattle.protocol.proofs.SiteSteps.{not_drawn, from_visit, letter_later, letter_said}

-- the owners with one more
abbrev pub owned : (L : Lang) → L.Site → Name → Name → (L.Site → Name → Name) → L.Site → Name → Name
owned L a k t o b j = if L.same_site b a && same j k then t else o b j

module _ {L : Lang} where
  pub drawn_next : (s : SiteState L) (k : Name) → Drawn s k → Drawn (site_after s Opens) k
  drawn_next s k h = ⊎_elim (λ below. inl below) (λ same_life. inr (same_life.0, le_trans same_life.1 (le_of_lt (lt-suc_self s.number)))) h

  pub drawn_restarted : (s : SiteState L) (k : Name) → Drawn s k → Drawn (site_restarted s) k
  drawn_restarted s k h = inl (omega arith)

  module _ (o p : L.Site → Name → Name) (d : Desk L) (past : List (Deed L)) (b : L.Site) (s : SiteState L) (alike : (j : Name) → Drawn s j → p b j ≡ o b j) where
    body_reowned : (t : Name) (body : Body L) → FitsBody o d past b s t body → FitsBody p d past b s t body
    body_reowned t Open fit = fit
    body_reowned t (Ticket k) (drawn, owner, rest, more) = (drawn, alike k drawn ∙ owner, rest, more)
    body_reowned t (Fetch k op g q) (drawn, owner, rest) = (drawn, alike k drawn ∙ owner, rest)
    body_reowned t (Write k op g x) (drawn, owner, rest) = (drawn, alike k drawn ∙ owner, rest)
    body_reowned t (Prepare k n) (drawn, owner, rest, more) = (drawn, alike k drawn ∙ owner, rest, more)
    body_reowned t (Commit k) (drawn, owner, rest, more) = (drawn, alike k drawn ∙ owner, rest, more)
    body_reowned t (Abort k) (drawn, owner, rest, more) = (drawn, alike k drawn ∙ owner, rest, more)
    body_reowned t (Rows k op rows) fit = fit
    body_reowned t (Refused k reason) fit = fit
    body_reowned t (Voted k x) (drawn, owner, rest) = (drawn, alike k drawn ∙ owner, rest)
    body_reowned t (Ack k) (drawn, owner, rest) = (drawn, alike k drawn ∙ owner, rest)
    body_reowned t (Inquire k) (drawn, owner, rest) = (drawn, alike k drawn ∙ owner, rest)

  -- new owners agree with the old where a ticket was drawn
  abbrev pub Alike : (o p : L.Site → Name → Name) → World L → Type 0
  Alike o p w = (b : L.Site) (j : Name) → Drawn (w.sites b) j → p b j ≡ o b j

  fit_reowned : (o p : L.Site → Name → Name) (w : World L) → ((b : L.Site) (j : Name) → Drawn (w.sites b) j → p b j ≡ o b j) → Fit o w → Fit p w
  fit_reowned o p w alike fit = record {
    live = fit.live;
    prepared = λ a k t i e. let row = fit.prepared a k t i e in record { owner = alike a k (fit.live a k (ap is_dead e)) ∙ row.owner; born = row.born; own = row.own; voter = row.voter };
    born = fit.born;
    known = λ t u e. let known = fit.known t u e in record {
      tickets = λ a k own. let ticket = known.tickets a k own in (ticket.0, alike a k ticket.0 ∙ ticket.1, ticket.2, ticket.3);
      votes = known.votes;
      none = known.none;
      named = known.named;
      reads = known.reads;
    };
    rows = λ t vs acked e. let r = fit.rows t vs acked e in (r.0, r.1, every_more (Votes o w.sites t) (Votes p w.sites t) vs (λ v is. (is.0, alike v.0 v.1 is.0 ∙ is.1, is.2)) r.2);
    committed = fit.committed;
    letters = every_more (Fits o w.desk w.past w.sites) (Fits p w.desk w.past w.sites) w.letters
        (λ l is. (is.0, body_reowned o p w.desk w.past l.site (w.sites l.site) (alike l.site) l.txn l.body is.1)) fit.letters;
  }

  -- no owner that counts changes where the ticket is new
  pub alike_where_new : (law : IsLawful L) (o : L.Site → Name → Name) (w : World L) (a : L.Site) (k t : Name) → (Drawn (w.sites a) k → ⊥) → (b : L.Site) (j : Name) → Drawn (w.sites b) j → owned L a k t o b j ≡ o b j
  alike_where_new law o w a k t new b j drawn = either_if (λ n. n ≡ o b j) (L.same_site b a && same j k) t (o b j)
      (λ is. let at_site : b ≡ a = (law.sites b a).0 (left_true (L.same_site b a) (same j k) is) in
      let at_name : j ≡ k = (same_law j k).0 (right_true (L.same_site b a) (same j k) is) in
      absurd (new (subst (λ n. Drawn (w.sites a) n) at_name (subst (λ c. Drawn (w.sites c) j) at_site drawn))))
      (λ other. refl)

  module _ (law : IsLawful L) where
    -- letters to a site's own transaction
    pub addressed_fit : (o : L.Site → Name → Name) (w : World L) (a : L.Site) (new : SiteState L) (t : Name) (bodies : List (Body L)) → Born w.desk t → Every (FitsBody o w.desk w.past a new t) bodies →
        Every (λ l. Born w.desk l.txn × (l.site ≡ a) × FitsBody o w.desk w.past a new l.txn l.body) (addressed a t bodies)
    addressed_fit o w a new t [] born all = tt
    addressed_fit o w a new t (b ∷ bodies) born all = ((born, refl, all.0), addressed_fit o w a new t bodies born all.1)

    -- an Open
    pub open_fit : (o : L.Site → Name → Name) (w : World L) (a : L.Site) (t : Name) → Fit o w → Born w.desk t → FitsBody o w.desk w.past a (w.sites a) t Open →
        Fit (owned L a (next_ticket (w.sites a)) t o) (with_site w a (site_after (w.sites a) Opens) (addressed a t (said (w.sites a) Opens)))
    open_fit o w a t fit born (site, visited) =
        let s = w.sites a in
        let k = next_ticket s in
        let p = owned L a k t o in
        let refit : Fit p w = fit_reowned o p w (alike_where_new law o w a k t (not_drawn s)) fit in
        let new = site_after s Opens in
        let later : Later p w.desk w.past a s new = record {
          drawn = drawn_next s;
          dead = λ j h. put_all same same_law k (Active (new_visit s)) s.status (λ j x. Drawn s j → is_dead (s.status j) ≡ true → is_dead x ≡ true) (λ drawn. absurd (not_drawn s drawn)) (λ j other drawn e. e) j h;
          quiet = λ j h. put_all same same_law k (Active (new_visit s)) s.status (λ j x. Drawn s j → is_active (s.status j) ≡ false → is_active x ≡ false) (λ drawn. absurd (not_drawn s drawn)) (λ j other drawn e. e) j h;
          stays = λ j u i v known. put_all same same_law k (Active (new_visit s)) s.status (λ j x. s.status j ≡ Prepared u i → x ≡ Prepared u i) (λ row. absurd (not_drawn s (fit.live a k (ap is_dead row)))) (λ j other row. row) j;
          comes = λ j u i. put_all same same_law k (Active (new_visit s)) s.status (λ j x. x ≡ Prepared u i → (s.status j ≡ Prepared u i) ⊎ ((p a j ≡ u) × Born w.desk u × Und w.desk u (OwnVoting a j) × (IsCommitted w.past u → ⊥))) (λ row. cc) (λ j other row. inl row) j;
          live = put_all same same_law k (Active (new_visit s)) s.status (λ j x. is_dead x ≡ false → Drawn new j) (λ e. inr (refl, le_refl (suc s.number))) (λ j other e. drawn_next s j (fit.live a j e));
        } in
        site_moves law p w a new (addressed a t (said s Opens)) refit later
        (addressed_fit p w a new t (Ticket k ∷ []) born
        ((inr (refl, le_refl (suc s.number)), if_true (L.same_site a a && same k k) t (o a k) (both_true (L.same_site a a) (same k k) ((law.sites a a).1 refl) (same_refl k)), site, visited), tt))

    abbrev pub is_open : Body L → Bool
    is_open Open = true
    is_open b = false

    pub not_open : (b : Body L) → is_open b ≡ false → (b ≡ Open) → ⊥
    not_open b other e = clash (ap is_open e) other

    other_letter : (o : L.Site → Name → Name) (w : World L) (a : L.Site) (t : Name) (b : Body L) (act : Act L) → Fit o w → Born w.desk t → FitsBody o w.desk w.past a (w.sites a) t b → Acted (w.sites a) t b act → ((b ≡ Open) → ⊥) →
        (p : L.Site → Name → Name) × Fit p (site_steps w a (site_after (w.sites a) act) (addressed a t (said (w.sites a) act))) × Alike o p w
    other_letter o w a t b act fit born here row other = either (λ v. (p : L.Site → Name → Name) × Fit p v × Alike o p w) (is_within (site_after (w.sites a) act)) (with_site w a (site_after (w.sites a) act) (addressed a t (said (w.sites a) act))) w (
      o,
      site_moves law o w a (site_after (w.sites a) act) (addressed a t (said (w.sites a) act)) fit (letter_later o w a fit t b act born here row other)
          (addressed_fit o w a (site_after (w.sites a) act) t (said (w.sites a) act) born (letter_said o w a fit t b act here row other)),
      λ b j h. refl,
    )
        (o, fit, λ b j h. refl)

    -- a letter comes to its site
    pub site_letter : (o : L.Site → Name → Name) (w : World L) (a : L.Site) (t : Name) (kept : Bool) (b : Body L) → Fit o w → Born w.desk t → FitsBody o w.desk w.past a (w.sites a) t b →
        (p : L.Site → Name → Name) × Fit p (site_steps w a (site_after (w.sites a) (on_letter (w.sites a) t kept b)) (addressed a t (said (w.sites a) (on_letter (w.sites a) t kept b)))) × Alike o p w
    site_letter o w a t kept Open fit born here = either (λ v. (p : L.Site → Name → Name) × Fit p v × Alike o p w) (is_within (site_after (w.sites a) Opens)) (with_site w a (site_after (w.sites a) Opens) (addressed a t (said (w.sites a) Opens))) w
        (owned L a (next_ticket (w.sites a)) t o, open_fit o w a t fit born here, alike_where_new law o w a (next_ticket (w.sites a)) t (not_drawn (w.sites a))) (o, fit, λ b j h. refl)
    site_letter o w a t kept b fit born here = other_letter o w a t b (on_letter (w.sites a) t kept b) fit born here (acted (w.sites a) t kept b) (not_open b refl)

    dead_is : (st : Status L) → is_dead st ≡ true → is_dead (restarted st) ≡ true
    dead_is Dead e = e
    dead_is (Active v) e = refl
    dead_is (Prepared t i) e = e

    quiet_is : (st : Status L) → is_active (restarted st) ≡ false
    quiet_is Dead = refl
    quiet_is (Active v) = refl
    quiet_is (Prepared t i) = refl

    stays_is : (st : Status L) (t : Name) (i : L.Intentions) → st ≡ Prepared t i → restarted st ≡ Prepared t i
    stays_is Dead t i e = e
    stays_is (Active v) t i e = cc
    stays_is (Prepared u j) t i e = e

    comes_is : (st : Status L) (t : Name) (i : L.Intentions) → restarted st ≡ Prepared t i → st ≡ Prepared t i
    comes_is Dead t i e = e
    comes_is (Active v) t i e = cc
    comes_is (Prepared u j) t i e = e

    live_is : (st : Status L) → is_dead (restarted st) ≡ false → is_dead st ≡ false
    live_is Dead e = e
    live_is (Active v) e = refl
    live_is (Prepared u j) e = refl

    pub restart_later : (o : L.Site → Name → Name) (w : World L) (a : L.Site) → Fit o w → Later o w.desk w.past a (w.sites a) (site_restarted (w.sites a))
    restart_later o w a fit = record {
      drawn = drawn_restarted (w.sites a);
      dead = λ k h. dead_is ((w.sites a).status k);
      quiet = λ k h e. quiet_is ((w.sites a).status k);
      stays = λ k t i u known. stays_is ((w.sites a).status k) t i;
      comes = λ k t i e. inl (comes_is ((w.sites a).status k) t i e);
      live = λ k e. drawn_restarted (w.sites a) k (fit.live a k (live_is ((w.sites a).status k) e));
    }

    -- a restart
    pub restart_fit : (o : L.Site → Name → Name) (w : World L) (a : L.Site) → Fit o w → Fit o (restarts w a)
    restart_fit o w a fit = either (Fit o) (is_within (site_restarted (w.sites a))) _ w (site_moves law o w a (site_restarted (w.sites a)) [] fit (restart_later o w a fit) tt) fit

    -- giving up
    pub give_up_fit : (o : L.Site → Name → Name) (w : World L) (a : L.Site) (k : Name) → Fit o w → Fit o (gives_up w a k)
    give_up_fit o w a k fit = go ((w.sites a).status k) refl
      where
        go : (st : Status L) → (w.sites a).status k ≡ st → Fit o (site_steps w a (site_after (w.sites a) (on_give_up k st)) [])
        go Dead e = either (Fit o) (is_within (w.sites a)) _ w (site_moves law o w a (w.sites a) [] fit (same_later o w.desk w.past a (w.sites a) (fit.live a)) tt) fit
        go (Prepared t i) e = either (Fit o) (is_within (w.sites a)) _ w (site_moves law o w a (w.sites a) [] fit (same_later o w.desk w.past a (w.sites a) (fit.live a)) tt) fit
        go (Active v) e = either (Fit o) (is_within (site_after (w.sites a) (Ends k []))) _ w (site_moves law o w a (site_after (w.sites a) (Ends k [])) [] fit (from_visit o w.desk w.past a (w.sites a) (fit.live a) k v Dead (site_after (w.sites a) (Ends k [])).known e (λ t i row. cc)) tt) fit

    -- inquiries
    pub inquire_fit : (o : L.Site → Name → Name) (w : World L) (a : L.Site) → Fit o w → Fit o (inquires w a)
    inquire_fit o w a fit = record {
      live = fit.live;
      prepared = fit.prepared;
      born = fit.born;
      known = λ t u e. known_more o w.sites w.letters (inquiries a (w.sites a)) t u (fit.known t u e);
      rows = fit.rows;
      committed = fit.committed;
      letters = every_append (Fits o w.desk w.past w.sites) w.letters (inquiries a (w.sites a)) fit.letters
          (every_flat (Fits o w.desk w.past w.sites) (λ k. inquiry_of a k ((w.sites a).status k)) (w.sites a).known (λ k. go k ((w.sites a).status k) refl));
    }
      where
        go : (k : Name) (st : Status L) → (w.sites a).status k ≡ st → Every (Fits o w.desk w.past w.sites) (inquiry_of a k st)
        go k Dead e = tt
        go k (Active v) e = tt
        go k (Prepared t i) e = (((fit.prepared a k t i e).born, (fit.live a k (ap is_dead e), (fit.prepared a k t i e).owner, ap is_active e)), tt)

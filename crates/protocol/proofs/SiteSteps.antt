-- What a letter does at its site, a restart and giving up keep what letters, prepared rows and transactions say.
use Rattle.std.proofs.Common.{◌≡◌, refl, sym, ap, ◌∙◌, subst, true, false, List, ◌⊎◌, inl, inr, Some, arith}
use Rattle.protocol.specs.Language.{Lang, Name, same, put}
use Rattle.protocol.specs.Letter.{Body, Open}
use Rattle.protocol.specs.Site.{Visit, Status, Dead, Active, Prepared, SiteState, Act, is_dead, is_active, is_prepared, sees, next_ticket, site_after, said}
use Rattle.protocol.specs.Desk.{Undecided, Known, Deed, Desk}
use Rattle.protocol.specs.World.{World}
use Rattle.protocol.proofs.Basics.{Every, put_all, put_here, clash, same_law, some_is}
use Rattle.protocol.proofs.Fits.{Drawn, Born, Und, OwnVoting, IsCommitted, FitsBody, Fit}
use Rattle.protocol.proofs.SiteTable.{Acted, says_nothing, says_gone, says_no, says_yes, says_ack, opens, reads, writes, prepares, only_read, votes_no, refuses, applies, ends, discards}
use Rattle.protocol.proofs.SiteFits.{Later, same_later}

module _ {L : Lang} where
  pub sees_dead : (g : L.Leaf) (st : Status L) → is_dead (sees g st) ≡ is_dead st
  sees_dead g Dead = refl
  sees_dead g (Active v) = refl
  sees_dead g (Prepared t i) = refl

  pub sees_alive : (g : L.Leaf) (st : Status L) → is_active (sees g st) ≡ is_active st
  sees_alive g Dead = refl
  sees_alive g (Active v) = refl
  sees_alive g (Prepared t i) = refl

  pub sees_prepared : (g : L.Leaf) (st : Status L) (t : Name) (i : L.Intentions) → sees g st ≡ Prepared t i → st ≡ Prepared t i
  sees_prepared g Dead t i e = e
  sees_prepared g (Active v) t i e = cc
  sees_prepared g (Prepared u j) t i e = e

  pub prepared_sees : (g : L.Leaf) (st : Status L) (t : Name) (i : L.Intentions) → st ≡ Prepared t i → sees g st ≡ Prepared t i
  prepared_sees g Dead t i e = e
  prepared_sees g (Active v) t i e = cc
  prepared_sees g (Prepared u j) t i e = e

  pub not_drawn : (s : SiteState L) → Drawn s (next_ticket s) → ⊥
  not_drawn s h = omega arith

  pub same_row : (t u : Name) (i j : L.Intentions) (st : Status L) → st ≡ Prepared t i → st ≡ Prepared u j → t ≡ u
  same_row t u i j st e f = let g : Prepared t i ≡ Prepared u j = sym e ∙ f in cc

  neither_is_dead : (st : Status L) → is_active st ≡ false → is_prepared st ≡ false → is_dead st ≡ true
  neither_is_dead Dead a p = refl
  neither_is_dead (Active v) a p = cc
  neither_is_dead (Prepared t i) a p = cc

  module _ (o : L.Site → Name → Name) (d : Desk L) (past : List (Deed L)) (a : L.Site) (s : SiteState L) (live : (k : Name) → is_dead (s.status k) ≡ false → Drawn s k) where
    -- one ticket gets another status, the others are alike
    put_later : (k : Name) (st : Status L) (f : Name → Status L) (names : List Name) (kept : L.Leaf → L.Content) → Drawn s k →
        ((j : Name) → is_dead (f j) ≡ is_dead (s.status j)) → ((j : Name) → is_active (f j) ≡ is_active (s.status j)) →
        ((j t : Name) (i : L.Intentions) → f j ≡ Prepared t i → s.status j ≡ Prepared t i) → ((j t : Name) (i : L.Intentions) → s.status j ≡ Prepared t i → f j ≡ Prepared t i) →
        (is_dead (s.status k) ≡ true → is_dead st ≡ true) → (is_active (s.status k) ≡ false → is_active st ≡ false) →
        ((t : Name) (i : L.Intentions) (u : Undecided L) → d.txn t ≡ Known u → s.status k ≡ Prepared t i → st ≡ Prepared t i) →
        ((t : Name) (i : L.Intentions) → st ≡ Prepared t i → (s.status k ≡ Prepared t i) ⊎ ((o a k ≡ t) × Born d t × Und d t (OwnVoting a k) × (IsCommitted past t → ⊥))) →
        Later o d past a s (record s { kept = kept; status = put same k st f; known = names })
    put_later k st f names kept drawn like_dead like_alive from_row to_row dead quiet stays comes = record {
      drawn = λ j h. h;
      dead = λ j h. put_all same same_law k st f (λ j x. is_dead (s.status j) ≡ true → is_dead x ≡ true) dead (λ j other e. like_dead j ∙ e) j;
      quiet = λ j h. put_all same same_law k st f (λ j x. is_active (s.status j) ≡ false → is_active x ≡ false) quiet (λ j other e. like_alive j ∙ e) j;
      stays = λ j t i u e. put_all same same_law k st f (λ j x. s.status j ≡ Prepared t i → x ≡ Prepared t i) (stays t i u e) (λ j other row. to_row j t i row) j;
      comes = λ j t i. put_all same same_law k st f (λ j x. x ≡ Prepared t i → (s.status j ≡ Prepared t i) ⊎ ((o a j ≡ t) × Born d t × Und d t (OwnVoting a j) × (IsCommitted past t → ⊥))) (comes t i) (λ j other row. inl (from_row j t i row)) j;
      live = λ j. put_all same same_law k st f (λ j x. is_dead x ≡ false → Drawn s j) (λ e. drawn) (λ j other e. live j (sym (like_dead j) ∙ e)) j;
    }

    alive_drawn : (k : Name) (v : Visit L) → s.status k ≡ Active v → Drawn s k
    alive_drawn k v e = live k (ap is_dead e)

    -- a visit locks, is prepared or ends
    from_alive : (k : Name) (v : Visit L) (st : Status L) (g : L.Leaf) (names : List Name) → s.status k ≡ Active v →
        ((t : Name) (i : L.Intentions) → st ≡ Prepared t i → (o a k ≡ t) × Born d t × Und d t (OwnVoting a k) × (IsCommitted past t → ⊥)) →
        Later o d past a s (record s { status = put same k st (λ j. sees g (s.status j)); known = names })
    from_alive k v st g names e fine = put_later k st (λ j. sees g (s.status j)) names s.kept (alive_drawn k v e)
        (λ j. sees_dead g (s.status j)) (λ j. sees_alive g (s.status j)) (λ j t i. sees_prepared g (s.status j) t i) (λ j t i. prepared_sees g (s.status j) t i)
        (λ dead. clash dead (ap is_dead e)) (λ quiet. clash (ap is_active e) quiet) (λ t i u known row. let f : Active v ≡ Prepared t i = sym e ∙ row in cc) (λ t i row. inr (fine t i row))

    pub from_visit : (k : Name) (v : Visit L) (st : Status L) (names : List Name) → s.status k ≡ Active v →
        ((t : Name) (i : L.Intentions) → st ≡ Prepared t i → (o a k ≡ t) × Born d t × Und d t (OwnVoting a k) × (IsCommitted past t → ⊥)) →
        Later o d past a s (record s { status = put same k st s.status; known = names })
    from_visit k v st names e fine = put_later k st s.status names s.kept (alive_drawn k v e)
        (λ j. refl) (λ j. refl) (λ j t i row. row) (λ j t i row. row)
        (λ dead. clash dead (ap is_dead e)) (λ quiet. clash (ap is_active e) quiet) (λ t i u known row. let f : Active v ≡ Prepared t i = sym e ∙ row in cc) (λ t i row. inr (fine t i row))

    -- a prepared row goes, its transaction being decided
    from_row : (k u : Name) (i : L.Intentions) (names : List Name) (kept : L.Leaf → L.Content) → s.status k ≡ Prepared u i → Und d u (λ v. ⊥) →
        Later o d past a s (record s { kept = kept; status = put same k Dead s.status; known = names })
    from_row k u i names kept e over = put_later k Dead s.status names kept (live k (ap is_dead e))
        (λ j. refl) (λ j. refl) (λ j t i row. row) (λ j t i row. row) (λ dead. refl) (λ quiet. refl)
        (λ t j v known row. absurd (over v (subst (λ n. d.txn n ≡ Known v) (same_row t u j i (s.status k) row e) known)))
        (λ t j row. cc)

  module _ (o : L.Site → Name → Name) (w : World L) (a : L.Site) (fit : Fit o w) where
    -- the row of a decided transaction goes at its Commit
    pub over_at_commit : (t k u : Name) (i : L.Intentions) → o a k ≡ t → IsCommitted w.past t → (w.sites a).status k ≡ Prepared u i → Und w.desk u (λ v. ⊥)
    over_at_commit t k u i owner done row = subst (λ n. Und w.desk n (λ v. ⊥)) (sym owner ∙ (fit.prepared a k u i row).owner) (fit.committed t done).1

    over_at_abort : (t k u : Name) (i : L.Intentions) → o a k ≡ t → Und w.desk t (λ v. (j : Name) × (v.ticket a ≡ Some j) × (same j k ≡ false)) → (w.sites a).status k ≡ Prepared u i → Und w.desk u (λ v. ⊥)
    over_at_abort t k u i owner other row v known =
        let prepared = fit.prepared a k u i row in
        let its = other v (subst (λ n. w.desk.txn n ≡ Known v) (sym prepared.owner ∙ owner) known) in
        let is : its.0 ≡ k = some_is (sym its.1 ∙ (prepared.own v known).0) in
        clash ((same_law its.0 k).1 is) its.2

    -- a letter other than Open at its site
    pub letter_later : (t : Name) (b : Body L) (act : Act L) → Born w.desk t → FitsBody o w.desk w.past a (w.sites a) t b → Acted (w.sites a) t b act → ((b ≡ Open) → ⊥) →
        Later o w.desk w.past a (w.sites a) (site_after (w.sites a) act)
    letter_later t b act born fit_b (says_nothing c) no_open = same_later o w.desk w.past a (w.sites a) (fit.live a)
    letter_later t b act born fit_b (says_gone k op g q) no_open = same_later o w.desk w.past a (w.sites a) (fit.live a)
    letter_later t b act born fit_b (says_no k n) no_open = same_later o w.desk w.past a (w.sites a) (fit.live a)
    letter_later t b act born fit_b (says_yes k n u i e) no_open = same_later o w.desk w.past a (w.sites a) (fit.live a)
    letter_later t b act born fit_b (says_ack k e) no_open = same_later o w.desk w.past a (w.sites a) (fit.live a)
    letter_later t b act born fit_b opens no_open = absurd (no_open refl)
    letter_later t b act born fit_b (reads k op g q v e next free) no_open = from_alive o w.desk w.past a (w.sites a) (fit.live a) k v _ g _ e (λ u i row. cc)
    letter_later t b act born fit_b (writes k op g x v e next free) no_open = from_alive o w.desk w.past a (w.sites a) (fit.live a) k v _ g _ e (λ u i row. cc)
    letter_later t b act born fit_b (prepares k n v e done) no_open = from_visit o w.desk w.past a (w.sites a) (fit.live a) k v _ _ e
        (λ u i row. let is : t ≡ u = same_row t u v.changes i (Prepared t v.changes) refl row in
        subst (λ n. (o a k ≡ n) × Born w.desk n × Und w.desk n (OwnVoting a k) × (IsCommitted w.past n → ⊥)) is (fit_b.1, born, fit_b.2, λ decided. clash (ap is_active e) (fit_b.3 decided)))
    letter_later t b act born fit_b (only_read k n v e done empty) no_open = from_visit o w.desk w.past a (w.sites a) (fit.live a) k v Dead _ e (λ u i row. cc)
    letter_later t b act born fit_b (votes_no k n v e) no_open = from_visit o w.desk w.past a (w.sites a) (fit.live a) k v Dead _ e (λ u i row. cc)
    letter_later t b act born fit_b (refuses c k v reason e) no_open = from_visit o w.desk w.past a (w.sites a) (fit.live a) k v Dead _ e (λ u i row. cc)
    letter_later t b act born fit_b (applies k u i e) no_open = from_row o w.desk w.past a (w.sites a) (fit.live a) k u i _ _ e (over_at_commit t k u i fit_b.1 fit_b.2 e)
    letter_later t b act born fit_b (ends c k v e) no_open = from_visit o w.desk w.past a (w.sites a) (fit.live a) k v Dead _ e (λ u i row. cc)
    letter_later t b act born fit_b (discards k u i e) no_open = from_row o w.desk w.past a (w.sites a) (fit.live a) k u i _ _ e (over_at_abort t k u i fit_b.1 fit_b.2 e)

    -- what the site answers
    pub letter_said : (t : Name) (b : Body L) (act : Act L) → FitsBody o w.desk w.past a (w.sites a) t b → Acted (w.sites a) t b act → ((b ≡ Open) → ⊥) →
        Every (FitsBody o w.desk w.past a (site_after (w.sites a) act) t) (said (w.sites a) act)
    letter_said t b act fit_b (says_nothing c) no_open = tt
    letter_said t b act fit_b (says_gone k op g q) no_open = (tt, tt)
    letter_said t b act fit_b (says_no k n) no_open = ((fit_b.0, fit_b.1, tt), tt)
    letter_said t b act fit_b (says_yes k n u i e) no_open =
        ((fit_b.0, fit_b.1, (ap is_active e, λ v known. (i, subst (λ n. (w.sites a).status k ≡ Prepared n i) (sym (fit.prepared a k u i e).owner ∙ fit_b.1) e))), tt)
    letter_said t b act fit_b (says_ack k e) no_open = ((fit_b.0, fit_b.1, neither_is_dead ((w.sites a).status k) fit_b.3 e), tt)
    letter_said t b act fit_b opens no_open = absurd (no_open refl)
    letter_said t b act fit_b (reads k op g q v e next free) no_open = (tt, tt)
    letter_said t b act fit_b (writes k op g x v e next free) no_open = tt
    letter_said t b act fit_b (prepares k n v e done) no_open =
        let now = put_here same same_law k (Prepared t v.changes) (w.sites a).status in
        ((fit_b.0, fit_b.1, (ap is_active now, λ u known. (v.changes, now))), tt)
    letter_said t b act fit_b (only_read k n v e done empty) no_open = ((fit_b.0, fit_b.1, (ap is_dead (put_here same same_law k Dead (w.sites a).status), λ u f. (fit_b.2 u f).1)), tt)
    letter_said t b act fit_b (votes_no k n v e) no_open = ((fit_b.0, fit_b.1, tt), tt)
    letter_said t b act fit_b (refuses c k v reason e) no_open = (tt, tt)
    letter_said t b act fit_b (applies k u i e) no_open = ((fit_b.0, fit_b.1, ap is_dead (put_here same same_law k Dead (w.sites a).status)), tt)
    letter_said t b act fit_b (ends c k v e) no_open = tt
    letter_said t b act fit_b (discards k u i e) no_open = tt

-- Contents that fit, at a site: each letter leaves them fitting.
use Rattle.std.proofs.Common.{◌≡◌, sym, ap, ◌∙◌, subst, ℕ, suc, ◌==◌, Bool, true, List, [], ◌∷◌}
use Rattle.protocol.specs.Language.{Lang, IsLawful, Name, same, put}
use Rattle.protocol.specs.Letter.{Body, Open, Fetch, Write, Prepare, Commit, Abort, Ticket, Rows, Refused, Voted, Ack, Inquire, Lock, Full, Gone, Yes, No, Read}
use Rattle.protocol.specs.Site.{Visit, Status, Dead, Active, Prepared, SiteState, Act, Says, Opens, Locks, Ends, others_exclusive, next_ticket, new_visit, on_letter, on_fetch, on_write, on_prepare, on_commit, on_abort, sees, site_after, said}
use Rattle.protocol.specs.Fitting.{Suits, KeepsFit, StatusFits, BodyFits, SiteFitting}
use Rattle.protocol.proofs.Basics.{Every, either, either_if, put_all, same_law}

module _ {L : Lang} (law : IsLawful L) (fits : L.Leaf → L.Content → Bool) where
  none_keeps : KeepsFit L fits L.none
  none_keeps g c fit = ap (fits g) (law.changed_none g c) ∙ fit

  add_keeps : (h : L.Leaf) (x : L.Write) (i : L.Intentions) → Suits L fits (h, x) → KeepsFit L fits i → KeepsFit L fits (L.add h x i)
  add_keeps h x i suits keeps g c fit = ap (fits g) (law.changed_add g h x i c) ∙ either_if (λ d. fits g d ≡ true) (L.same_leaf h g) (L.put_in x (L.changed g i c)) (L.changed g i c)
      (λ is. subst (λ k. fits k (L.put_in x (L.changed g i c)) ≡ true) ((law.leaves h g).0 is) (suits (L.changed g i c) (subst (λ k. fits k (L.changed g i c) ≡ true) (sym ((law.leaves h g).0 is)) (keeps g c fit))))
      (λ other. keeps g c fit)

  seen_fits : (g : L.Leaf) (st : Status L) → StatusFits L fits st → StatusFits L fits (sees g st)
  seen_fits g Dead fit = fit
  seen_fits g (Active v) fit = fit
  seen_fits g (Prepared t i) fit = fit

  module _ (a : L.Site) (s : SiteState L) (fit : SiteFitting L fits a s) where
    abbrev Stays : Act L → Type 0
    Stays act = SiteFitting L fits a (site_after s act) × Every (BodyFits L fits) (said s act)

    says_fits : (replies : List (Body L)) → Every (BodyFits L fits) replies → Stays (Says replies)
    says_fits replies none = (fit, none)

    put_fits : (k : Name) (st : Status L) → StatusFits L fits st → (j : Name) → StatusFits L fits (put same k st s.status j)
    put_fits k st here = put_all same same_law k st s.status (λ j x. StatusFits L fits x) here (λ j other. fit.status j)

    ends_fits : (k : Name) (replies : List (Body L)) → Every (BodyFits L fits) replies → Stays (Ends k replies)
    ends_fits k replies none = (record { kept = fit.kept; status = put_fits k Dead tt }, none)

    locks_fits : (k : Name) (v : Visit L) (g : L.Leaf) (replies : List (Body L)) → KeepsFit L fits v.changes → Every (BodyFits L fits) replies → Stays (Locks k v g replies)
    locks_fits k v g replies keeps none = (record { kept = fit.kept; status = put_all same same_law k (Active v) (λ j. sees g (s.status j)) (λ j x. StatusFits L fits x) keeps (λ j other. seen_fits g (s.status j) (fit.status j)) }, none)

    open_fits : Stays Opens
    open_fits = (record { kept = fit.kept; status = put_fits (next_ticket s) (Active (new_visit s)) none_keeps }, (tt, tt))

    fetch_fits : (kept : Bool) (k : Name) (op : ℕ) (g : L.Leaf) (q : L.Query) (st : Status L) → StatusFits L fits st → Stays (on_fetch s kept k op g q st)
    fetch_fits kept k op g q Dead keeps = says_fits (Refused k Gone ∷ []) (tt, tt)
    fetch_fits kept k op g q (Prepared t i) keeps = says_fits [] tt
    fetch_fits kept k op g q (Active v) keeps = either Stays (op == suc v.done) _ _ (either Stays (others_exclusive s k g) _ _ (ends_fits k (Refused k Lock ∷ []) (tt, tt)) (either Stays kept _ _ (locks_fits k (record v { done = op; shared = put L.same_leaf g true v.shared }) g (Rows k op (L.parts q (L.changed g v.changes (s.kept g))) ∷ []) keeps (tt, tt)) (says_fits [] tt))) (says_fits [] tt)

    write_fits : (k : Name) (op : ℕ) (g : L.Leaf) (x : L.Write) → Suits L fits (g, x) → (st : Status L) → StatusFits L fits st → Stays (on_write k op g x st)
    write_fits k op g x suits Dead keeps = says_fits [] tt
    write_fits k op g x suits (Prepared t i) keeps = says_fits [] tt
    write_fits k op g x suits (Active v) keeps = either Stays (op == suc v.done) _ _ (either Stays (v.foreign g) _ _ (ends_fits k (Refused k Lock ∷ []) (tt, tt)) (either Stays (L.is_full g x v.changes) _ _ (ends_fits k (Refused k Full ∷ []) (tt, tt)) (locks_fits k (record v { done = op; changes = L.add g x v.changes }) g [] (add_keeps g x v.changes suits keeps) tt))) (says_fits [] tt)

    prepare_fits : (kept : Bool) (t k : Name) (n : ℕ) (st : Status L) → StatusFits L fits st → Stays (on_prepare kept t k n st)
    prepare_fits kept t k n Dead keeps = says_fits (Voted k No ∷ []) (tt, tt)
    prepare_fits kept t k n (Prepared j i) keeps = says_fits (Voted k Yes ∷ []) (tt, tt)
    prepare_fits kept t k n (Active v) keeps = either Stays (v.done == n) _ _ (either Stays (L.is_empty v.changes) _ _ (ends_fits k (Voted k Read ∷ []) (tt, tt)) (either Stays kept _ _ (record { kept = fit.kept; status = put_fits k (Prepared t v.changes) keeps }, (tt, tt)) (ends_fits k (Voted k No ∷ []) (tt, tt)))) (ends_fits k (Voted k No ∷ []) (tt, tt))

    commit_fits : (kept : Bool) (k : Name) (st : Status L) → StatusFits L fits st → Stays (on_commit kept k st)
    commit_fits kept k Dead keeps = says_fits (Ack k ∷ []) (tt, tt)
    commit_fits kept k (Active v) keeps = says_fits (Ack k ∷ []) (tt, tt)
    commit_fits kept k (Prepared t i) keeps = either Stays kept _ _ (record { kept = λ g home. keeps g (s.kept g) (fit.kept g home); status = put_fits k Dead tt }, (tt, tt)) (says_fits [] tt)

    abort_fits : (kept : Bool) (k : Name) (st : Status L) → Stays (on_abort kept k st)
    abort_fits kept k Dead = says_fits [] tt
    abort_fits kept k (Active v) = ends_fits k [] tt
    abort_fits kept k (Prepared t i) = either Stays kept _ _ (ends_fits k [] tt) (says_fits [] tt)

    pub letter_fits : (t : Name) (kept : Bool) (c : Body L) → BodyFits L fits c → Stays (on_letter s t kept c)
    letter_fits t kept Open suits = open_fits
    letter_fits t kept (Fetch k op g q) suits = fetch_fits kept k op g q (s.status k) (fit.status k)
    letter_fits t kept (Write k op g x) suits = write_fits k op g x suits (s.status k) (fit.status k)
    letter_fits t kept (Prepare k n) suits = prepare_fits kept t k n (s.status k) (fit.status k)
    letter_fits t kept (Commit k) suits = commit_fits kept k (s.status k) (fit.status k)
    letter_fits t kept (Abort k) suits = abort_fits kept k (s.status k)
    letter_fits t kept (Ticket k) suits = says_fits [] tt
    letter_fits t kept (Rows k n rows) suits = says_fits [] tt
    letter_fits t kept (Refused k reason) suits = says_fits [] tt
    letter_fits t kept (Voted k x) suits = says_fits [] tt
    letter_fits t kept (Ack k) suits = says_fits [] tt
    letter_fits t kept (Inquire k) suits = says_fits [] tt

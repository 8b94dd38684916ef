-- A database that comes up recovers: each prepared row comes to its end, and then all is quiet.
use Rattle.std.proofs.Common.{◌≡◌, refl, sym, ap, ◌∙◌, subst, ◌&&◌, not, Bool, true, false, List, [], ◌∷◌, ◌++◌, if◌then◌else◌, ◌⊎◌, inl, inr, ⊎_elim, append-nil}
use Rattle.std.specs.Prelude.{⊤}
use Rattle.std.specs.List.{list_any}
use Rattle.protocol.specs.Language.{Lang, IsLawful, Name, same, put}
use Rattle.protocol.specs.Letter.{Body, Open, Fetch, Write, Prepare, Commit, Abort, Ticket, Rows, Refused, Voted, Ack, Inquire, Letter, is_for_desk}
use Rattle.protocol.specs.Site.{Status, Dead, Active, Prepared, SiteState, is_active, is_dead, is_prepared, is_within, on_letter, on_commit, on_abort, site_after, said, inquiries, inquiry_of}
use Rattle.protocol.specs.Desk.{Choice, Deed, Txn, Unknown, Known, Row, Transition, is_pair, are_acked, is_undecided, is_short_txn, is_desk_within, desk_after, on_desk_letter}
use Rattle.protocol.specs.World.{World, addressed, with_site, turned, comes_to, inquires, is_site}
use Rattle.protocol.specs.Parts.{In}
use Rattle.protocol.specs.AfterAbort.{EndKept, Within}
use Rattle.protocol.specs.Client.{first, IsQuiet}
use Rattle.protocol.specs.Delivery.{AllFounded, CallKept, Coming, FirstIsFounded, Passed_over, Taken, Turned_away, all_come, come, first_comes}
use Rattle.protocol.specs.StatementCourse.{passes}
use Rattle.protocol.specs.VisitPlaces.{at, Unlocked}
use Rattle.protocol.specs.Recovery.{EndsRow, Hears, OfRecovery, AtRest, Recovering, all_inquire, RecoveryLaw}
use Rattle.protocol.proofs.Basics.{Every, every_append, every_flat, in_left, in_right, in_flat, either, put_all, same_law, if_true, clash, by_test, or_left, or_right, or_cases}
use Rattle.protocol.proofs.Queue.{at_append, at_here, at_away}
use Rattle.protocol.proofs.Limits.{end_within, next_within, turn_within}
use Rattle.protocol.proofs.Ended.{Idles, letter_idles, in_front, elsewhere, by_site}

module _ {L : Lang} where
  -- ---- what a site hears
  hears_more : (k : Name) (bs more : List (Body L)) → Hears k bs → Hears k (bs ++ more)
  hears_more k bs more (inl here) = inl (in_left (Commit k) bs more here)
  hears_more k bs more (inr (inl here)) = inr (inl (in_left (Abort k) bs more here))
  hears_more k bs more (inr (inr here)) = inr (inr (in_left (Inquire k) bs more here))

  -- what stands for a letter that goes
  abbrev Covered : Body L → List (Body L) → Type 0
  Covered (Commit k) bs = Hears k bs
  Covered (Abort k) bs = Hears k bs
  Covered (Inquire k) bs = Hears k bs
  Covered body bs = ⊤

  hears_rest : (j : Name) (c : Body L) (bs : List (Body L)) → Covered c bs → Hears j (c ∷ bs) → Hears j bs
  hears_rest j c bs covered (inl (inl e)) = subst (λ x. Covered x bs) (sym e) covered
  hears_rest j c bs covered (inl (inr below)) = inl below
  hears_rest j c bs covered (inr (inl (inl e))) = subst (λ x. Covered x bs) (sym e) covered
  hears_rest j c bs covered (inr (inl (inr below))) = inr (inl below)
  hears_rest j c bs covered (inr (inr (inl e))) = subst (λ x. Covered x bs) (sym e) covered
  hears_rest j c bs covered (inr (inr (inr below))) = inr (inr below)

  -- a Commit, or an Abort, of another ticket goes
  other_commit : (j k : Name) (bs : List (Body L)) → same j k ≡ false → Hears j (Commit k ∷ bs) → Hears j bs
  other_commit j k bs other (inl (inl e)) = clash ((same_law j k).1 cc) other
  other_commit j k bs other (inl (inr below)) = inl below
  other_commit j k bs other (inr (inl (inl e))) = cc
  other_commit j k bs other (inr (inl (inr below))) = inr (inl below)
  other_commit j k bs other (inr (inr (inl e))) = cc
  other_commit j k bs other (inr (inr (inr below))) = inr (inr below)

  other_abort : (j k : Name) (bs : List (Body L)) → same j k ≡ false → Hears j (Abort k ∷ bs) → Hears j bs
  other_abort j k bs other (inl (inl e)) = cc
  other_abort j k bs other (inl (inr below)) = inl below
  other_abort j k bs other (inr (inl (inl e))) = clash ((same_law j k).1 cc) other
  other_abort j k bs other (inr (inl (inr below))) = inr (inl below)
  other_abort j k bs other (inr (inr (inl e))) = cc
  other_abort j k bs other (inr (inr (inr below))) = inr (inr below)

  -- ---- a site
  -- each prepared ticket hears how it ends, or has asked, and no visit stands
  record Learning (status : Name → Status L) (bs : List (Body L)) : Type 0 where
    unvisited : (k : Name) → is_active (status k) ≡ false
    hears : (k : Name) → is_prepared (status k) ≡ true → Hears k bs

  -- a ticket is dead, and the others hear
  dies : (k : Name) (status : Name → Status L) (bs more : List (Body L)) → ((j : Name) → is_active (status j) ≡ false) → ((j : Name) → same j k ≡ false → is_prepared (status j) ≡ true → Hears j bs) →
      Learning (put same k Dead status) (bs ++ more)
  dies k status bs more unvisited hears = record {
    unvisited = put_all same same_law k Dead status (λ j x. is_active x ≡ false) refl (λ j other. unvisited j);
    hears = put_all same same_law k Dead status (λ j x. is_prepared x ≡ true → Hears j (bs ++ more)) (λ is. cc) (λ j other is. hears_more j bs more (hears j other is));
  }

  -- a dead ticket stays so, and the others hear
  rests : (k : Name) (status : Name → Status L) (bs more : List (Body L)) → is_prepared (status k) ≡ false → ((j : Name) → is_active (status j) ≡ false) → ((j : Name) → same j k ≡ false → is_prepared (status j) ≡ true → Hears j bs) →
      Learning status (bs ++ more)
  rests k status bs more dead unvisited hears = record {
    unvisited = unvisited;
    hears = λ j is. hears_more j bs more (⊎_elim (λ one. clash is (ap (λ i. is_prepared (status i)) ((same_law j k).0 one) ∙ dead)) (λ other. hears j other is) (by_test (same j k)));
  }

  module _ (s : SiteState L) (bs : List (Body L)) where
    abbrev After : Name → Bool → Body L → Type 0
    After t kept c = Learning (site_after s (on_letter s t kept c)).status (bs ++ said s (on_letter s t kept c))

    commit_learns : (t k : Name) (st : Status L) → s.status k ≡ st → Learning s.status (Commit k ∷ bs) → Learning (site_after s (on_commit true k st)).status (bs ++ said s (on_commit true k st))
    commit_learns t k Dead e l = rests k s.status bs (Ack k ∷ []) (ap is_prepared e) l.unvisited (λ j other is. other_commit j k bs other (l.hears j is))
    commit_learns t k (Active v) e l = rests k s.status bs (Ack k ∷ []) (ap is_prepared e) l.unvisited (λ j other is. other_commit j k bs other (l.hears j is))
    commit_learns t k (Prepared u i) e l = dies k s.status bs (Ack k ∷ []) l.unvisited (λ j other is. other_commit j k bs other (l.hears j is))

    abort_learns : (t k : Name) (st : Status L) → s.status k ≡ st → Learning s.status (Abort k ∷ bs) → Learning (site_after s (on_abort true k st)).status (bs ++ said s (on_abort true k st))
    abort_learns t k Dead e l = rests k s.status bs [] (ap is_prepared e) l.unvisited (λ j other is. other_abort j k bs other (l.hears j is))
    abort_learns t k (Active v) e l = dies k s.status bs [] l.unvisited (λ j other is. other_abort j k bs other (l.hears j is))
    abort_learns t k (Prepared u i) e l = dies k s.status bs [] l.unvisited (λ j other is. other_abort j k bs other (l.hears j is))

    commit_says : (k : Name) (st : Status L) → Every EndsRow (said s (on_commit true k st))
    commit_says k Dead = (tt, tt)
    commit_says k (Active v) = (tt, tt)
    commit_says k (Prepared u i) = (tt, tt)

    abort_says : (k : Name) (st : Status L) → Every EndsRow (said s (on_abort true k st))
    abort_says k Dead = tt
    abort_says k (Active v) = tt
    abort_says k (Prepared u i) = tt

  addressed_end : (a : L.Site) (t : Name) (bodies : List (Body L)) → is_site L a L.sites ≡ true → Every EndsRow bodies → Every OfRecovery (addressed a t bodies)
  addressed_end a t [] there all = tt
  addressed_end a t (c ∷ bodies) there all = ((all.0, there), addressed_end a t bodies there all.1)

  -- ---- the coordinator
  abbrev Silent : Transition L → Type 0
  Silent turn = turn.letters ≡ []

  ack_silent : (t : Name) (a : L.Site) (kept : Bool) (choice : Choice L) (k : Name) (x : Txn L) → is_undecided x ≡ false → (on_desk_letter t a kept choice (Ack k) x).letters ≡ []
  ack_silent t a kept choice k Unknown none = refl
  ack_silent t a kept choice k (Known u) none = let e : true ≡ false = none in cc
  ack_silent t a kept choice k (Row voters acked) none = either Silent (list_any (is_pair L a k) voters && not (list_any (is_pair L a k) acked)) _ _
      (either Silent (are_acked L voters (acked ++ (a, k) ∷ [])) _ _ (either Silent kept _ _ refl refl) refl) refl

  -- an inquiry is answered
  abbrev answer_of : Name → Txn L → Body L
  answer_of k Unknown = Abort k
  answer_of k (Known u) = Abort k
  answer_of k (Row voters acked) = Commit k

  inquiry_answered : (t : Name) (a : L.Site) (kept : Bool) (choice : Choice L) (k : Name) (x : Txn L) → is_undecided x ≡ false → (on_desk_letter t a kept choice (Inquire k) x).letters ≡ addressed a t (answer_of k x ∷ [])
  inquiry_answered t a kept choice k Unknown none = refl
  inquiry_answered t a kept choice k (Known u) none = let e : true ≡ false = none in cc
  inquiry_answered t a kept choice k (Row voters acked) none = refl

  answer_ends : (k : Name) (x : Txn L) → EndsRow (answer_of k x)
  answer_ends k Unknown = tt
  answer_ends k (Known u) = tt
  answer_ends k (Row voters acked) = tt

  answer_heard : (k : Name) (x : Txn L) (bs : List (Body L)) → Hears k (bs ++ answer_of k x ∷ [])
  answer_heard k Unknown bs = inr (inl (in_right (Abort k) bs (Abort k ∷ []) (inl refl)))
  answer_heard k (Known u) bs = inr (inl (in_right (Abort k) bs (Abort k ∷ []) (inl refl)))
  answer_heard k (Row voters acked) bs = inl (in_right (Commit k) bs (Commit k ∷ []) (inl refl))

  decided_short : (x : Txn L) → is_undecided x ≡ false → is_short_txn x ≡ true
  decided_short Unknown none = refl
  decided_short (Known u) none = let e : true ≡ false = none in cc
  decided_short (Row voters acked) none = refl

  -- a turn of a decided transaction passes no limit
  idle_within : (w : World L) (t : Name) (turn : Transition L) → Idles turn → Within w → is_desk_within (desk_after w.desk t turn.txn) ≡ true
  idle_within w t turn idles within = turn_within w.desk t turn.txn (λ was. decided_short turn.txn idles.decided) (λ is. clash is idles.decided) within.desk

  end_kept : (kept : Bool) (c : Body L) → CallKept kept c → EndKept kept c
  end_kept kept (Commit k) keeps = keeps
  end_kept kept (Abort k) keeps = keeps
  end_kept kept Open keeps = tt
  end_kept kept (Fetch k n g q) keeps = tt
  end_kept kept (Write k n g x) keeps = tt
  end_kept kept (Prepare k n) keeps = tt
  end_kept kept (Ticket k) keeps = tt
  end_kept kept (Rows k n rows) keeps = tt
  end_kept kept (Refused k reason) keeps = tt
  end_kept kept (Voted k x) keeps = tt
  end_kept kept (Ack k) keeps = tt
  end_kept kept (Inquire k) keeps = tt

  module _ (law : IsLawful L) (deeds : List (Deed L)) (w : World L) (l : Letter L) (q : List (Letter L)) (e : w.letters ≡ l ∷ q) (r : Recovering deeds w) where
    only_here : OfRecovery l × Every OfRecovery q
    only_here = subst (Every OfRecovery) e r.only

    hears_here : (a : L.Site) (k : Name) → is_prepared ((w.sites a).status k) ≡ true → Hears k (at a (l ∷ q))
    hears_here a k is = subst (λ x. Hears k (at a x)) e (r.hears a k is)

    -- letters go out behind, which stand for the one that goes
    heard_after : (more : List (Letter L)) → Covered l.body (at l.site q ++ at l.site more) → (a : L.Site) (k : Name) → is_prepared ((w.sites a).status k) ≡ true → Hears k (at a (q ++ more))
    heard_after more covered a k is = subst (Hears k) (sym (at_append a q more))
        (by_site law (λ b bs. is_prepared ((w.sites b).status k) ≡ true → Hears k (bs ++ at b more)) l q
        (λ all one. hears_rest k l.body (at l.site q ++ at l.site more) covered (all one))
        (λ b one. hears_more k (at b (l ∷ q)) (at b more) (hears_here b k one)) a is)

    at_desk : (turn : Transition L) → Idles turn → Every OfRecovery turn.letters → Covered l.body (at l.site q ++ at l.site turn.letters) → Recovering deeds (turned (record w { letters = q }) l.txn turn)
    at_desk turn idles ends covered = record {
      decided = put_all same same_law l.txn turn.txn w.desk.txn (λ j x. is_undecided x ≡ false) idles.decided (λ j other. r.decided j);
      unvisited = r.unvisited;
      hears = heard_after turn.letters covered;
      only = every_append OfRecovery q turn.letters only_here.1 ends;
      past = ap (λ x. w.past ++ x) idles.deeds ∙ append-nil w.past ∙ r.past;
    }

    at_site : (s : SiteState L) (more : List (Body L)) → Learning s.status (at l.site q ++ more) → Every EndsRow more → Recovering deeds (with_site (record w { letters = q }) l.site s (addressed l.site l.txn more))
    at_site s more learning ends =
        let a = l.site in
        let out = addressed a l.txn more in
        record {
          decided = r.decided;
          unvisited = put_all L.same_site law.sites a s w.sites (λ b x. (k : Name) → is_active (x.status k) ≡ false) learning.unvisited (λ b other. r.unvisited b);
          hears = put_all L.same_site law.sites a s w.sites (λ b x. (k : Name) → is_prepared (x.status k) ≡ true → Hears k (at b (q ++ out)))
              (λ k is. subst (Hears k) (sym (at_append a q out ∙ ap (λ x. at a q ++ x) (at_here a a l.txn more ((law.sites a a).1 refl)))) (learning.hears k is))
              (λ b other k is. subst (Hears k) (elsewhere law b l q other ∙ sym (at_append b q out ∙ ap (λ x. at b q ++ x) (at_away b a l.txn more other) ∙ append-nil (at b q))) (hears_here b k is));
          only = every_append OfRecovery q out only_here.1 (addressed_end a l.txn more only_here.0.1 ends);
          past = r.past;
        }

    here_learns : Learning (w.sites l.site).status (l.body ∷ at l.site q)
    here_learns = record { unvisited = r.unvisited l.site; hears = λ k is. subst (Hears k) (in_front law l q) (hears_here l.site k is) }

    module _ (within : Within w) (kept : Bool) (choice : Choice L) where
      abbrev Goes : Bool → Type 0
      Goes b = Recovering deeds (comes_to b (record w { letters = q }) kept choice l)

      to_desk : (turn : Transition L) → turn ≡ on_desk_letter l.txn l.site kept choice l.body (w.desk.txn l.txn) → Idles turn → (bodies : List (Body L)) → turn.letters ≡ addressed l.site l.txn bodies → Every EndsRow bodies → Covered l.body (at l.site q ++ at l.site turn.letters) → Goes true
      to_desk turn is idles bodies put said_all covered =
          let ends : Every OfRecovery turn.letters = subst (Every OfRecovery) (sym put) (addressed_end l.site l.txn bodies only_here.0.1 said_all) in
          subst (λ t. Recovering deeds (if is_desk_within (desk_after w.desk l.txn t.txn) then turned (record w { letters = q }) l.txn t else record w { letters = q })) is
          (subst (λ (b : Bool). Recovering deeds (if b then turned (record w { letters = q }) l.txn turn else record w { letters = q })) (sym (idle_within w l.txn turn idles within)) (at_desk turn idles ends covered))

      to_site : (t : Bool) → is_within (site_after (w.sites l.site) (on_letter (w.sites l.site) l.txn t l.body)) ≡ true → kept ≡ t →
          Learning (site_after (w.sites l.site) (on_letter (w.sites l.site) l.txn t l.body)).status (at l.site q ++ said (w.sites l.site) (on_letter (w.sites l.site) l.txn t l.body)) →
          Every EndsRow (said (w.sites l.site) (on_letter (w.sites l.site) l.txn t l.body)) → Goes false
      to_site t fits is learning ends = subst (λ b. Recovering deeds (comes_to false (record w { letters = q }) b choice l)) (sym is)
          (subst (λ (b : Bool). Recovering deeds (if b then with_site (record w { letters = q }) l.site (site_after (w.sites l.site) (on_letter (w.sites l.site) l.txn t l.body)) (addressed l.site l.txn (said (w.sites l.site) (on_letter (w.sites l.site) l.txn t l.body))) else record w { letters = q })) (sym fits)
          (at_site (site_after (w.sites l.site) (on_letter (w.sites l.site) l.txn t l.body)) (said (w.sites l.site) (on_letter (w.sites l.site) l.txn t l.body)) learning ends))

  module _ (law : IsLawful L) where
    goes : (deeds : List (Deed L)) (w : World L) (a : L.Site) (t : Name) (c : Body L) (q : List (Letter L)) → w.letters ≡ record { site = a; txn = t; body = c } ∷ q → Recovering deeds w → Within w → (kept : Bool) (choice : Choice L) → EndKept kept c → EndsRow c →
        Recovering deeds (comes_to (is_for_desk c) (record w { letters = q }) kept choice (record { site = a; txn = t; body = c }))
    goes deeds w a t (Commit k) q e r within kept choice end of =
        let l : Letter L = record { site = a; txn = t; body = Commit k } in
        let s = w.sites a in
        to_site law deeds w l q e r within kept choice true (end_within s (within.sites a) t true (Commit k) tt) end (commit_learns s (at a q) t k (s.status k) refl (here_learns law deeds w l q e r)) (commit_says s (at a q) k (s.status k))
    goes deeds w a t (Abort k) q e r within kept choice end of =
        let l : Letter L = record { site = a; txn = t; body = Abort k } in
        let s = w.sites a in
        to_site law deeds w l q e r within kept choice true (end_within s (within.sites a) t true (Abort k) tt) end (abort_learns s (at a q) t k (s.status k) refl (here_learns law deeds w l q e r)) (abort_says s (at a q) k (s.status k))
    goes deeds w a t (Ack k) q e r within kept choice end of =
        let l : Letter L = record { site = a; txn = t; body = Ack k } in
        let x = w.desk.txn t in
        let silent = ack_silent t a kept choice k x (r.decided t) in
        to_desk law deeds w l q e r within kept choice (on_desk_letter t a kept choice (Ack k) x) refl (letter_idles t a kept choice (Ack k) x (r.decided t)) [] silent tt tt
    goes deeds w a t (Inquire k) q e r within kept choice end of =
        let l : Letter L = record { site = a; txn = t; body = Inquire k } in
        let x = w.desk.txn t in
        let answered = inquiry_answered t a kept choice k x (r.decided t) in
        to_desk law deeds w l q e r within kept choice (on_desk_letter t a kept choice (Inquire k) x) refl (letter_idles t a kept choice (Inquire k) x (r.decided t))
        (answer_of k x ∷ []) answered (answer_ends k x, tt)
        (subst (λ ls. Hears k (at a q ++ at a ls)) (sym answered) (subst (λ bs. Hears k (at a q ++ bs)) (sym (at_here a a t (answer_of k x ∷ []) ((law.sites a a).1 refl))) (answer_heard k x (at a q))))
    goes deeds w a t Open q e r within kept choice end of = absurd of
    goes deeds w a t (Fetch k op g y) q e r within kept choice end of = absurd of
    goes deeds w a t (Write k op g y) q e r within kept choice end of = absurd of
    goes deeds w a t (Prepare k n) q e r within kept choice end of = absurd of
    goes deeds w a t (Ticket k) q e r within kept choice end of = absurd of
    goes deeds w a t (Rows k n rows) q e r within kept choice end of = absurd of
    goes deeds w a t (Refused k reason) q e r within kept choice end of = absurd of
    goes deeds w a t (Voted k y) q e r within kept choice end of = absurd of

    -- such a letter passes no limit
    taken : (deeds : List (Deed L)) (w : World L) (a : L.Site) (t : Name) (c : Body L) → Recovering deeds w → Within w → (choice : Choice L) → EndsRow c → passes w true choice (record { site = a; txn = t; body = c }) ≡ true
    taken deeds w a t (Commit k) r within choice of = end_within (w.sites a) (within.sites a) t true (Commit k) tt
    taken deeds w a t (Abort k) r within choice of = end_within (w.sites a) (within.sites a) t true (Abort k) tt
    taken deeds w a t (Ack k) r within choice of = idle_within w t (on_desk_letter t a true choice (Ack k) (w.desk.txn t)) (letter_idles t a true choice (Ack k) (w.desk.txn t) (r.decided t)) within
    taken deeds w a t (Inquire k) r within choice of = idle_within w t (on_desk_letter t a true choice (Inquire k) (w.desk.txn t)) (letter_idles t a true choice (Inquire k) (w.desk.txn t) (r.decided t)) within
    taken deeds w a t Open r within choice of = absurd of
    taken deeds w a t (Fetch k op g y) r within choice of = absurd of
    taken deeds w a t (Write k op g x) r within choice of = absurd of
    taken deeds w a t (Prepare k n) r within choice of = absurd of
    taken deeds w a t (Ticket k) r within choice of = absurd of
    taken deeds w a t (Rows k n rows) r within choice of = absurd of
    taken deeds w a t (Refused k reason) r within choice of = absurd of
    taken deeds w a t (Voted k y) r within choice of = absurd of

    one_recovers : (deeds : List (Deed L)) (w : World L) (c : Coming L) (letters : List (Letter L)) → w.letters ≡ letters → Within w → FirstIsFounded w c letters → Recovering deeds w → Within (first_comes w c letters) × Recovering deeds (first_comes w c letters)
    one_recovers deeds w c [] e within founded r = (within, r)
    one_recovers deeds w (Taken kept choice) (l ∷ q) e within founded r = (
      subst (λ letters. Within (first w kept choice letters)) e (next_within law w kept choice within),
      goes deeds w l.site l.txn l.body q e r within kept choice (end_kept kept l.body founded.1) (only_here law deeds w l q e r).0.0,
    )
    one_recovers deeds w (Turned_away choice) (l ∷ q) e within founded r = clash (taken deeds w l.site l.txn l.body r within founded.choice (only_here law deeds w l q e r).0.0) founded.past
    one_recovers deeds w Passed_over (l ∷ q) e within founded r = clash (only_here law deeds w l q e r).0.1 founded

    all_recover : (deeds : List (Deed L)) (comings : List (Coming L)) (w : World L) → Within w → AllFounded comings w → Recovering deeds w → Recovering deeds (all_come comings w)
    all_recover deeds [] w within founded r = r
    all_recover deeds (c ∷ comings) w within founded r =
        let one = one_recovers deeds w c w.letters refl within founded.0 r in
        all_recover deeds comings (come w c) one.0 founded.1 one.1

  -- ---- a database comes up
  -- a letter of a site is among what waits there
  at_in : (a : L.Site) (l : Letter L) (letters : List (Letter L)) → L.same_site a l.site ≡ true → In l letters → In l.body (at a letters)
  at_in a l [] is here = absurd here
  at_in a l (m ∷ letters) is (inl e) = subst (λ bs. In l.body bs) (sym (if_true (L.same_site a m.site) (m.body ∷ at a letters) (at a letters) (subst (λ (x : Letter L). L.same_site a x.site ≡ true) e is))) (inl (ap (λ (x : Letter L). x.body) e))
  at_in a l (m ∷ letters) is (inr below) = either (λ bs. In l.body bs) (L.same_site a m.site) (m.body ∷ at a letters) (at a letters) (inr (at_in a l letters is below)) (at_in a l letters is below)

  row_asks : (a : L.Site) (k : Name) (st : Status L) → is_prepared st ≡ true → (l : Letter L) × (L.same_site a a ≡ true → L.same_site a l.site ≡ true) × (l.body ≡ Inquire k) × In l (inquiry_of a k st)
  row_asks a k Dead is = let e : false ≡ true = is in cc
  row_asks a k (Active v) is = let e : false ≡ true = is in cc
  row_asks a k (Prepared t i) is = (record { site = a; txn = t; body = Inquire k }, λ e. e, refl, inl refl)

  inquiry_ends : (a : L.Site) (k : Name) (st : Status L) → is_site L a L.sites ≡ true → Every OfRecovery (inquiry_of a k st)
  inquiry_ends a k Dead there = tt
  inquiry_ends a k (Active v) there = tt
  inquiry_ends a k (Prepared t i) there = ((tt, there), tt)

  prepared_lives : (st : Status L) → is_prepared st ≡ true → is_dead st ≡ false
  prepared_lives Dead is = let e : false ≡ true = is in cc
  prepared_lives (Active v) is = refl
  prepared_lives (Prepared t i) is = refl

  module _ (law : IsLawful L) where
    site_asks : (a : L.Site) (s : SiteState L) (k : Name) → In k s.known → is_prepared (s.status k) ≡ true → In (Inquire k) (at a (inquiries a s))
    site_asks a s k known is =
        let row = row_asks a k (s.status k) is in
        subst (λ c. In c (at a (inquiries a s))) row.2 (at_in a row.0 (inquiries a s) (row.1 ((law.sites a a).1 refl)) (in_flat (λ j. inquiry_of a j (s.status j)) k row.0 s.known known row.3))

    asks_from : (sites : List L.Site) (w : World L) → ((a : L.Site) → is_site L a sites ≡ true → is_site L a L.sites ≡ true) → ((t : Name) → is_undecided (w.desk.txn t) ≡ false) → ((a : L.Site) (k : Name) → is_active ((w.sites a).status k) ≡ false) →
        ((a : L.Site) (k : Name) → is_dead ((w.sites a).status k) ≡ false → In k (w.sites a).known) → Every OfRecovery w.letters →
        ((a : L.Site) (k : Name) → is_prepared ((w.sites a).status k) ≡ true → (is_site L a sites ≡ true) ⊎ Hears k (at a w.letters)) → Recovering w.past (all_inquire sites w)
    asks_from [] w among decided unvisited listed only hears = record {
      decided = decided;
      unvisited = unvisited;
      hears = λ a k is. ⊎_elim (λ none. (let e : false ≡ true = none in cc)) (λ h. h) (hears a k is);
      only = only;
      past = refl;
    }
    asks_from (b ∷ sites) w among decided unvisited listed only hears =
        let asked = inquiries b (w.sites b) in
        let there = among b (or_left (L.same_site b b) (is_site L b sites) ((law.sites b b).1 refl)) in
        asks_from sites (inquires w b) (λ a below. among a (or_right (L.same_site b a) (is_site L a sites) below)) decided unvisited listed
        (every_append OfRecovery w.letters asked only (every_flat OfRecovery (λ k. inquiry_of b k ((w.sites b).status k)) (w.sites b).known (λ k. inquiry_ends b k ((w.sites b).status k) there)))
        (λ a k is.
        let own : b ≡ a → Hears k (at a (w.letters ++ asked)) = λ e. subst (λ c. Hears k (at c (w.letters ++ asked))) e (subst (Hears k) (sym (at_append b w.letters asked))
        (inr (inr (in_right (Inquire k) (at b w.letters) (at b asked) (site_asks b (w.sites b) k (subst (λ c. In k (w.sites c).known) (sym e) (listed a k (prepared_lives ((w.sites a).status k) is))) (subst (λ c. is_prepared ((w.sites c).status k) ≡ true) (sym e) is)))))) in
        ⊎_elim (λ here. ⊎_elim (λ one. inr (own ((law.sites b a).0 one))) (λ below. inl below) (or_cases (L.same_site b a) (is_site L a sites) here))
        (λ h. inr (subst (Hears k) (sym (at_append a w.letters asked)) (hears_more k (at a w.letters) (at a asked) h))) (hears a k is))

    asked_recovers : (w : World L) → AtRest w → Recovering w.past (all_inquire L.sites w)
    asked_recovers w rest = asks_from L.sites w (λ a here. here) rest.decided rest.unvisited rest.listed rest.only
        (λ a k is. ⊎_elim (λ here. inl here) (λ no. clash (rest.nowhere a no k) (prepared_lives ((w.sites a).status k) is)) (by_test (is_site L a L.sites)))

    quiet_at_last : (deeds : List (Deed L)) (w : World L) → Recovering deeds w → w.letters ≡ [] → IsQuiet w × (w.past ≡ deeds)
    quiet_at_last deeds w r silent = (
      record {
        silent = silent;
        calm = λ a k. free k ((w.sites a).status k) (r.unvisited a k) (λ is. subst (λ x. Hears k (at a x)) silent (r.hears a k is));
        decided = r.decided;
      },
      r.past,
    )
      where
        free : (k : Name) (st : Status L) → is_active st ≡ false → (is_prepared st ≡ true → Hears {L = L} k []) → Unlocked st
        free k Dead calm hears = tt
        free k (Active v) calm hears = let e : true ≡ false = calm in cc
        free k (Prepared t i) calm hears = ⊎_elim (λ none. absurd none) (λ more. ⊎_elim (λ none. absurd none) (λ none. absurd none) more) (hears refl)

pub recovery_law : {L : Lang} → IsLawful L → RecoveryLaw L
recovery_law law = record {
  asked = asked_recovers law;
  come = all_recover law;
  quiet = quiet_at_last law;
}

-- After its end a transaction of one client is left behind: whatever letters and stores answer, no lock stays where no letter waits.
use Rattle.std.proofs.Common.{◌≡◌, refl, sym, ap, ◌∙◌, subst, Bool, true, false, List, [], ◌∷◌, ◌++◌, ◌⊎◌, inl, inr, ⊎_elim, append-nil}
use Rattle.protocol.specs.Language.{Lang, IsLawful, Name, same}
use Rattle.protocol.specs.Letter.{Body, Open, Fetch, Write, Prepare, Commit, Abort, Ticket, Rows, Refused, Voted, Ack, Inquire, Letter, is_for_desk}
use Rattle.protocol.specs.Site.{Status, on_letter, site_after, said, is_within}
use Rattle.protocol.specs.Desk.{Choice, Txn, Deed, Transition, is_undecided, on_desk_letter, desk_after, is_desk_within}
use Rattle.protocol.specs.World.{World, addressed, with_site, turned, comes_to}
use Rattle.protocol.specs.Client.{first, next, IsQuiet}
use Rattle.protocol.specs.VisitPlaces.{at, Unlocked}
use Rattle.protocol.specs.AfterAbort.{Leaves, is_free, is_own, hears_abort, hears_commit, LeavingAt, Ending, EndKept, Within}
use Rattle.protocol.proofs.DeskTable.{Cause, came, Turned, rests, accepts, begins_phase, rolls_back, is_given_up, takes_ticket, fetches, writes, turns_away, takes_rows, evaluates, is_refused, counts_no, counts_vote, presumes_abort, tells_abort, tells_commit, counts_ack, lets_row_go, letter_turned}
use Rattle.protocol.proofs.Basics.{Every, In, either, either_if, put_all, same_law, if_true, if_false, clash, by_test}
use Rattle.protocol.proofs.Queue.{at_append, at_here, at_away}
use Rattle.protocol.proofs.Limits.{OfTheEnd, end_within}
use Rattle.protocol.proofs.AfterAbort.{NoOp, NoEnd, closed_none, leaving_lost, leaving_more, left}

module _ {L : Lang} where
  -- letters that ask a site for nothing to do
  pub at_none : (a : L.Site) (letters : List (Letter L)) → Every (λ l. NoOp l.body) letters → Every NoOp (at a letters)
  at_none a [] none = tt
  at_none a (l ∷ letters) none = either (λ bs. Every NoOp bs) (L.same_site a l.site) (l.body ∷ at a letters) (at a letters) (none.0, at_none a letters none.1) (at_none a letters none.1)

  -- a turn of a decided transaction: it stays decided, no operation goes out, nothing happens
  pub record Idles (turn : Transition L) : Type 0 where
    pub decided : is_undecided turn.txn ≡ false
    pub none : Every (λ l. NoOp l.body) turn.letters
    pub deeds : turn.deeds ≡ []

  turned_idles : (t : Name) (choice : Choice L) (c : Cause L) (x : Txn L) (turn : Transition L) → is_undecided x ≡ false → Turned t choice c x turn → Idles turn
  turned_idles t choice c x turn none (rests d y) = record { decided = none; none = tt; deeds = refl }
  turned_idles t choice c x turn none (presumes_abort a kept k) = record { decided = refl; none = (tt, tt); deeds = refl }
  turned_idles t choice c x turn none (tells_abort a kept k) = record { decided = refl; none = (tt, tt); deeds = refl }
  turned_idles t choice c x turn none (tells_commit voters acked a kept k) = record { decided = refl; none = (tt, tt); deeds = refl }
  turned_idles t choice c x turn none (counts_ack voters acked a kept k) = record { decided = refl; none = tt; deeds = refl }
  turned_idles t choice c x turn none (lets_row_go voters acked a kept k all) = record { decided = refl; none = tt; deeds = refl }
  turned_idles t choice c x turn none (accepts u s idle) = let e : true ≡ false = none in cc
  turned_idles t choice c x turn none (begins_phase u idle) = let e : true ≡ false = none in cc
  turned_idles t choice c x turn none (rolls_back u calm) = let e : true ≡ false = none in cc
  turned_idles t choice c x turn none (is_given_up u) = let e : true ≡ false = none in cc
  turned_idles t choice c x turn none (takes_ticket u a kept k free) = let e : true ≡ false = none in cc
  turned_idles t choice c x turn none (fetches u a kept k s asks free stage) = let e : true ≡ false = none in cc
  turned_idles t choice c x turn none (writes u a kept k answer ws free stage) = let e : true ≡ false = none in cc
  turned_idles t choice c x turn none (turns_away u a kept k j own other) = let e : true ≡ false = none in cc
  turned_idles t choice c x turn none (takes_rows u a kept k n rows s asks own stage) = let e : true ≡ false = none in cc
  turned_idles t choice c x turn none (evaluates u a kept k n rows s asks own stage all) = let e : true ≡ false = none in cc
  turned_idles t choice c x turn none (is_refused u a kept k reason own calm) = let e : true ≡ false = none in cc
  turned_idles t choice c x turn none (counts_no u a kept k votes own stage) = let e : true ≡ false = none in cc
  turned_idles t choice c x turn none (counts_vote u a kept k v votes own stage not_no) = let e : true ≡ false = none in cc

  pub letter_idles : (t : Name) (a : L.Site) (kept : Bool) (choice : Choice L) (c : Body L) (x : Txn L) → is_undecided x ≡ false → Idles (on_desk_letter t a kept choice c x)
  letter_idles t a kept choice c x none = turned_idles t choice (came a kept c) x _ none (letter_turned t choice a kept c x)

  pub desk_no_end : (c : Body L) → is_for_desk c ≡ true → NoEnd c
  desk_no_end (Commit k) e = let f : false ≡ true = e in absurd (cc)
  desk_no_end (Abort k) e = let f : false ≡ true = e in absurd (cc)
  desk_no_end Open e = tt
  desk_no_end (Fetch k op g q) e = tt
  desk_no_end (Write k op g x) e = tt
  desk_no_end (Prepare k n) e = tt
  desk_no_end (Ticket k) e = tt
  desk_no_end (Rows k n rows) e = tt
  desk_no_end (Refused k reason) e = tt
  desk_no_end (Voted k x) e = tt
  desk_no_end (Ack k) e = tt
  desk_no_end (Inquire k) e = tt

  -- either no limit is met, or the letter may be let go
  pub end_or_not : (c : Body L) → OfTheEnd c ⊎ NoEnd c
  end_or_not (Commit k) = inl tt
  end_or_not (Abort k) = inl tt
  end_or_not Open = inr tt
  end_or_not (Fetch k op g q) = inr tt
  end_or_not (Write k op g x) = inr tt
  end_or_not (Prepare k n) = inr tt
  end_or_not (Ticket k) = inr tt
  end_or_not (Rows k n rows) = inr tt
  end_or_not (Refused k reason) = inr tt
  end_or_not (Voted k x) = inr tt
  end_or_not (Ack k) = inr tt
  end_or_not (Inquire k) = inr tt

  -- a store call that is kept is so at an end
  pub kept_end : (kept : Bool) (c : Body L) → kept ≡ true → EndKept kept c
  kept_end kept (Commit k) is = is
  kept_end kept (Abort k) is = is
  kept_end kept Open is = tt
  kept_end kept (Fetch k op g y) is = tt
  kept_end kept (Write k op g y) is = tt
  kept_end kept (Prepare k n) is = tt
  kept_end kept (Ticket k) is = tt
  kept_end kept (Rows k n rows) is = tt
  kept_end kept (Refused k reason) is = tt
  kept_end kept (Voted k y) is = tt
  kept_end kept (Ack k) is = tt
  kept_end kept (Inquire k) is = tt

  module _ (law : IsLawful L) where
    -- what waits at a site, the letter in front aside
    pub in_front : (l : Letter L) (q : List (Letter L)) → at l.site (l ∷ q) ≡ l.body ∷ at l.site q
    in_front l q = if_true (L.same_site l.site l.site) (l.body ∷ at l.site q) (at l.site q) ((law.sites l.site l.site).1 refl)

    pub elsewhere : (a : L.Site) (l : Letter L) (q : List (Letter L)) → L.same_site a l.site ≡ false → at a (l ∷ q) ≡ at a q
    elsewhere a l q other = if_false (L.same_site a l.site) (l.body ∷ at a q) (at a q) other

    -- by site: that of the letter in front, and the others
    pub by_site : (P : L.Site → List (Body L) → Type 0) (l : Letter L) (q : List (Letter L)) → (P l.site (l.body ∷ at l.site q) → P l.site (at l.site q)) → ((a : L.Site) → P a (at a (l ∷ q))) → (a : L.Site) → P a (at a q)
    by_site P l q to all a = ⊎_elim (λ is. subst (λ b. P b (at b q)) (sym ((law.sites a l.site).0 is)) (to (subst (P l.site) (in_front l q) (all l.site)))) (λ other. subst (P a) (elsewhere a l q other) (all a)) (by_test (L.same_site a l.site))

    module _ (deeds : List (Deed L)) (w : World L) (l : Letter L) (q : List (Letter L)) (e : w.letters ≡ l ∷ q) (ending : Ending deeds w) where
      -- a letter that says nothing of an end is let go
      pub ending_lost : NoEnd l.body → Ending deeds (record w { letters = q })
      ending_lost none = record {
        decided = ending.decided;
        leaving = by_site (λ a bs. LeavingAt (λ k. ⊥) (w.sites a).status bs) l q (leaving_lost (λ k. ⊥) (w.sites l.site).status l.body (at l.site q) none) (λ a. subst (λ x. LeavingAt (λ k. ⊥) (w.sites a).status (at a x)) e (ending.leaving a));
        past = ending.past;
      }

      ending_at_desk : (turn : Transition L) → NoEnd l.body → Idles turn → Ending deeds (turned (record w { letters = q }) l.txn turn)
      ending_at_desk turn none idles =
          let lost = ending_lost none in
          record {
            decided = put_all same same_law l.txn turn.txn w.desk.txn (λ j x. is_undecided x ≡ false) idles.decided (λ j other. lost.decided j);
            leaving = λ a. subst (LeavingAt (λ k. ⊥) (w.sites a).status) (sym (at_append a q turn.letters)) (leaving_more (λ k. ⊥) (w.sites a).status (at a q) (at a turn.letters) (closed_none (λ k. ⊥) (at a turn.letters) (at_none a turn.letters idles.none)) (lost.leaving a));
            past = ap (λ x. w.past ++ x) idles.deeds ∙ append-nil w.past ∙ lost.past;
          }

      ending_at_site : (bare : (g : L.Leaf) → L.touches g L.none ≡ false) (kept : Bool) → EndKept kept l.body →
          Ending deeds (with_site (record w { letters = q }) l.site (site_after (w.sites l.site) (on_letter (w.sites l.site) l.txn kept l.body)) (addressed l.site l.txn (said (w.sites l.site) (on_letter (w.sites l.site) l.txn kept l.body))))
      ending_at_site bare kept end =
          let a = l.site in
          let s = w.sites a in
          let act = on_letter s l.txn kept l.body in
          let out = addressed a l.txn (said s act) in
          record {
            decided = ending.decided;
            leaving = put_all L.same_site law.sites a (site_after s act) w.sites (λ b x. LeavingAt (λ k. ⊥) x.status (at b (q ++ out)))
                (subst (LeavingAt (λ k. ⊥) (site_after s act).status) (sym (at_append a q out ∙ ap (λ x. at a q ++ x) (at_here a a l.txn (said s act) ((law.sites a a).1 refl))))
                (left (λ k. ⊥) s (at a q) bare l.txn kept l.body end (subst (LeavingAt (λ k. ⊥) s.status) (ap (at a) e ∙ in_front l q) (ending.leaving a))))
                (λ b other. subst (LeavingAt (λ k. ⊥) (w.sites b).status)
                (ap (at b) e ∙ elsewhere b l q other ∙ sym (at_append b q out ∙ ap (λ x. at b q ++ x) (at_away b a l.txn (said s act) other) ∙ append-nil (at b q))) (ending.leaving b));
            past = ending.past;
          }

      -- a letter comes: a Commit or an Abort is kept, any other may also meet a limit
      pub ending_goes_on : (bare : (g : L.Leaf) → L.touches g L.none ≡ false) (within : Within w) (kept : Bool) (choice : Choice L) → EndKept kept l.body → Ending deeds (next w kept choice)
      ending_goes_on bare within kept choice end = subst (λ letters. Ending deeds (first w kept choice letters)) (sym e) (go (is_for_desk l.body) refl)
        where
          go : (b : Bool) → is_for_desk l.body ≡ b → Ending deeds (comes_to b (record w { letters = q }) kept choice l)
          go true to_desk = either (Ending deeds) (is_desk_within (desk_after w.desk l.txn (on_desk_letter l.txn l.site kept choice l.body (w.desk.txn l.txn)).txn)) _ _
              (ending_at_desk (on_desk_letter l.txn l.site kept choice l.body (w.desk.txn l.txn)) (desk_no_end l.body to_desk) (letter_idles l.txn l.site kept choice l.body (w.desk.txn l.txn) (ending.decided l.txn)))
              (ending_lost (desk_no_end l.body to_desk))
          go false to_site = either_if (Ending deeds) (is_within (site_after (w.sites l.site) (on_letter (w.sites l.site) l.txn kept l.body))) _ _
              (λ is. ending_at_site bare kept end)
              (λ full. ⊎_elim (λ of. clash (end_within (w.sites l.site) (within.sites l.site) l.txn kept l.body of) full) ending_lost (end_or_not l.body))

    -- no letter waits
    pub ending_quiet : (deeds : List (Deed L)) (w : World L) → Ending deeds w → w.letters ≡ [] → IsQuiet w
    ending_quiet deeds w ending silent = record {
      silent = silent;
      calm = λ a k. go ((w.sites a).status k) (at a w.letters) (ap (at a) silent) ((ending.leaving a).locks k);
      decided = ending.decided;
    }
      where
        go : {k : Name} (st : Status L) (bs : List (Body L)) → bs ≡ [] → Leaves (λ k. ⊥) k st bs → Unlocked st
        go st bs none (is_free free) = free
        go st bs none (is_own own) = absurd own
        go {k} st bs none (hears_abort here) = absurd (subst (In (Abort k)) none here)
        go {k} st bs none (hears_commit row here) = absurd (subst (In (Commit k)) none here)

-- Part four of the invariant, for every run: a committed transaction is applied whole and once.
use Rattle.std.proofs.Common.{◌≡◌, refl, sym, ap, ◌∙◌, subst, subst₂, ◌||◌, Bool, true, false, List, [], ◌∷◌, ⊎_elim}
use Rattle.std.specs.List.{list_any}
use Rattle.protocol.specs.Language.{Lang, IsLawful, Name, same}
use Rattle.protocol.specs.Letter.{Body, Abort, Ack}
use Rattle.protocol.specs.Site.{Status, Dead, Prepared, is_dead, is_prepared, Active}
use Rattle.protocol.specs.Desk.{is_pair}
use Rattle.protocol.specs.World.{World, run}
use Rattle.protocol.specs.Serial.{is_committed}
use Rattle.protocol.specs.Applied.{AckedOnce, AbortsNone, AppliesOnce, AppliedWholeAndOnce}
use Rattle.protocol.proofs.Basics.{Every, every_more, clash, same_law, left_true, right_true, by_test}
use Rattle.protocol.proofs.Fits.{FitsBody, Fits, Gone, Fit}
use Rattle.protocol.proofs.InvariantEvents.{run_deep, opening_deep}

module _ {L : Lang} (law : IsLawful L) where
  dead_is : (st : Status L) → is_dead st ≡ true → st ≡ Dead
  dead_is Dead e = refl
  dead_is (Active v) e = cc
  dead_is (Prepared t i) e = cc

  pub applies_of : (o : L.Site → Name → Name) (w : World L) → Fit o w → AppliesOnce w
  applies_of o w fit = record {
    once = every_more (Fits o w.desk w.past w.sites) (λ l. AckedOnce w l.site l.body) w.letters (λ l is. acks l.site l.txn l.body is.1) fit.letters;
    row_stays = λ a k t i row done. let v = (fit.prepared a k t i row).voter done in (v.0, v.1, v.2, v.3, not_acked a k t i row v.1 (fit.rows t v.0 v.1 v.2).1);
    no_abort = every_more (Fits o w.desk w.past w.sites) (λ l. AbortsNone w l.site l.body) w.letters (λ l is. aborts l.site l.txn l.body is.1) fit.letters;
  }
    where
      acks : (a : L.Site) (t : Name) (b : Body L) → FitsBody o w.desk w.past a (w.sites a) t b → AckedOnce w a b
      acks a t (Ack k) here = dead_is ((w.sites a).status k) here.2
      acks a t _ here = tt

      aborts : (a : L.Site) (t : Name) (b : Body L) → FitsBody o w.desk w.past a (w.sites a) t b → AbortsNone w a b
      aborts a t (Abort k) here = λ u i row done. clash (ap is_prepared row) (here.3 (subst (λ j. is_committed w.past j ≡ true) (sym (fit.prepared a k u i row).owner ∙ here.1) done))
      aborts a t _ here = tt

      if_none : (x : Bool) {y : Bool} → x ≡ false → y ≡ false → (x || y) ≡ false
      if_none true is rest = cc
      if_none false is rest = rest

      -- who has acknowledged is gone, and so isn't prepared
      not_acked : (a : L.Site) (k t : Name) (i : L.Intentions) → (w.sites a).status k ≡ Prepared t i → (acked : List (L.Site × Name)) → Every (Gone w.sites) acked → list_any (is_pair L a k) acked ≡ false
      not_acked a k t i row [] gone = refl
      not_acked a k t i row (v ∷ acked) gone = ⊎_elim
          (λ is. let at : v.0 ≡ a = (law.sites v.0 a).0 (left_true (L.same_site v.0 a) (same v.1 k) is) in
          let of : v.1 ≡ k = (same_law v.1 k).0 (right_true (L.same_site v.0 a) (same v.1 k) is) in
          clash gone.0.1 (ap is_dead (subst₂ (λ b j. (w.sites b).status j ≡ Prepared t i) (sym at) (sym of) row)))
          (λ other. if_none (is_pair L a k v) other (not_acked a k t i row acked gone.1))
          (by_test (is_pair L a k v))

  -- a committed transaction is applied whole and once, whatever happens
  pub applied_whole_and_once : AppliedWholeAndOnce L
  applied_whole_and_once whole w events opening = let end = run_deep law whole events w (opening_deep law whole w opening) in applies_of end.0 (run events w) end.2.base.fit

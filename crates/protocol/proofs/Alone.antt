-- While a refragmentation is undecided nobody else is, no commit row stands, and what is settled is kept.
use Rattle.std.proofs.Common.{◌≡◌, refl, sym, ap, subst, true, false, ⊎_elim, ◌&&◌, Bool, ℕ}
use Rattle.protocol.specs.Language.{Lang, IsLawful, Name}
use Rattle.protocol.specs.Site.{Status, Dead, Active, Prepared}
use Rattle.protocol.specs.Desk.{is_moving, is_unknown}
use Rattle.protocol.specs.World.{World, run}
use Rattle.protocol.specs.Serial.{is_committed}
use Rattle.protocol.specs.Alone.{IsAlone, RefragmentsAlone}
use Rattle.protocol.proofs.Basics.{by_test, clash}
use Rattle.protocol.proofs.Settled.{changes_it, settled_none}
use Rattle.protocol.proofs.InvariantSites.{IsDeep}
use Rattle.protocol.proofs.InvariantEvents.{run_deep, opening_deep}
use Rattle.protocol.proofs.Versions.{Versions}
use Rattle.protocol.proofs.VersionedEvents.{run_versions}

module _ {L : Lang} (law : IsLawful L) where
  alone_of : (whole : L.Whole) (first : ℕ) (w : World L) (t : Name) → IsDeep law whole w → Versions first w → is_moving (w.desk.txn t) ≡ true → IsAlone w t
  alone_of whole first w t deep now moves = record {
    others = λ x other. ⊎_elim (λ none. none) (λ known. absurd (other (now.alone t x moves known))) (by_test (is_unknown (w.desk.txn x)));
    applied = applied;
    settled_is_kept = λ g. settled_none law deep.0 deep.1 w deep.2.base g (λ k. unchanged g (L.home g) k ((w.sites (L.home g)).status k) refl);
  }
    where
      applied : (a : L.Site) (k n : Name) (i : L.Intentions) → (w.sites a).status k ≡ Prepared n i → is_committed w.past n ≡ true → ⊥
      applied a k n i row done =
          let voter = (deep.2.base.fit.prepared a k n i row).voter done in
          let is : n ≡ t = now.alone t n moves (ap is_unknown voter.2) in
          clash (subst (λ j. is_moving (w.desk.txn j) ≡ true) (sym is) moves) (ap is_moving voter.2)

      unchanged : (g : L.Leaf) (a : L.Site) (k : Name) (st : Status L) → (w.sites a).status k ≡ st → changes_it w.past g st ≡ false
      unchanged g a k Dead row = refl
      unchanged g a k (Active v) row = refl
      unchanged g a k (Prepared n i) row = no_and (is_committed w.past n) (L.touches g i) (⊎_elim (λ done. absurd (applied a k n i row done)) (λ none. none) (by_test (is_committed w.past n)))
        where
          no_and : (b c : Bool) → b ≡ false → (b && c) ≡ false
          no_and true c e = cc
          no_and false c e = refl

  -- an undecided refragmentation is alone, whatever happens
  pub refragments_alone : RefragmentsAlone L
  refragments_alone whole w events t opening moves = alone_of whole (L.version whole) (run events w) t (run_deep law whole events w (opening_deep law whole w opening)) (run_versions law whole w events opening) moves

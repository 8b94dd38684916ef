-- Parts one to three of the invariant, for every run, over the operations that the letters show.
use Rattle.std.proofs.Common.{◌≡◌, sym, subst, true, false, inl, inr, ⊎_elim, Some}
use Rattle.protocol.specs.Language.{Lang, IsLawful, Name, same}
use Rattle.protocol.specs.Site.{has_lock}
use Rattle.protocol.specs.World.{happens, World, run}
use Rattle.protocol.specs.Serial.{is_committed, phases_of, settled}
use Rattle.protocol.specs.Parts.{sets, works, writes_to, operations, Viable, Counts, Two, Line, AreApart, PartsOneAndTwo, PartThree}
use Rattle.protocol.proofs.Viable.{alone_at}
use Rattle.protocol.proofs.InvariantSites.{IsDeep}
use Rattle.protocol.proofs.InvariantEvents.{happens_deep, run_deep, opening_deep}

module _ {L : Lang} (law : IsLawful L) where
  -- the operations of the invariant are those of the letters
  shown : (whole : L.Whole) (w : World L) (deep : IsDeep law whole w) → deep.1 ≡ operations w.letters
  shown whole w deep = λ i a k. deep.2.base.is_sent a k i

  apart_of : (whole : L.Whole) (w : World L) → IsDeep law whole w → AreApart w
  apart_of whole w deep = record {
    lost = λ e t u known votes viable.
        let next = happens_deep law whole deep.0 deep.1 w deep.2 e in
        subst (λ q. Viable q w t) (shown whole w deep)
        (next.3 t (deep.2.base.voting t u known votes) (subst (λ q. Viable q (happens w e) t) (sym (shown whole (happens w e) (next.0, next.1, next.2))) viable));
    commits = λ e t done. ⊎_elim (λ was. inl was)
        (λ now. inr (⊎_elim (λ viable. inl (subst (λ q. Viable q w t) (shown whole w deep) viable)) (λ untouched. inr untouched) now))
        ((happens_deep law whole deep.0 deep.1 w deep.2 e).4 t done);
    alone = subst (λ q. (t : Name) (viable : Viable q w t) (a : L.Site) (k j : Name) (g : L.Leaf) → viable.u.ticket a ≡ Some k → writes_to L g (sets (q a k)) ≡ true → same j k ≡ false → has_lock g ((w.sites a).status j) ≡ false) (shown whole w deep)
        (λ t viable a k j g own writes apart. alone_at law deep.0 deep.1 w t deep.2.base viable a k own g writes j apart);
    two = subst (λ q. Two (works w.past) (is_committed w.past) (Counts q w) (Viable q w) (phases_of w.past)) (shown whole w deep) deep.2.two;
  }

  pub parts_one_and_two : PartsOneAndTwo L
  parts_one_and_two whole w events opening = apart_of whole (run events w) (run_deep law whole events w (opening_deep law whole w opening))

  pub part_three : PartThree L
  part_three whole w events opening =
      let v = run events w in
      let deep = run_deep law whole events w (opening_deep law whole w opening) in
      subst (λ q. Line (works v.past) (is_committed v.past) (Counts q v) (settled v) (λ g. L.content g whole) (phases_of v.past)) (shown whole v deep) deep.2.line

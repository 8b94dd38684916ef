-- Who is committed by an event was viable just before, or had visited nobody.
use Rattle.std.proofs.Common.{◌≡◌, sym, ap, ◌∙◌, subst, true, List, ◌⊎◌, inl, inr, ⊎_elim}
use Rattle.protocol.specs.Parts.{Untouched}
use Rattle.protocol.specs.Language.{Lang, IsLawful, Name}
use Rattle.protocol.specs.Desk.{Undecided, Known, Transition}
use Rattle.protocol.specs.World.{World, turned}
use Rattle.protocol.proofs.Basics.{clash}
use Rattle.protocol.proofs.Fits.{is_voting, IsCommitted}
use Rattle.protocol.proofs.DeskFits.{split}
use Rattle.protocol.proofs.Turns.{known_is}
use Rattle.protocol.proofs.Going.{Good}
use Rattle.protocol.proofs.Ops.{Op}
use Rattle.protocol.proofs.Booked.{Booked, PhaseTurn, goes_on, starts}
use Rattle.protocol.proofs.Viable.{Viable}
use Rattle.protocol.proofs.Invariant.{Deep}
use Rattle.protocol.proofs.InvariantSites.{Commits}
use Rattle.protocol.proofs.InvariantCommits.{viable_t}

module _ {L : Lang} (law : IsLawful L) (whole : L.Whole) (o : L.Site → Name → Name) (ops : L.Site → Name → List (Op L)) (w : World L) (deep : Deep o ops whole w) where
  -- a turn of the coordinator
  pub turned_before : (t : Name) (turn : Transition L) → Good o w t turn → Booked o ops w t turn → Commits law whole ops w (turned w t turn)
  turned_before t turn good booked j done = ⊎_elim (λ was. inl was)
      (λ new. inr (subst (λ n. Viable ops w n ⊎ ((u : Undecided L) × (w.desk.txn n ≡ Known u) × Untouched u)) (sym new.0) (now new.1)))
      (split o w t turn deep.base.fit good.fine j done)
    where
      voting : IsCommitted turn.deeds t → (u : Undecided L) → w.desk.txn t ≡ Known u → is_voting u.stage ≡ true → PhaseTurn w t turn → Viable ops w t
      voting commits u e votes (goes_on none stay) = viable_t law o ops whole w t turn deep good booked none commits u e votes
      voting commits u e votes (starts one view v f idle more) = clash votes (ap (λ (z : Undecided L). is_voting z.stage) (known_is u v (sym e ∙ f)) ∙ ap is_voting idle)

      now : IsCommitted turn.deeds t → Viable ops w t ⊎ ((u : Undecided L) × (w.desk.txn t ≡ Known u) × Untouched u)
      now commits =
          let c = good.fine.commits commits in
          ⊎_elim (λ votes. inl (voting commits c.0 c.1 votes booked.phase)) (λ first. inr (c.0, c.1, first.1)) (booked.votes commits c.0 c.1)

-- While a refragmentation is undecided it is alone: all that was committed before it is applied.
use Rattle.std.specs.Prelude.{◌≡◌, true, List}
use Rattle.protocol.specs.Language.{Lang, Name}
use Rattle.protocol.specs.Site.{Prepared}
use Rattle.protocol.specs.Desk.{is_moving, is_unknown}
use Rattle.protocol.specs.World.{World, Event, run}
use Rattle.protocol.specs.Serial.{is_committed, settled, IsOpening}

-- what an undecided refragmentation says of a world
pub record IsAlone {L : Lang} (w : World L) (t : Name) : Type 0 where
  -- nobody else is undecided, and no commit row stands
  pub others : (x : Name) → ((x ≡ t) → ⊥) → is_unknown (w.desk.txn x) ≡ true
  -- no prepared row is of a committed transaction
  pub applied : (a : L.Site) (k n : Name) (i : L.Intentions) → (w.sites a).status k ≡ Prepared n i → is_committed w.past n ≡ true → ⊥
  pub settled_is_kept : (g : L.Leaf) → settled w g ≡ (w.sites (L.home g)).kept g

-- so after every list of events
abbrev pub RefragmentsAlone : (L : Lang) → Type 0
RefragmentsAlone L = (whole : L.Whole) (w : World L) (events : List (Event L)) (t : Name) → IsOpening whole w → is_moving ((run events w).desk.txn t) ≡ true → IsAlone (run events w) t

-- No step of a visit changes which leaves a site has.
use Rattle.std.proofs.Common.{◌≡◌, ℕ, Bool, true, false, List, [], ◌∷◌, get_or, slice_set, map, if◌then◌else◌, refl, ap, ap₂, ◌∙◌}
use Rattle.std.proofs.Math.Seq.{map-set_same}
use Rattle.store.specs.declared.name.Ticket.{Ticket}
use Rattle.site.specs.declared.locks.Locks.{Locks}
use Rattle.site.specs.Locks.{reads, writes, stops, stops_reading, leaves_in}

-- a lock is let go, or not
either_leaf : (b : Bool) (changed kept : Locks) → changed.leaf ≡ kept.leaf → (if b then changed else kept).leaf ≡ kept.leaf
either_leaf true changed kept same = same
either_leaf false changed kept same = refl

module _ (ticket : Ticket) (drawn : ℕ) where
  reading_leaf : (locks : Locks) → (stops_reading ticket drawn locks).leaf ≡ locks.leaf
  reading_leaf locks = either_leaf (reads ticket locks) _ locks refl

  both_leaf : (locks : Locks) → (stops ticket drawn locks).leaf ≡ locks.leaf
  both_leaf locks = either_leaf (writes ticket (stops_reading ticket drawn locks)) _ (stops_reading ticket drawn locks) refl ∙ reading_leaf locks

  -- shared locks are let go
  pub leaves_stop_reading : (locks : List Locks) → leaves_in (map (stops_reading ticket drawn) locks) ≡ leaves_in locks
  leaves_stop_reading [] = refl
  leaves_stop_reading (first ∷ rest) = ap₂ (λ leaf leaves. leaf ∷ leaves) (reading_leaf first) (leaves_stop_reading rest)

  -- all are
  pub leaves_stop : (locks : List Locks) → leaves_in (map (stops ticket drawn) locks) ≡ leaves_in locks
  leaves_stop [] = refl
  leaves_stop (first ∷ rest) = ap₂ (λ leaf leaves. leaf ∷ leaves) (both_leaf first) (leaves_stop rest)

-- the locks at a place are others of the same leaf
pub leaves_set : (locks : List Locks) (place : ℕ) (new old : Locks) → old ≡ get_or locks place old → new.leaf ≡ old.leaf → leaves_in (slice_set locks place new) ≡ leaves_in locks
leaves_set locks place new old here same = map-set_same (λ l. l.leaf) locks place new old (same ∙ ap (λ (l : Locks). l.leaf) here)

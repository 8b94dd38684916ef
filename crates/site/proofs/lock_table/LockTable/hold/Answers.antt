-- Why `LockTable::hold` meets its contract.
use Rattle.site.proofs.LockPlaces.{held_more}
use Rattle.site.proofs.lock_table.LockTable.hold.Goals as goal

pub invariant_of-self : goal.invariant_of-self
invariant_of-self c = (c.self.invariant.0, held_more c.self.inside.held.entries c.hold_place.new.held.entries c.self.inside.locks.items c.hold_place.ensures.kept c.self.invariant.1)

-- Why `LockTable::release_shared` meets its contract.
use Rattle.std.proofs.Common.{ap, ◌∙◌, map}
use Rattle.site.specs.Locks.{stops_reading}
use Rattle.site.specs.LockTable.{AllLocks}
use Rattle.site.proofs.LockPlaces.{released_shared, still_shared}
use Rattle.site.proofs.lock_table.LockTable.release_shared.Goals as goal

pub invariant_of-self : goal.invariant_of-self
invariant_of-self c =
    let table = c.self.inside in
    let k = c.args.ticket.now in
    let places = c.places_of-places.result.now in
    let of = c.places_of-places.ensures in
    let is = released_shared k c.args.drawn table.held.entries table.locks.items c.release_shared_at.new.locks.items places of c.release_shared_at.ensures c.self.invariant.1 in
    still_shared k c.args.drawn table.held.entries table.locks.items c.release_shared_at.new.locks.items places of table.places.entries is c.self.invariant

pub returns : goal.returns
returns c =
    let table = c.self.inside in
    let k = c.args.ticket.now in
    released_shared k c.args.drawn table.held.entries table.locks.items c.release_shared_at.new.locks.items c.places_of-places.result.now c.places_of-places.ensures c.release_shared_at.ensures c.self.invariant.1
    ∙ ap (λ (s : AllLocks). map (stops_reading k c.args.drawn) s.items) c.self.view_is

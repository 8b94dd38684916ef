-- Why `LockTable::release` meets its contract.
use Rattle.std.proofs.Common.{ap, ◌∙◌, map}
use Rattle.site.specs.Locks.{stops}
use Rattle.site.specs.LockTable.{AllLocks, change_each}
use Rattle.site.proofs.LockPlaces.{released_all, still_held}
use Rattle.site.proofs.lock_table.LockTable.release.Goals as goal

pub invariant_of-self : goal.invariant_of-self
invariant_of-self c =
    let table = c.self.inside in
    let k = c.args.ticket.now in
    let places = c.take_places-places.result.items in
    let of = c.take_places-places.ensures.places in
    let is = released_all k c.args.drawn table.held.entries table.locks.items c.release_at.new.locks.items places of (c.release_at.ensures ∙ ap (λ ps. change_each (stops k c.args.drawn) ps table.locks.items) c.as_slice.ensures.value) c.self.invariant.1 in
    still_held k c.args.drawn table.held.entries table.locks.items c.release_at.new.locks.items places of table.places.entries c.take_places-places.new.held.entries is c.take_places-places.ensures.others c.self.invariant

pub returns : goal.returns
returns c =
    let table = c.self.inside in
    let k = c.args.ticket.now in
    released_all k c.args.drawn table.held.entries table.locks.items c.release_at.new.locks.items c.take_places-places.result.items c.take_places-places.ensures.places
    (c.release_at.ensures ∙ ap (λ ps. change_each (stops k c.args.drawn) ps table.locks.items) c.as_slice.ensures.value) c.self.invariant.1
    ∙ ap (λ (s : AllLocks). map (stops k c.args.drawn) s.items) c.self.view_is

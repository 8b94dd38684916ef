-- Why `LockTable::lock_exclusive` meets its contract.
use Rattle.std.proofs.Common.{◌≡◌, ◌<◌, length, get_or, true, sym, ap, ◌∙◌, subst, slice_set}
use Rattle.protocol.specs.Parts.{In}
use Rattle.site.specs.Locks.{leaves_in, with_writer}
use Rattle.site.specs.LockTable.{AllLocks, has_lock, places_of}
use Rattle.site.proofs.LeavesKept.{leaves_set}
use Rattle.site.proofs.LockPlaces.{is_there, one_locked, writer_more}
use Rattle.site.proofs.lock_table.LockTable.lock_exclusive.Goals as goal

pub invariant_of-self : goal.invariant_of-self
invariant_of-self c =
    let table = c.self.inside in
    let back = sym c.self.view_is in
    one_locked table.places.entries table.held.entries table.locks.items c.args.place c.index_mut.result.now c.lock_exclusive.new.self c.args.ticket
    (subst (λ (s : AllLocks). c.args.place < length s.items) back c.requires.below) c.index_mut.ensures.value (ap (λ l. l.leaf) c.lock_exclusive.ensures)
    (subst (λ (s : AllLocks). In c.args.place (places_of c.args.ticket s.held)) back c.requires.own)
    (λ j has. writer_more c.args.ticket c.index_mut.result.now j (subst (λ l. has_lock j l ≡ true) c.lock_exclusive.ensures has)) c.self.invariant

pub returns-clause-granted : goal.returns-clause-granted
returns-clause-granted c = λ at there.
    let items = ap (λ (s : AllLocks). s.items) c.self.view_is in
    let here = is_there c.args.self.now.items c.args.place at c.index_mut.result.now there (c.index_mut.ensures.value ∙ ap (λ ls. get_or ls c.args.place c.index_mut.result.now) items) in
    ap (slice_set c.self.inside.locks.items c.args.place) (c.lock_exclusive.ensures ∙ ap (with_writer c.args.ticket) here) ∙ ap (λ ls. slice_set ls c.args.place (with_writer c.args.ticket at)) items

pub returns-clause-leaves : goal.returns-clause-leaves
returns-clause-leaves c =
    leaves_set c.self.inside.locks.items c.args.place c.lock_exclusive.new.self c.index_mut.result.now c.index_mut.ensures.value (ap (λ l. l.leaf) c.lock_exclusive.ensures)
    ∙ ap (λ (s : AllLocks). leaves_in s.items) c.self.view_is

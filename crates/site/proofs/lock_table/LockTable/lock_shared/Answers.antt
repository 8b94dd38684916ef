-- Why `LockTable::lock_shared` meets its contract.
use Rattle.std.proofs.Common.{◌<◌, length, get_or, sym, ap, ◌∙◌, subst, slice_set}
use Rattle.std.proofs.lemmas.Result.{on_ok_weaker}
use Rattle.protocol.specs.Parts.{In}
use Rattle.site.specs.Locks.{leaves_in, with_reader}
use Rattle.site.specs.LockTable.{AllLocks, places_of}
use Rattle.site.proofs.LeavesKept.{leaves_set}
use Rattle.site.proofs.LockPlaces.{is_there, one_locked, reader_or_same}
use Rattle.site.proofs.lock_table.LockTable.lock_shared.Goals as goal

pub invariant_of-self : goal.invariant_of-self
invariant_of-self c =
    let table = c.self.inside in
    let back = sym c.self.view_is in
    one_locked table.places.entries table.held.entries table.locks.items c.args.place c.index_mut.result.now c.lock_shared.new.self c.args.ticket
    (subst (λ (s : AllLocks). c.args.place < length s.items) back c.requires.below) c.index_mut.ensures.value c.lock_shared.ensures.leaf
    (subst (λ (s : AllLocks). In c.args.place (places_of c.args.ticket s.held)) back c.requires.own)
    (reader_or_same c.lock_shared.result c.args.ticket c.index_mut.result.now c.lock_shared.new.self c.lock_shared.ensures.ok c.lock_shared.ensures.err) c.self.invariant

pub returns-clause-ok : goal.returns-clause-ok
returns-clause-ok c = λ at there.
    let items = ap (λ (s : AllLocks). s.items) c.self.view_is in
    let here = is_there c.args.self.now.items c.args.place at c.index_mut.result.now there (c.index_mut.ensures.value ∙ ap (λ ls. get_or ls c.args.place c.index_mut.result.now) items) in
    on_ok_weaker c.lock_shared.result
    (λ done. ap (slice_set c.self.inside.locks.items c.args.place) (done ∙ ap (with_reader c.args.ticket) here) ∙ ap (λ ls. slice_set ls c.args.place (with_reader c.args.ticket at)) items)
    c.lock_shared.ensures.ok

pub returns-clause-leaves : goal.returns-clause-leaves
returns-clause-leaves c =
    leaves_set c.self.inside.locks.items c.args.place c.lock_shared.new.self c.index_mut.result.now c.index_mut.ensures.value c.lock_shared.ensures.leaf
    ∙ ap (λ (s : AllLocks). leaves_in s.items) c.self.view_is

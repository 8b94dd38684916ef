-- What each round of `walk::walk` keeps.
use Rattle.std.proofs.Common.{◌≡◌, ◌≤◌, false, IsTrue}
use Rattle.sqlite.specs.Held.{state}
use Rattle.sqlite.specs.State.{HasCleanDisk}
use Rattle.sqlstore.specs.Tables.{site_schema}
use Rattle.sqlstore.proofs.Walking.{IsOnItsWay}
use Rattle.sqlstore.proofs.walk.walk.Given as goal

abbrev pub invariant-rows : goal.invariant-rows
invariant-rows g l =
    let old = state g.S.Store l.fn.conn in
    let now = state g.S.Store l.rows.conn.now in
    (l.rows.conn.ghost_name ≡ l.initial.rows.conn.ghost_name) × (l.rows.conn.now.in_transaction ≡ false) × (l.fn.refusals ≤ l.refusals)
    × (HasCleanDisk now → HasCleanDisk old × (IsTrue now.is_open → IsTrue old.is_open) × (old.now.schema ≡ site_schema → IsOnItsWay g.S.Store l.leaves l.fn.conn l.rows.conn.now l.before l.keeps l.fn.changes l.changes))

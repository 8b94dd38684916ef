use Rattle.std.proofs.Common.{IfOk, refl, sym, subst}
use Rattle.sqlite.specs.Held.{state}
use Rattle.store.specs.DeskContent.{Lists}
use Rattle.sqlstore.specs.Decided.{decided_of}
use Rattle.sqlstore.proofs.Decisions.{unchanged_by}
use Rattle.sqlstore.proofs.Telling.{desk_intact, learnt_of, lists_of}
use Rattle.sqlstore.proofs.desk.SqlDeskDeskStore.load.Goals as goal

pub returns-in-Ok-clause-learnt : goal.returns-in-Ok-clause-learnt
returns-in-Ok-clause-learnt g c now =
    let old = (state g.S.Store c.args.self.now.conn).committed in
    let looks = c.in-Ok.ensures in
    let was_open = looks.outside.was_open now.0 now.1 in
    let schema = (rw c.in-Ok-true.field-0-test at (c.in-Ok-true.ensures was_open)).0 refl in
    learnt_of old (c.schema-live.ensures.live was_open).1 schema c.in-Ok.rows (looks.shows now.0 now.1 schema) c.kept_of.result c.kept_of.ensures.tests.learnt

pub returns-in-Ok-clause-all : goal.returns-in-Ok-clause-all
returns-in-Ok-clause-all g c now =
    let old = (state g.S.Store c.args.self.now.conn).committed in
    let looks = c.in-Ok.ensures in
    let was_open = looks.outside.was_open now.0 now.1 in
    let schema = (rw c.in-Ok-true.field-0-test at (c.in-Ok-true.ensures was_open)).0 refl in
    subst (λ db. IfOk c.kept_of.result (Lists (decided_of db))) (sym (looks.same now.0 now.1 schema))
    (lists_of old (c.schema-live.ensures.live was_open).1 schema c.in-Ok.rows (looks.shows now.0 now.1 schema) c.kept_of.result c.kept_of.ensures.tests.learnt c.kept_of.ensures.all)

pub returns-in-Ok-clause-reads : goal.returns-in-Ok-clause-reads
returns-in-Ok-clause-reads g c =
    let old = (state g.S.Store c.args.self.now.conn).committed in
    let new = (state g.S.Store c.desk_rows.new.conn).committed in
    let looks = c.in-Ok.ensures in
    record {
      same = λ now stored. unchanged_by old new (looks.same now.0 now.1 stored.tables.schema);
      refusal = λ refused. absurd (c.kept_of.ensures.tests.kept refused);
      intact = λ now stored.
          let was_open = looks.outside.was_open now.0 now.1 in
          c.kept_of.ensures.tests.intact (desk_intact old (c.schema-live.ensures.live was_open).1 stored.tables.schema c.in-Ok.rows (looks.shows now.0 now.1 stored.tables.schema) stored);
    }

use Rattle.sqlite.specs.Held.{state}
use Rattle.sqlstore.proofs.Finding.{unchanged_by}
use Rattle.sqlstore.proofs.Scanning.{all_cells, all_parts, listed_as}
use Rattle.sqlstore.proofs.site.SqlSiteSiteStore.scan.Goals as goal

pub returns-in-Ok-committed_of-clause-parts : goal.returns-in-Ok-committed_of-clause-parts
returns-in-Ok-committed_of-clause-parts g c now stored =
    let leaves = c.args.self.now.leaves.items in
    let old = (state g.S.Store c.args.self.now.conn).committed in
    let ensured = c.in-Ok-committed_of.ensures in
    let finds = rw c.in-Ok.ensures at (ensured.shows now.0 now.1 stored.tables) in
    listed_as leaves old (c.schema-live.ensures.live (ensured.outside.was_open now.0 now.1)).1 stored c.args.leaf.now c.in-Ok-committed_of.rows.items finds c.args.conds.now c.parts_meeting.result (rw (c.as_slice.ensures.value, c.deref.ensures.value) at c.parts_meeting.ensures.parts)

pub returns-in-Ok-committed_of-clause-reads : goal.returns-in-Ok-committed_of-clause-reads
returns-in-Ok-committed_of-clause-reads g c =
    let leaves = c.args.self.now.leaves.items in
    let old = (state g.S.Store c.args.self.now.conn).committed in
    let new = (state g.S.Store c.committed_of.new.conn).committed in
    let ensured = c.in-Ok-committed_of.ensures in
    record {
      same = λ now stored. unchanged_by leaves old new (ensured.same now.0 now.1 stored.tables);
      refusal = λ refused. absurd (c.parts_meeting.ensures.fails.kept refused);
      intact = λ now stored.
          let finds = rw c.in-Ok.ensures at (ensured.shows now.0 now.1 stored.tables) in
          let sound = (c.schema-live.ensures.live (ensured.outside.was_open now.0 now.1)).1 in
          rw (c.as_slice.ensures.value, c.deref.ensures.value) at c.parts_meeting.ensures.fails.intact (all_cells leaves old sound stored c.args.leaf.now c.in-Ok-committed_of.rows.items finds, all_parts leaves old sound stored c.args.leaf.now c.in-Ok-committed_of.rows.items finds);
    }

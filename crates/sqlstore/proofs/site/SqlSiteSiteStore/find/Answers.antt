use Rattle.std.proofs.Common.{◌≡◌, true, sym, ◌∙◌}
use Rattle.std.proofs.lemmas.Int.{to_z-of_z}
use Rattle.std.specs.Int.{w64}
use Rattle.sqlite.specs.Held.{state}
use Rattle.sqlstore.specs.Content.{has_leaf}
use Rattle.sqlstore.proofs.Finding.{no_leaf, part_found, spells_first, unchanged_by}
use Rattle.sqlstore.proofs.site.SqlSiteSiteStore.find.Goals as goal

pub returns-then-not-has-clause-part : goal.returns-then-not-has-clause-part
returns-then-not-has-clause-part g c now stored =
    let none = rw c.as_slice.ensures.value at c.has.ensures in
    sym (no_leaf c.args.self.now.leaves.items _ c.args.leaf.now c.args.key (sym none ∙ c.if-not-has.true))

pub returns-in-Ok-committed_at-clause-part : goal.returns-in-Ok-committed_at-clause-part
returns-in-Ok-committed_at-clause-part g c now stored =
    let leaves = c.args.self.now.leaves.items in
    let old = (state g.S.Store c.args.self.now.conn).committed in
    let has : has_leaf leaves c.args.leaf.now ≡ true = sym (rw c.as_slice.ensures.value at c.has.ensures) ∙ c.if-not-has.false in
    let ensured = c.in-Ok-committed_at.ensures in
    part_found leaves c.args.self.now.named old (c.schema-live.ensures.live (ensured.outside.was_open now.0 now.1)).1 stored c.args.leaf.now c.args.key has c.in-Ok-committed_at.rows.items c.part_in.result
    (rw (c.in-Ok.ensures, to_z-of_z w64 c.args.key c.ranges.key) at (ensured.shows now.0 now.1 stored.tables)) (rw c.deref.ensures.value at c.part_in.ensures.part)

pub returns-in-Ok-committed_at-clause-reads : goal.returns-in-Ok-committed_at-clause-reads
returns-in-Ok-committed_at-clause-reads g c =
    let leaves = c.args.self.now.leaves.items in
    let old = (state g.S.Store c.args.self.now.conn).committed in
    let new = (state g.S.Store c.committed_at.new.conn).committed in
    let has : has_leaf leaves c.args.leaf.now ≡ true = sym (rw c.as_slice.ensures.value at c.has.ensures) ∙ c.if-not-has.false in
    let ensured = c.in-Ok-committed_at.ensures in
    record {
      same = λ now stored. unchanged_by leaves old new (ensured.same now.0 now.1 stored.tables);
      refusal = λ refused. absurd (c.part_in.ensures.fails.kept refused);
      intact = λ now stored.
          rw c.deref.ensures.value at c.part_in.ensures.fails.intact
          (spells_first leaves c.args.self.now.named old (c.schema-live.ensures.live (ensured.outside.was_open now.0 now.1)).1 stored c.args.leaf.now c.args.key has c.in-Ok-committed_at.rows.items (rw (c.in-Ok.ensures, to_z-of_z w64 c.args.key c.ranges.key) at (ensured.shows now.0 now.1 stored.tables)));
    }

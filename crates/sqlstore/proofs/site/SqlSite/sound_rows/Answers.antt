use Rattle.std.proofs.Common.{◌≡◌, ap, ◌∙◌, subst, subst₂, sym, rules}
use Rattle.std.specs.declared.alloc.Global.{Global}
use Rattle.std.specs.Prelude.{Vec, List}
use Rattle.sqlite.specs.Effect.{Database}
use Rattle.sqlite.specs.Held.{state}
use Rattle.store.specs.SiteContent.{IsUnchanged, ListsRows}
use Rattle.terms.specs.declared.leaf.Leaf.{Leaf}
use Rattle.sqlstore.specs.Content.{kept_of}
use Rattle.sqlstore.specs.Site.{IsClean}
use Rattle.sqlstore.specs.Walk.{AreParts}
use Rattle.sqlstore.proofs.Showed.{rows_listed, numbered_all, learnt_all, parts_all, stored_all}
use Rattle.sqlstore.proofs.site.SqlSite.sound_rows.Goals as goal

pub returns-clause-learnt : goal.returns-clause-learnt
returns-clause-learnt g c now =
    let leaves = c.args.self.now.leaves.items in
    let old = (state g.S.Store c.args.self.now.conn).committed in
    let looks = c.in_ok-check_parts.ensures.walks.looks in
    let late : IsClean g.S.Store c.gather.new.self.conn = (looks.outside.clean now.0, looks.outside.was_open now.0 now.1) in
    let sound = (c.schema-live.ensures.live (c.gather.ensures.leaves.clean late).1).1 in
    let shows = c.in_ok-tables.ensures.shows late in
    let same = c.in_ok-tables.ensures.same late in
    let site : c.gather.new.self.leaves.items ≡ leaves = ap (λ (v : Vec Leaf Global). v.items) c.in_ok-tables.ensures.site in
    let parts = rw (c.as_slice-leaves.ensures.value, site) at (looks.shows now.0 now.1 (ap (λ (db : Database). db.schema) same ∙ shows.1)) in
    learnt_all leaves old sound shows.1 c.in_ok-tables.tables shows.0 (rw (c.as_slice-leaves.ensures.value, site) at c.in_ok-rows.ensures.learnt) (subst (λ (db : Database). AreParts leaves (db.trees 0)) same parts)

pub returns-clause-all : goal.returns-clause-all
returns-clause-all g c now =
    let leaves = c.args.self.now.leaves.items in
    let old = (state g.S.Store c.args.self.now.conn).committed in
    let looks = c.in_ok-check_parts.ensures.walks.looks in
    let late : IsClean g.S.Store c.gather.new.self.conn = (looks.outside.clean now.0, looks.outside.was_open now.0 now.1) in
    let sound = (c.schema-live.ensures.live (c.gather.ensures.leaves.clean late).1).1 in
    let shows = c.in_ok-tables.ensures.shows late in
    let same = c.in_ok-tables.ensures.same late in
    let schema = ap (λ (db : Database). db.schema) same ∙ shows.1 in
    let site : c.gather.new.self.leaves.items ≡ leaves = ap (λ (v : Vec Leaf Global). v.items) c.in_ok-tables.ensures.site in
    let parts = rw (c.as_slice-leaves.ensures.value, site) at (looks.shows now.0 now.1 schema) in
    let stored = learnt_all leaves old sound shows.1 c.in_ok-tables.tables shows.0 (rw (c.as_slice-leaves.ensures.value, site) at c.in_ok-rows.ensures.learnt) (subst (λ (db : Database). AreParts leaves (db.trees 0)) same parts) in
    let lists = rows_listed leaves old sound shows.1 c.in_ok-tables.tables shows.0 stored c.in_ok-rows.rows (rw (c.as_slice-leaves.ensures.value, site) at c.in_ok-rows.ensures.all) in
    subst₂ (λ (ls : List Leaf) (db : Database). ListsRows (kept_of ls db) c.in_ok-rows.rows) (sym site) (sym (looks.same now.0 now.1 schema ∙ same)) lists

pub returns-in_err-rows-clause-reads : goal.returns-in_err-rows-clause-reads
returns-in_err-rows-clause-reads g c =
    let leaves = c.args.self.now.leaves.items in
    let old = (state g.S.Store c.args.self.now.conn).committed in
    let site : c.gather.new.self.leaves.items ≡ leaves = ap (λ (v : Vec Leaf Global). v.items) c.in_ok-tables.ensures.site in
    record {
      same = c.gather.ensures.reads.same;
      refusal = λ refused. absurd (search (rules, c.in_err-rows.ensures.fails.kept));
      intact = λ now stored.
          let sound = (c.schema-live.ensures.live (c.gather.ensures.leaves.clean now).1).1 in
          let shows = c.in_ok-tables.ensures.shows now in
          let tables = c.in_ok-tables.tables in
          let never = (rw (c.as_slice-leaves.ensures.value, site) at c.in_err-rows.ensures.fails.intact) (stored_all leaves old sound shows.1 tables shows.0 stored, numbered_all leaves old sound shows.1 tables shows.0 stored) in
          search (rules, never);
    }

pub returns-in_err-check_parts-clause-reads : goal.returns-in_err-check_parts-clause-reads
returns-in_err-check_parts-clause-reads g c =
    let leaves = c.args.self.now.leaves.items in
    let old = (state g.S.Store c.args.self.now.conn).committed in
    let looks = c.check_parts.ensures.walks.looks in
    let site : c.gather.new.self.leaves.items ≡ leaves = ap (λ (v : Vec Leaf Global). v.items) c.in_ok-tables.ensures.site in
    let late : IsClean g.S.Store c.check_parts.new.conn → IsClean g.S.Store c.gather.new.self.conn = λ now. (looks.outside.clean now.0, looks.outside.was_open now.0 now.1) in
    record {
      same = λ now stored.
          let shows = c.in_ok-tables.ensures.shows (late now) in
          let schema = ap (λ (db : Database). db.schema) (c.in_ok-tables.ensures.same (late now)) ∙ shows.1 in
          subst (λ (db : Database). IsUnchanged (kept_of leaves old) (kept_of c.gather.new.self.leaves.items db)) (sym (looks.same now.0 now.1 schema)) (c.gather.ensures.reads.same (late now) stored);
      refusal = λ refused.
          let counts = c.gather.ensures.leaves.counts in
          let grew = c.in_err-check_parts.ensures.counted.refusal in
          search (rules, counts, grew);
      intact = λ now stored.
          let shows = c.in_ok-tables.ensures.shows (late now) in
          let same = c.in_ok-tables.ensures.same (late now) in
          let sound = (c.schema-live.ensures.live (c.gather.ensures.leaves.clean (late now)).1).1 in
          let parts = subst (λ (db : Database). AreParts leaves (db.trees 0)) (sym same) (parts_all leaves old sound shows.1 c.in_ok-tables.tables shows.0 stored) in
          let never = (rw (c.as_slice-leaves.ensures.value, site) at c.in_err-check_parts.ensures.walks.intact) now.0 now.1 (ap (λ (db : Database). db.schema) same ∙ shows.1) parts in
          search (rules, never);
    }

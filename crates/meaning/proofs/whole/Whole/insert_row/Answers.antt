-- Why `whole::Whole::insert_row` meets its contract.
use Rattle.std.proofs.Common.{sym, ap, ◌∙◌, refl}
use Rattle.std.specs.Option.{option_copied_mut}
use Rattle.meaning.proofs.Maps.{rows_there, rows_absent, row_written, row_kept, row_added, rows_at}
use Rattle.std.specs.FinMap.{from_entries}
use Rattle.meaning.proofs.whole.Whole.insert_row.Goals as goal

pub returns-in-Some-clause-added : goal.returns-in-Some-clause-added
returns-in-Some-clause-added c =
    let there = sym c.get_mut.ensures.value ∙ ap option_copied_mut c.in-Some.is in
    rw (rows_there c.self.inside.relations.entries c.args.self.now c.args.name.now c.in-Some.relation.now c.self.view_is there) c.insert.ensures.added

pub returns-in-Some-clause-whole : goal.returns-in-Some-clause-whole
returns-in-Some-clause-whole c =
    let there = sym c.get_mut.ensures.value ∙ ap option_copied_mut c.in-Some.is in
    let writes = c.get_mut.follows.holds c.insert.new.self in
    row_written c.insert.result c.self.inside.relations.entries (c.get_mut.follows.lender c.insert.new.self).entries c.args.self.now c.args.name.now c.args.row c.in-Some.relation.now c.insert.new.self
    c.self.view_is there (writes.3 (rw there refl)).0 c.insert.ensures.rows

pub returns-in-Some-clause-err : goal.returns-in-Some-clause-err
returns-in-Some-clause-err c =
    let there = sym c.get_mut.ensures.value ∙ ap option_copied_mut c.in-Some.is in
    let writes = c.get_mut.follows.holds c.insert.new.self in
    row_kept c.insert.result c.self.inside.relations.entries (c.get_mut.follows.lender c.insert.new.self).entries c.args.self.now c.args.name.now c.in-Some.relation.now c.insert.new.self
    c.self.view_is there (writes.3 (rw there refl)).0 c.insert.ensures.err

pub returns-in_ok-insert-in-None-clause-added : goal.returns-in_ok-insert-in-None-clause-added
returns-in_ok-insert-in-None-clause-added c =
    let absent = sym c.get_mut.ensures.value ∙ ap option_copied_mut c.in-None.is in
    rw (rows_absent c.self.inside.relations.entries c.args.self.now c.args.name.now c.self.view_is absent) refl

pub returns-in_ok-insert-in-None-clause-whole : goal.returns-in_ok-insert-in-None-clause-whole
returns-in_ok-insert-in-None-clause-whole c =
    let absent = sym c.get_mut.ensures.value ∙ ap option_copied_mut c.in-None.is in
    let old = c.get_mut.follows.lender-at-none in
    let same = c.get_mut.follows.holds-at-none in
    row_added old.entries c.insert-in-None.new.self.entries c.args.self.now c.args.name.now c.in_ok-copy-in-None.field-0 c.args.row c.in_ok-relation-in-None.relation
    (ap (λ m. from_entries m.entries) same ∙ c.self.view_is) (ap (λ m. rows_at m.entries c.args.name.now) same ∙ absent) c.in_ok-copy-in-None.ensures c.in_ok-relation-in-None.ensures c.in_ok-insert-in-None.ensures.updates.0

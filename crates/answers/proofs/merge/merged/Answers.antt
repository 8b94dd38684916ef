-- Why `merge::merged` meets its contract.
use Rattle.std.proofs.Common.{inl, inr, ◌++◌, ◌∷◌, [], List, ap, map, sym, ◌∙◌}
use Rattle.terms.specs.declared.value.Value.{Value}
use Rattle.answers.specs.declared.joined.Joined.{Joined}
use Rattle.answers.specs.Laid.{row_of}
use Rattle.answers.proofs.Laid.{both_mapped, put_mapped}
use Rattle.answers.proofs.Merging.{both_put, put_equal, put_greater, put_less, so_merged}
use Rattle.answers.proofs.Picked.{no_length}
use Rattle.answers.proofs.merge.merged.Goals as goal
use Rattle.answers.proofs.merge.merged.Goals.{in_default, in_default-2}

pub loop-row-preserved-in_ok-push-in-Less : goal.loop-row-preserved-in_ok-push-in-Less
loop-row-preserved-in_ok-push-in-Less c =
    let columns = c.args.columns.now in
    let f : Joined → List Value = row_of columns in
    let all = map f c.args.rows.now in
    let others = map f c.args.others.now in
    let start = c.args.ledger.now.steps in
    let row = c.in-Some-Some.row.now in
    let other = c.in-Some-Some.other.now in
    let later = map f c.in-Some-Some.later.now in
    let later_others = map f c.in-Some-Some.later_others.now in
    let rest = map f c.loop-row.rest.now in
    let rest_others = map f c.loop-row.rest_others.now in
    let found = map f c.loop-row.found.items in
    so_merged all others start (found ++ f row ∷ []) (map f c.push.new.self.items) later rest_others _ c.compared.new.self.steps
    (put_less all others start found rest rest_others c.loop-row.ledger.steps (f row) (f other) later later_others c.loop-row.invariant (ap (map f) c.in-Some-Some.ensures.cases.0) (ap (map f) c.in-Some-Some.ensures'.cases.0) (sym c.in-Less.ensures.order))
    (put_mapped columns c.loop-row.found.items c.push.new.self.items c.in_ok-copy-in-Less.field-0 row c.in_ok-push-in-Less.ensures.items c.in_ok-copy-in-Less.ensures) c.compared.ensures.step

pub loop-row-preserved-in_ok-push-in-Equal : goal.loop-row-preserved-in_ok-push-in-Equal
loop-row-preserved-in_ok-push-in-Equal c =
    let columns = c.args.columns.now in
    let f : Joined → List Value = row_of columns in
    let all = map f c.args.rows.now in
    let others = map f c.args.others.now in
    let start = c.args.ledger.now.steps in
    let row = c.in-Some-Some.row.now in
    let other = c.in-Some-Some.other.now in
    let later = map f c.in-Some-Some.later.now in
    let later_others = map f c.in-Some-Some.later_others.now in
    let rest = map f c.loop-row.rest.now in
    let rest_others = map f c.loop-row.rest_others.now in
    let found = map f c.loop-row.found.items in
    so_merged all others start (found ++ f row ∷ []) (map f c.push-in-Equal.new.self.items) later later_others _ c.compared.new.self.steps
    (put_equal all others start found rest rest_others c.loop-row.ledger.steps (f row) (f other) later later_others c.loop-row.invariant (ap (map f) c.in-Some-Some.ensures.cases.0) (ap (map f) c.in-Some-Some.ensures'.cases.0) (sym c.in-Equal.ensures.order))
    (put_mapped columns c.loop-row.found.items c.push-in-Equal.new.self.items c.in_ok-copy-in-Equal.field-0 row c.in_ok-push-in-Equal.ensures.items c.in_ok-copy-in-Equal.ensures) c.compared.ensures.step

pub loop-row-preserved : goal.loop-row-preserved
loop-row-preserved c =
    let columns = c.args.columns.now in
    let f : Joined → List Value = row_of columns in
    let all = map f c.args.rows.now in
    let others = map f c.args.others.now in
    let start = c.args.ledger.now.steps in
    let row = c.in-Some-Some.row.now in
    let other = c.in-Some-Some.other.now in
    let later = map f c.in-Some-Some.later.now in
    let later_others = map f c.in-Some-Some.later_others.now in
    let rest = map f c.loop-row.rest.now in
    let rest_others = map f c.loop-row.rest_others.now in
    let found = map f c.loop-row.found.items in
    so_merged all others start (found ++ f other ∷ []) (map f c.push-in-Greater.new.self.items) rest later_others _ c.compared.new.self.steps
    (put_greater all others start found rest rest_others c.loop-row.ledger.steps (f row) (f other) later later_others c.loop-row.invariant (ap (map f) c.in-Some-Some.ensures.cases.0) (ap (map f) c.in-Some-Some.ensures'.cases.0) (sym c.in-Greater.ensures.order))
    (put_mapped columns c.loop-row.found.items c.push-in-Greater.new.self.items c.in_ok-copy-in-Greater.field-0 other c.in_ok-push-in-Greater.ensures.items c.in_ok-copy-in-Greater.ensures) c.compared.ensures.step

pub returns-clause-rows : goal.returns-clause-rows
returns-clause-rows c =
    let columns = c.args.columns.now in
    let f : Joined → List Value = row_of columns in
    both_mapped columns c.loop-row.found.items c.loop-row.rest.now c.loop-row.rest_others.now c.put_rows.new.out.items c.put_rows-2.new.out.items c.in_ok-put_rows.ensures c.in_ok-put_rows-2.ensures
    ∙ both_put (map f c.args.rows.now) (map f c.args.others.now) c.args.ledger.now.steps (map f c.loop-row.found.items) (map f c.loop-row.rest.now) (map f c.loop-row.rest_others.now) c.loop-row.ledger.steps c.loop-row.invariant
    (elim c.match-split_first.branch [
      | in_default w ↦ inr (ap (map f) (no_length c.loop-row.rest_others.now w.in_default.ensures'.cases))
      | in_default-2 w ↦ inl (ap (map f) (no_length c.loop-row.rest.now w.in_default.ensures.cases))
    ])

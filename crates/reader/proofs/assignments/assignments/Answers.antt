-- Why `assignments::assignments` meets its contract.
use Rattle.std.proofs.Common.{add-one, ◌≡◌, true, false, sym, ◌∙◌, inl, inr}
use Rattle.std.proofs.lemmas.Result.{err_from_is_err_and}
use Rattle.reader.specs.Breaks.{AssignmentBreaks}
use Rattle.reader.specs.Names.{is_set}
use Rattle.reader.specs.Tree.{assignment_tree}
use Rattle.reader.proofs.Broken.{some_of}
use Rattle.reader.proofs.WrittenAssignments.{apart_more, no_column, no_value, one_more, set_again, set_twice}
use Rattle.reader.proofs.NoMeaning.{none_of_whole}
use Rattle.reader.proofs.assignments.assignments.Goals as goal

pub returns-in_err-found-clause-exact : goal.returns-in_err-found-clause-exact
returns-in_err-found-clause-exact c =
    let p = err_from_is_err_and c.from_residual.result c.from_residual.ensures.1 in
    rw (p.1, p.2) (none_of_whole c.in_err-found.field-0.0.rule _ _
    (λ none. no_column c.args.columns.now c.args.written.now c.loop-assignment.assignment-index _ c.loop-assignment-test.true none)
    c.in_err-found.ensures.exact)

pub returns-then-sets_column-clause-exact : goal.returns-then-sets_column-clause-exact
returns-then-sets_column-clause-exact c =
    let set : is_set c.in_ok-found.found.place c.loop-assignment.sets.items ≡ true = rw (← c.as_slice.ensures.value) (sym c.sets_column.ensures ∙ c.if-sets_column.true) in
    rw c.new.ensures.rule (set_twice c.args.columns.now c.args.written.now c.loop-assignment.assignment-index _ c.in_ok-found.found c.loop-assignment.sets.items c.loop-assignment-test.true c.loop-assignment.invariant.found c.in_ok-found.ensures.exact set)

pub returns-in_err-value-clause-exact : goal.returns-in_err-value-clause-exact
returns-in_err-value-clause-exact c =
    let p = err_from_is_err_and c.from_residual-in_err-value.result c.from_residual-in_err-value.ensures.1 in
    rw (p.1, p.2) (none_of_whole c.in_err-value.field-0.0.rule _ _
    (λ none. no_value c.args.columns.now c.args.written.now c.loop-assignment.assignment-index _ c.in_ok-found.found c.loop-assignment-test.true c.in_ok-found.ensures.exact none)
    c.in_err-value.ensures.exact)

pub loop-assignment-preserved : goal.loop-assignment-preserved
loop-assignment-preserved c =
    let new : is_set c.in_ok-found.found.place c.loop-assignment.sets.items ≡ false = rw (← c.as_slice.ensures.value) (sym c.sets_column.ensures ∙ c.if-sets_column.false) in
    rw (add-one, c.in_ok-push.ensures.items) (record {
      found = one_more c.args.columns.now c.args.written.now c.loop-assignment.assignment-index _ c.in_ok-found.found c.loop-assignment.sets.items c.in_ok-value.value c.loop-assignment-test.true c.loop-assignment.invariant.found c.in_ok-found.ensures.exact c.in_ok-value.ensures.exact;
      apart = apart_more c.loop-assignment.sets.items (record { col = c.in_ok-found.found.place; value = c.in_ok-value.value }) c.loop-assignment.invariant.apart new;
    })

pub returns-in_err-found-clause-rule : goal.returns-in_err-found-clause-rule
returns-in_err-found-clause-rule c =
    let p = err_from_is_err_and c.from_residual.result c.from_residual.ensures.1 in
    rw (p.1, p.2) (λ other. inl (some_of (AssignmentBreaks c.in_err-found.field-0.0.rule c.args.columns.now) assignment_tree c.args.written.now c.loop-assignment.assignment-index _ c.loop-assignment-test.true (inl c.in_err-found.ensures.rule)))

pub returns-then-sets_column-clause-rule : goal.returns-then-sets_column-clause-rule
returns-then-sets_column-clause-rule c =
    let set : is_set c.in_ok-found.found.place c.loop-assignment.sets.items ≡ true = rw (← c.as_slice.ensures.value) (sym c.sets_column.ensures ∙ c.if-sets_column.true) in
    λ other. inr (c.new.ensures.rule, λ sets whole. set_again c.args.columns.now c.args.written.now c.loop-assignment.assignment-index _ c.in_ok-found.found c.loop-assignment.sets.items sets c.loop-assignment-test.true c.in_ok-found.ensures.exact c.loop-assignment.invariant.found set whole)

pub returns-in_err-value-clause-rule : goal.returns-in_err-value-clause-rule
returns-in_err-value-clause-rule c =
    let p = err_from_is_err_and c.from_residual-in_err-value.result c.from_residual-in_err-value.ensures.1 in
    rw (p.1, p.2) (λ other. inl (some_of (AssignmentBreaks c.in_err-value.field-0.0.rule c.args.columns.now) assignment_tree c.args.written.now c.loop-assignment.assignment-index _ c.loop-assignment-test.true
    (inr (c.in_ok-found.found, c.in_ok-found.ensures.exact, c.in_err-value.ensures.rule other))))

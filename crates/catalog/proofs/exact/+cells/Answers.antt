use Rattle.std.proofs.Common.{rules, ◌≡◌, ◌++◌, ◌∷◌, [], arith}
use Rattle.std.specs.Vec.{vec_len}
use Rattle.std.proofs.lemmas.List.{nil_from_length}
use Rattle.catalog.specs.Cells.{first_fault_behind, values_of}
use Rattle.catalog.proofs.Seeking.{sought_here, sought_with, found_with, none_with, there_with, back_without, popped}
use Rattle.catalog.proofs.exact.+cells.Goals as goal

pub seek_fault-returns-in_default : goal.seek_fault-returns-in_default
seek_fault-returns-in_default t c =
    sought_here c.args.way.now c.args.branches.now c.args.row.now.items c.as_slice.result.now c.args.columns.now c.is_fault.result (nil_from_length c.args.columns.now c.in_default.ensures.cases) c.as_slice.ensures.value c.is_fault.ensures

pub seek_fault-returns-then-branch : goal.seek_fault-returns-then-branch
seek_fault-returns-then-branch t c =
    let are : c.args.columns.now ≡ c.as_slice-value-items.result.now ∷ c.in-Some.rest.now = search rules in
    found_with c.args.way.now c.args.branches.now c.args.row.now.items c.loop-value.row.items c.seek_fault_with.new.row.items c.args.columns.now c.as_slice-value-items.result.now c.in-Some.rest.now c.loop-value.value-index c.value-item.result
    c.in_ok-seek_fault_with.field-0 are c.loop-value-test.true c.value-item.is c.if-branch.true c.loop-value.invariant.row c.loop-value.invariant.first c.in_ok-seek_fault_with.ensures

pub seek_fault-loop-value-preserved : goal.seek_fault-loop-value-preserved
seek_fault-loop-value-preserved t c =
    let next = none_with c.args.way.now c.args.branches.now c.args.row.now.items c.loop-value.row.items c.seek_fault_with.new.row.items c.as_slice-value-items.result.now c.in-Some.rest.now c.loop-value.value-index c.value-item.result
    c.in_ok-seek_fault_with.field-0 c.loop-value-test.true c.value-item.is c.if-branch.false c.loop-value.invariant.row c.loop-value.invariant.first c.in_ok-seek_fault_with.ensures in
    record { row = next.0; first = next.1 }

pub seek_fault_with-returns-then-not-found : goal.seek_fault_with-returns-then-not-found
seek_fault_with-returns-then-not-found t c =
    let first = first_fault_behind c.args.way.now c.args.branches.now (values_of c.args.row.now.items ++ c.args.value.now ∷ []) c.args.columns.now in
    let sought = sought_with c.args.way.now c.args.branches.now c.args.row.now.items c.push.new.self.items c.seek_fault.new.row.items c.args.value c.args.columns.now c.in_ok-found.found c.in_ok-push.ensures.items c.in_ok-found.ensures in
    back_without first c.in_ok-found.found c.args.row.now.items c.push.new.self.items c.seek_fault.new.row.items c.pop.new.self.items c.if-not-found.true (popped c.args.row.now.items c.push.new.self.items c.seek_fault.new.row.items c.pop.new.self.items c.args.value (vec_len c.seek_fault.new.row) (omega (arith, c.seek_fault.new.row.ok.0)) c.pop.ensures.rest c.in_ok-push.ensures.items) sought

pub seek_fault_with-returns-else-not-found : goal.seek_fault_with-returns-else-not-found
seek_fault_with-returns-else-not-found t c =
    let first = first_fault_behind c.args.way.now c.args.branches.now (values_of c.args.row.now.items ++ c.args.value.now ∷ []) c.args.columns.now in
    let sought = sought_with c.args.way.now c.args.branches.now c.args.row.now.items c.push.new.self.items c.seek_fault.new.row.items c.args.value c.args.columns.now c.in_ok-found.found c.in_ok-push.ensures.items c.in_ok-found.ensures in
    there_with first c.in_ok-found.found c.args.row.now.items c.push.new.self.items c.seek_fault.new.row.items c.if-not-found.false sought

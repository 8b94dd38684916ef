use Rattle.std.proofs.Common.{◌≡◌, ◌+◌, take, subst, []}
use Rattle.std.proofs.lemmas.List.{take_all}
use Rattle.sqlite.specs.Held.{state}
use Rattle.sqlstore.specs.Step.{Forgets, Empties, Takes}
use Rattle.sqlstore.proofs.Composed.{good, empties_more, empties_none}
use Rattle.sqlstore.proofs.Framing.{runs_as, runs_both, runs_err, runs_short}
use Rattle.sqlstore.proofs.calls.empty.Goals as goal

pub slots-init : goal.slots-init
slots-init g c = runs_as g.S.Store (Forgets c.args.visit.now) (Empties c.args.visit.now []) c.args.tx.now.conn c.forget.new.tx.conn c.in_ok-forget.field-0 0 (empties_none c.args.visit.now (state g.S.Store c.args.tx.now.conn.now).now (state g.S.Store c.forget.new.tx.conn.now).now) c.in_ok-forget.ensures

pub slots-preserved : goal.slots-preserved
slots-preserved g c =
    let visit = c.args.visit.now in
    let slots = c.args.slots.now in
    let i = c.slots.slot-index in
    let start = c.args.tx.now.conn in
    let mid = c.slots.tx.conn in
    let last = c.take.new.tx.conn in
    runs_both g.S.Store (Empties visit (take i slots)) (Takes c.slot-item.result) (Empties visit (take (i + 1) slots)) start mid last 0 (good 0) (λ p. p.2.tables)
    (λ p q. empties_more visit slots i c.slot-item.result (state g.S.Store start.now).now (state g.S.Store mid.now).now (state g.S.Store last.now).now c.slots-test.true c.slot-item.is p q) c.slots.invariant
    (runs_as g.S.Store (Takes c.slot-item.result) (Takes c.slot-item.result) mid last c.in_ok-take.field-0 0 (λ p. p) c.in_ok-take.ensures)

pub returns : goal.returns
returns g c =
    let visit = c.args.visit.now in
    let slots = c.args.slots.now in
    let start = c.args.tx.now.conn in
    let last = c.slots.tx.conn in
    let all : take c.slots.slot-index slots ≡ slots = take_all c.slots.slot-index slots c.slots-test.false in
    runs_as g.S.Store (Empties visit (take c.slots.slot-index slots)) (Empties visit slots) start last 0 tt (λ p. subst (λ s. Empties visit s (state g.S.Store start.now).now (state g.S.Store last.now).now) all p) c.slots.invariant

pub returns-in_err-forget : goal.returns-in_err-forget
returns-in_err-forget g c = runs_err g.S.Store (Forgets c.args.visit.now) _ c.args.tx.now.conn c.forget.new.tx.conn _ c.from_residual.result c.from_residual.ensures.0 c.in_err-forget.ensures

pub returns-in_err-take : goal.returns-in_err-take
returns-in_err-take g c =
    let visit = c.args.visit.now in
    let slots = c.args.slots.now in
    runs_short g.S.Store (Empties visit (take c.slots.slot-index slots)) (Takes c.slot-item.result) _ c.args.tx.now.conn c.slots.tx.conn c.take.new.tx.conn 0 _ c.from_residual-in_err-take.result c.from_residual-in_err-take.ensures.0 c.slots.invariant c.in_err-take.ensures

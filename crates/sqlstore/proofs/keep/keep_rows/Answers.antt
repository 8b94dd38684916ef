use Rattle.std.proofs.Common.{◌≡◌, ◌+◌, string_bytes, take, subst, []}
use Rattle.std.proofs.lemmas.List.{take_all}
use Rattle.sqlite.specs.Held.{state}
use Rattle.sqlstore.specs.Step.{Promises, Keeps, Intends}
use Rattle.sqlstore.proofs.Composed.{good, keeps_more, keeps_none}
use Rattle.sqlstore.proofs.Framing.{runs_as, runs_both, runs_err, runs_short}
use Rattle.sqlstore.proofs.keep.keep_rows.Goals as goal

pub intents-init : goal.intents-init
intents-init g c = runs_as g.S.Store (Promises c.args.visit.now c.args.txn.now) (Keeps c.args.visit.now c.args.txn.now []) c.args.tx.now.conn c.promise.new.tx.conn c.in_ok-promise.field-0 0 (keeps_none c.args.visit.now c.args.txn.now (state g.S.Store c.args.tx.now.conn.now).now (state g.S.Store c.promise.new.tx.conn.now).now) c.in_ok-promise.ensures

pub intents-preserved : goal.intents-preserved
intents-preserved g c =
    let visit = c.args.visit.now in
    let txn = c.args.txn.now in
    let intents = c.args.intents.now in
    let i = c.intents.intent-index in
    let start = c.args.tx.now.conn in
    let mid = c.intents.tx.conn in
    let last = c.intend.new.tx.conn in
    runs_both g.S.Store (Keeps visit txn (take i intents)) (Intends visit (string_bytes c.intent-item.result.leaf) c.intent-item.result.key c.intent-item.result.body.items) (Keeps visit txn (take (i + 1) intents)) start mid last 0 (good 0) (λ p. p.2.tables)
    (λ p q. keeps_more visit txn intents i c.intent-item.result (state g.S.Store start.now).now (state g.S.Store mid.now).now (state g.S.Store last.now).now c.intents-test.true c.intent-item.is p q) c.intents.invariant
    (runs_as g.S.Store (Intends visit (string_bytes c.intent-item.result.leaf) c.intent-item.result.key c.intent-item.result.body.items) (Intends visit (string_bytes c.intent-item.result.leaf) c.intent-item.result.key c.intent-item.result.body.items) mid last c.in_ok-intend.field-0 0 (λ p. p) c.in_ok-intend.ensures)

pub returns : goal.returns
returns g c =
    let visit = c.args.visit.now in
    let txn = c.args.txn.now in
    let intents = c.args.intents.now in
    let start = c.args.tx.now.conn in
    let last = c.intents.tx.conn in
    let all : take c.intents.intent-index intents ≡ intents = take_all c.intents.intent-index intents c.intents-test.false in
    runs_as g.S.Store (Keeps visit txn (take c.intents.intent-index intents)) (Keeps visit txn intents) start last 0 tt (λ p. subst (λ s. Keeps visit txn s (state g.S.Store start.now).now (state g.S.Store last.now).now) all p) c.intents.invariant

pub returns-in_err-promise : goal.returns-in_err-promise
returns-in_err-promise g c = runs_err g.S.Store (Promises c.args.visit.now c.args.txn.now) _ c.args.tx.now.conn c.promise.new.tx.conn _ c.from_residual.result c.from_residual.ensures.0 c.in_err-promise.ensures

pub returns-in_err-intend : goal.returns-in_err-intend
returns-in_err-intend g c =
    let visit = c.args.visit.now in
    let txn = c.args.txn.now in
    let intents = c.args.intents.now in
    runs_short g.S.Store (Keeps visit txn (take c.intents.intent-index intents)) (Intends visit (string_bytes c.intent-item.result.leaf) c.intent-item.result.key c.intent-item.result.body.items) _ c.args.tx.now.conn c.intents.tx.conn c.intend.new.tx.conn 0 _ c.from_residual-in_err-intend.result c.from_residual-in_err-intend.ensures.0 c.intents.invariant c.in_err-intend.ensures

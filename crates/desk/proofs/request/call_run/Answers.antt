-- Why `call_run` meets its contract.
use Rattle.std.proofs.Common.{rules, sym, ap, ◌∙◌, map}
use Rattle.protocol.specs.Desk.{State, on_request}
use Rattle.protocol.specs.Letters.{txn_name}
use Rattle.desk.specs.Request.{txn_in}
use Rattle.desk.specs.Planned.{ask_from}
use Rattle.desk.specs.State.{volatile_of}
use Rattle.desk.proofs.Doing.{idle_there, steps_on}
use Rattle.desk.proofs.Raised.{request_keeps}
use Rattle.desk.proofs.Full.{past_limits}
use Rattle.desk.proofs.request.call_run.Goals as goal

pub returns-in-Ok-clause-ok : goal.returns-in-Ok-clause-ok
returns-in-Ok-clause-ok c = λ db kept of same fits.
    let volatile = c.args.volatile.now in
    let statement = c.args.statement in
    let ready = c.in_ok-ready.ensures in
    let stands = idle_there ((volatile_of volatile).standing c.args.txn) ready.idle in
    let list = ready.asks ∙ ap (λ cat. map (ask_from cat) c.in_ok-ready.ready.plan.fetches) (sym same) in
    let goes = c.in-Ok.ensures.goes db kept stands.0 of same fits stands.1 stands.2 (ready.of_plan db of same) list in
    record {
      ordinary = ready.ordinary;
      choice = goes.does.choice;
      steps = steps_on db kept volatile c.start.ensures.ordered fits c.args.txn stands.0 stands.1 (λ choice. on_request (txn_name c.args.txn) choice (State (volatile.version, statement)) (txn_in db (volatile_of volatile) c.args.txn)) (volatile_of c.start.new.volatile) c.in-Ok.step goes
          (λ choice. request_keeps (txn_name c.args.txn) choice (State (volatile.version, statement)) (txn_in db (volatile_of volatile) c.args.txn)) c.put_out.result.letters c.put_out.result.replies c.put_out.ensures.letters c.put_out.ensures.replies;
      explained = goes.does.explained;
      placed = goes.does.placed;
    }

pub returns-in-Err-clause-full : goal.returns-in-Err-clause-full
returns-in-Err-clause-full c = λ db kept of same fits full.
    let volatile = c.args.volatile.now in
    let statement = c.args.statement in
    let ready = c.in_ok-ready.ensures in
    let stands = idle_there ((volatile_of volatile).standing c.args.txn) ready.idle in
    let list = ready.asks ∙ ap (λ cat. map (ask_from cat) c.in_ok-ready.ready.plan.fetches) (sym same) in
    past_limits db kept volatile fits c.args.txn stands.0 stands.1 (λ choice. on_request (txn_name c.args.txn) choice (State (volatile.version, statement)) (txn_in db (volatile_of volatile) c.args.txn))
    (c.in-Err.ensures.full db kept stands.0 of same fits stands.1 stands.2 (ready.of_plan db of same) list (search rules))

pub returns-in_err-ready-clause-full : goal.returns-in_err-ready-clause-full
returns-in_err-ready-clause-full c = λ db kept of same fits full. absurd (c.in_err-ready.ensures.own (search rules))

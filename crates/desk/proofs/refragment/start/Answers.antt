-- Why `start` meets its contract.
use Rattle.std.proofs.Common.{Ok, sym, ap, ◌∙◌, map}
use Rattle.desk.specs.declared.refusal.Refusal.{Refusal}
use Rattle.desk.specs.Planned.{ask_from}
use Rattle.desk.proofs.Doing.{reads_on, ready_home, ready_participants}
use Rattle.desk.proofs.refragment.start.Goals as goal

pub returns-in-Ok-clause-does : goal.returns-in-Ok-clause-does
returns-in-Ok-clause-does c = λ db of same are idle stated.
    let n = c.args.version in
    let statement = c.args.statement in
    let ready = c.in_ok-ready.ensures in
    let plan = c.in_ok-ready.ready.plan in
    let asks = c.in_ok-ready.ready.asks.items in
    let planned = ready.of_plan db n of same stated in
    let there = ready.asks ∙ ap (λ cat. map (ask_from cat) plan.fetches) (sym same) in
    let unique = c.leaf_names_are_unique.ensures in
    let home = ready_home db of n unique statement plan asks planned there in
    let have = ready_participants db of n unique statement plan asks planned there c.args.undecided.now.participants are.sites in
    reads_on db of n c.args.txn c.args.undecided.now c.reads.new.undecided idle statement plan asks planned there {E = Refusal} (Ok c.in-Ok.step) (c.in-Ok.ensures.within db are.sites home planned) ready.some
    (λ choice first rest is. c.in-Ok.ensures.step db choice first rest is are have)

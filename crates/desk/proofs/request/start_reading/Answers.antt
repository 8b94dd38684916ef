-- Why `start_reading` meets its contract.
use Rattle.std.proofs.Common.{rules, ◌≡◌, [], nat_eq, length, true, false, sym, ◌∙◌, subst}
use Rattle.desk.specs.Planned.{IsOfPlan}
use Rattle.desk.proofs.Doing.{empty_is, reads_on, ready_home, ready_participants}
use Rattle.desk.proofs.Full.{reads_long}
use Rattle.desk.proofs.PastLimit.{asks_past}
use Rattle.desk.specs.Statement.{ask_sites}
use Rattle.desk.proofs.request.start_reading.Goals as goal

pub returns-then-is_empty-clause-does : goal.returns-then-is_empty-clause-does
returns-then-is_empty-clause-does c = λ db of same are idle planned list.
    let zero : nat_eq (length c.args.asks.items) 0 ≡ true = search rules in
    let none : c.args.asks.items ≡ [] = empty_is c.args.asks.items zero in
    c.run_at_once.ensures.does db c.args.version of same are idle (subst (IsOfPlan db c.args.version c.args.statement c.args.plan) none planned) (sym none ∙ list)

pub returns-clause-does : goal.returns-clause-does
returns-clause-does c = λ db of same are idle planned list.
    let asks = c.args.asks.items in
    let home = ready_home db of c.args.version c.leaf_names_are_unique.ensures c.args.statement c.args.plan asks planned list in
    let have = ready_participants db of c.args.version c.leaf_names_are_unique.ensures c.args.statement c.args.plan asks planned list c.args.undecided.now.participants are.sites in
    let some : nat_eq (length asks) 0 ≡ false = search rules in
    reads_on db of c.args.version c.args.txn c.args.undecided.now c.reads.new.undecided idle c.args.statement c.args.plan asks planned list c.reads.result (c.reads.ensures.within db are.sites home planned) some
    (λ choice first rest is. c.reads.ensures.step db choice first rest is are have)

pub returns-then-is_empty-clause-full : goal.returns-then-is_empty-clause-full
returns-then-is_empty-clause-full c = λ db of same are idle planned list full.
    let zero : nat_eq (length c.args.asks.items) 0 ≡ true = search rules in
    let none : c.args.asks.items ≡ [] = empty_is c.args.asks.items zero in
    c.run_at_once.ensures.full db c.args.version of same are idle (subst (IsOfPlan db c.args.version c.args.statement c.args.plan) none planned) (sym none ∙ list) full

pub returns-clause-full : goal.returns-clause-full
returns-clause-full c = λ db of same are idle planned list full.
    let asks = c.args.asks.items in
    let some : nat_eq (length asks) 0 ≡ false = search rules in
    reads_long db of c.args.version c.args.txn c.args.undecided.now idle c.args.statement c.args.plan asks planned list some
    (λ choice first rest is. asks_past db c.args.txn c.args.undecided.now are.sites (ask_sites asks) (c.args.version, c.args.statement) choice asks first rest is (c.reads.ensures.sends.full full))

pub returns-then-is_empty-clause-goes : goal.returns-then-is_empty-clause-goes
returns-then-is_empty-clause-goes c = c.run_at_once.ensures.goes

pub returns-clause-goes : goal.returns-clause-goes
returns-clause-goes c = record { short = c.reads.ensures.sends.short; same = c.reads.ensures.sends.same }

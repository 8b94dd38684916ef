-- Why `stage_goes` meets its contract.
use Rattle.std.proofs.Common.{rules, ◌≡◌, refl, subst, ap, sym, ◌∙◌, [], ◌∷◌, List, nat_eq, length, true, false}
use Rattle.protocol.proofs.Basics.{clash}
use Rattle.desk.specs.declared.transaction.Reading.{Reading}
use Rattle.desk.specs.declared.transaction.Stage.TheVariants as stages
use Rattle.desk.specs.declared.transaction.Unsent.{Unsent}
use Rattle.desk.specs.Planned.{IsPlanned}
use Rattle.desk.specs.Statement.{staged}
use Rattle.desk.specs.Stepped.{IsAtHome}
use Rattle.desk.proofs.Doing.{empty_is}
use Rattle.desk.proofs.SentLetters.{goes_reading, goes_wrote}
use Rattle.desk.proofs.Within.{reads_in, works_in}
use Rattle.desk.proofs.statement.stage_goes.Goals as goal
use Rattle.desk.proofs.statement.stage_goes.Goals.{then-is_empty, else-is_empty}

pub returns-in_ok-letters-in-Reading-clause-step : goal.returns-in_ok-letters-in-Reading-clause-step
returns-in_ok-letters-in-Reading-clause-step c = λ db choice moves.
    let reading = c.in-Reading.reading in
    let was : c.args.stage.now ≡ stages.Reading reading = search rules in
    goes_reading db c.args.txn choice c.args.participants.now c.asks_step.new.participants c.args.stage.now _ moves c.quiet.result reading (record { version = reading.version; statement = reading.statement; plan = reading.plan; asks = c.asks_step.new.asks })
    was refl refl refl (search rules) (search rules) (search rules) (search rules)

pub returns-in_ok-letters-in-Reading-clause-within : goal.returns-in_ok-letters-in-Reading-clause-within
returns-in_ok-letters-in-Reading-clause-within c = λ db n moves known.
    let reading = c.in-Reading.reading in
    let after : Reading = record { version = reading.version; statement = reading.statement; plan = reading.plan; asks = c.asks_step.new.asks } in
    let was : c.args.stage.now ≡ stages.Reading reading = search rules in
    let planned = subst (IsPlanned db n) was known.2 in
    reads_in db n c.args.txn c.args.participants.now known.0 (staged c.asks_step.new.participants (stages.Reading after) moves) reading.asks.items reading.statement reading.plan after (subst (IsAtHome db) was known.1) planned.1 planned.0 refl refl (search rules) (search rules) refl

-- where the last write has gone out, the statement is done
done : (c : goal.Joined-is_empty) → c.writing_goes.new.writing.unsent.items ≡ [] → c.if-is_empty.stage ≡ stages.Idle
done c none = elim c.if-is_empty.branch [
  | then-is_empty w ↦ w.stage-is ∙ w.stands.ensures
  | else-is_empty w ↦ let some : nat_eq (length c.writing_goes.new.writing.unsent.items) 0 ≡ false = search rules in clash (ap (λ l. nat_eq (length l) 0) none) some
]

waits : (c : goal.Joined-is_empty) (first : Unsent) (rest : List Unsent) → c.writing_goes.new.writing.unsent.items ≡ first ∷ rest → c.if-is_empty.stage ≡ stages.Writing c.writing_goes.new.writing
waits c first rest some = elim c.if-is_empty.branch [
  | then-is_empty w ↦ let zero : nat_eq (length c.writing_goes.new.writing.unsent.items) 0 ≡ true = search rules in let none : [] ≡ first ∷ rest = sym (empty_is c.writing_goes.new.writing.unsent.items zero) ∙ some in cc
  | else-is_empty w ↦ w.stage-is
]

pub returns-after-is_empty-clause-step : goal.returns-after-is_empty-clause-step
returns-after-is_empty-clause-step c = λ db choice moves.
    let was : c.args.stage.now ≡ stages.Writing c.in-Writing.writing = search rules in
    goes_wrote db c.args.txn choice c.args.participants.now c.writing_goes.new.participants c.args.stage.now c.if-is_empty.stage moves c.in_ok-step-in-Writing.step c.in-Writing.writing c.writing_goes.new.writing
    was c.in_ok-step-in-Writing.ensures.left c.in_ok-step-in-Writing.ensures.participants c.in_ok-step-in-Writing.ensures.letters c.in_ok-step-in-Writing.ensures.answer (done c) (waits c) c.in_ok-step-in-Writing.ensures.replies

pub returns-after-is_empty-clause-within : goal.returns-after-is_empty-clause-within
returns-after-is_empty-clause-within c = λ db n moves known.
    let writing = c.in-Writing.writing in
    let after = c.writing_goes.new.writing in
    let was : c.args.stage.now ≡ stages.Writing writing = search rules in
    works_in db n c.args.txn c.args.participants.now known.0 (staged c.writing_goes.new.participants c.if-is_empty.stage moves) writing.unsent.items after.unsent.items after (subst (IsAtHome db) was known.1)
    c.in_ok-step-in-Writing.ensures.participants refl c.in_ok-step-in-Writing.ensures.left (done c) (waits c)

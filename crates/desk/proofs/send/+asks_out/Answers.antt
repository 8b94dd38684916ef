-- Why `asks_out` meets its contract.
use Rattle.std.proofs.Common.{rules, ◌≡◌, ◌∷◌, ◌++◌, sym, ap, ◌∙◌, subst, [], append-nil, append_assoc, Err}
use Rattle.desk.specs.declared.refusal.Refusal.TheVariants.{Full}
use Rattle.desk.specs.Send.{IsPast, asks_go}
use Rattle.desk.proofs.Going.{behind, left_so, letters_first, none_go, passed}
use Rattle.desk.proofs.Operations.{on_err}
use Rattle.desk.proofs.Short.{first_ask}
use Rattle.desk.proofs.send.+asks_out.Goals as goal

pub split_at_mut-going-requires : goal.split_at_mut-going-requires
split_at_mut-going-requires t c = c.before_going-before.ensures.within

pub returns-in_default-clause-participants : goal.returns-in_default-clause-participants
returns-in_default-clause-participants t c =
    let participants = c.args.participants.now in
    let halves = c.split_at_mut-going in
    let all = passed c.args.txn participants c.args.asks.now _ halves.result.0.now halves.result.1.now c.before_going-before.ensures.first halves.ensures.front halves.ensures.back in
    let rest = none_go c.args.txn participants halves.result.1.now c.in_default.ensures.cases in
    sym (ap (λ s. s.participants) (all ∙ ap (behind halves.result.0.now) rest))

pub returns-in_default-clause-letters : goal.returns-in_default-clause-letters
returns-in_default-clause-letters t c =
    let participants = c.args.participants.now in
    let halves = c.split_at_mut-going in
    let all = passed c.args.txn participants c.args.asks.now _ halves.result.0.now halves.result.1.now c.before_going-before.ensures.first halves.ensures.front halves.ensures.back in
    let rest = none_go c.args.txn participants halves.result.1.now c.in_default.ensures.cases in
    sym (ap (λ s. c.args.letters.now.items ++ s.letters) (all ∙ ap (behind halves.result.0.now) rest) ∙ append-nil c.args.letters.now.items)

pub returns-in_default-clause-left : goal.returns-in_default-clause-left
returns-in_default-clause-left t c =
    let participants = c.args.participants.now in
    let halves = c.split_at_mut-going in
    let all = passed c.args.txn participants c.args.asks.now _ halves.result.0.now halves.result.1.now c.before_going-before.ensures.first halves.ensures.front halves.ensures.back in
    let rest = sym (ap (λ s. s.left) (none_go c.args.txn participants halves.result.1.now c.in_default.ensures.cases)) in
    left_so halves.result.0.now halves.result.1.now (asks_go c.args.txn halves.result.1.now participants) (asks_go c.args.txn c.args.asks.now participants) all rest

pub returns-in_err-number-clause-full : goal.returns-in_err-number-clause-full
returns-in_err-number-clause-full t c = λ is.
    let participants = c.args.participants.now in
    let halves = c.split_at_mut-going in
    let all = passed c.args.txn participants c.args.asks.now _ halves.result.0.now halves.result.1.now c.before_going-before.ensures.first halves.ensures.front halves.ensures.back in
    subst (λ s. IsPast s.participants) (sym all)
    (subst (λ asks. IsPast (asks_go c.args.txn asks participants).participants) (sym c.in-Some.ensures.cases.0)
    (first_ask c.args.txn c.in-Some.ask.now c.in-Some.rest.now participants (c.ask_out.ensures.full (search rules))))

pub returns-in_err-number-clause-same : goal.returns-in_err-number-clause-same
returns-in_err-number-clause-same t c =
    let halves = c.split_at_mut-going in
    on_err c.from_residual.result (ap (λ asks. halves.result.0.now ++ asks) (sym c.in-Some.ensures.cases.0) ∙ sym halves.ensures.value)

pub returns-in_err-asks_out-clause-full : goal.returns-in_err-asks_out-clause-full
returns-in_err-asks_out-clause-full t c =
    let participants = c.args.participants.now in
    let halves = c.split_at_mut-going in
    let all = passed c.args.txn participants c.args.asks.now _ halves.result.0.now halves.result.1.now c.before_going-before.ensures.first halves.ensures.front halves.ensures.back in
    let over : c.from_residual-in_err-asks_out.result ≡ Err Full → IsPast (asks_go c.args.txn halves.result.1.now participants).participants = search rules in
    λ is. subst (λ s. IsPast s.participants) (sym all) (over is)

pub returns-in_err-asks_out-clause-same : goal.returns-in_err-asks_out-clause-same
returns-in_err-asks_out-clause-same t c =
    let halves = c.split_at_mut-going in
    let same : c.asks_out.new.asks ≡ c.in-Some.rest.now = search rules in
    on_err c.from_residual-in_err-asks_out.result (ap (λ asks. halves.result.0.now ++ c.in-Some.ask.now ∷ asks) same ∙ ap (λ asks. halves.result.0.now ++ asks) (sym c.in-Some.ensures.cases.0) ∙ sym halves.ensures.value)

pub returns-clause-participants : goal.returns-clause-participants
returns-clause-participants t c =
    let participants = c.args.participants.now in
    let halves = c.split_at_mut-going in
    let all = passed c.args.txn participants c.args.asks.now _ halves.result.0.now halves.result.1.now c.before_going-before.ensures.first halves.ensures.front halves.ensures.back in
    let rest : c.asks_out.new.participants ≡ (asks_go c.args.txn halves.result.1.now participants).participants = search rules in
    rest ∙ sym (ap (λ s. s.participants) all)

pub returns-clause-letters : goal.returns-clause-letters
returns-clause-letters t c =
    let participants = c.args.participants.now in
    let halves = c.split_at_mut-going in
    let all = passed c.args.txn participants c.args.asks.now _ halves.result.0.now halves.result.1.now c.before_going-before.ensures.first halves.ensures.front halves.ensures.back in
    let ask = c.in-Some.ask.now in
    let letters = c.args.letters.now.items in
    let one : c.ask_out.new.letters.items ≡ letters ++ (asks_go c.args.txn (ask ∷ []) participants).letters = search rules in
    let after : c.ask_out.new.participants ≡ (asks_go c.args.txn (ask ∷ []) participants).participants = search rules in
    let two : c.asks_out.new.letters.items ≡ c.ask_out.new.letters.items ++ (asks_go c.args.txn c.in-Some.rest.now c.ask_out.new.participants).letters = search rules in
    two ∙ (λ i. one i ++ (asks_go c.args.txn c.in-Some.rest.now (after i)).letters) ∙ append_assoc letters _ _ ∙ ap (λ more. letters ++ more) (letters_first c.args.txn ask c.in-Some.rest.now participants)
    ∙ ap (λ asks. letters ++ (asks_go c.args.txn asks participants).letters) (sym c.in-Some.ensures.cases.0) ∙ sym (ap (λ s. letters ++ s.letters) all)

pub returns-clause-left : goal.returns-clause-left
returns-clause-left t c =
    let participants = c.args.participants.now in
    let halves = c.split_at_mut-going in
    let all = passed c.args.txn participants c.args.asks.now _ halves.result.0.now halves.result.1.now c.before_going-before.ensures.first halves.ensures.front halves.ensures.back in
    left_so halves.result.0.now _ (asks_go c.args.txn halves.result.1.now participants) (asks_go c.args.txn c.args.asks.now participants) all (search rules)

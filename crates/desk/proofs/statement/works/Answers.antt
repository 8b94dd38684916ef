-- Why `works` meets its contract.
use Rattle.std.proofs.Common.{rules, ◌≡◌, refl, true, nat_eq, length, [], ap, sym, ◌∙◌, subst}
use Rattle.desk.proofs.Doing.{empty_is}
use Rattle.desk.proofs.Evaluated.{works_is, works_nothing}
use Rattle.desk.proofs.Within.{visits_sites, works_in}
use Rattle.desk.specs.declared.statement.Progress.{Progress}
use Rattle.desk.specs.Opening.{visits}
use Rattle.desk.specs.Send.{AreShort}
use Rattle.desk.specs.Statement.{answer_of, staged, write_sites}
use Rattle.desk.proofs.statement.works.Goals as goal

pub returns-then-is_empty-clause-step : goal.returns-then-is_empty-clause-step
returns-then-is_empty-clause-step c = λ db stated asks are have.
    let zero : nat_eq (length c.args.unsent.items) 0 ≡ true = search rules in
    let none : c.args.unsent.items ≡ [] = empty_is c.args.unsent.items zero in
    let u = c.args.undecided.now in
    let step : Progress = record { letters = c.new.result; replies = c.in_ok-replies.replies } in
    works_nothing db c.args.txn u (staged u.participants c.put_writes.new.stage u.moves) (record { answer = c.args.answer; unsent = c.args.unsent }) stated asks are none refl step refl (c.in_ok-replies.ensures.answered none) (search rules) (c.in_ok-replies.ensures.replies ∙ ap (answer_of c.args.txn c.args.answer) none)

pub returns-clause-step : goal.returns-clause-step
returns-clause-step c = λ db stated asks are have.
    works_is db c.args.txn c.args.undecided.now _ (record { answer = c.args.answer; unsent = c.args.unsent }) stated asks are have (search rules) _ (search rules) (search rules) c.writes_begin.new.unsent.items (record { answer = c.args.answer; unsent = c.writes_begin.new.unsent }) refl refl (search rules)
    (λ none. c.in_ok-replies-2.ensures.answered none) (λ first rest some. c.in_ok-replies-2.ensures.waits first rest some) c.in_ok-replies-2.ensures.replies

pub returns-clause-within : goal.returns-clause-within
returns-clause-within c = λ db n those home.
    let unsent = c.args.unsent.items in
    let participants = c.args.undecided.now.participants in
    works_in db n c.args.txn (visits (write_sites unsent) participants) (visits_sites (write_sites unsent) participants ∙ those) (staged _ _ c.args.undecided.now.moves) unsent c.writes_begin.new.unsent.items (record { answer = c.args.answer; unsent = c.writes_begin.new.unsent }) home (search rules) refl (search rules)
    (λ none. c.in_ok-replies-2.ensures.answered none) (λ first rest some. c.in_ok-replies-2.ensures.waits first rest some)

pub returns-then-is_empty-clause-sends : goal.returns-then-is_empty-clause-sends
returns-then-is_empty-clause-sends c = record { short = λ short. short; same = tt; full = λ full. (let none = full in cc) }

pub returns-clause-sends : goal.returns-clause-sends
returns-clause-sends c = record {
  short = λ short. subst AreShort (sym c.new-2.ensures) (c.in_ok-going.ensures.short (subst AreShort (sym c.as_slice.ensures) short));
  same = tt;
  full = λ full. (let none = full in cc);
}

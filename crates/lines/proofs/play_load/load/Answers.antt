use Rattle.std.proofs.Common.{sym, ◌∙◌}
use Rattle.lines.proofs.PlayLoadLemmas.{insert_adds, insert_stays, same_insert}
use Rattle.lines.proofs.play_load.load.Goals as goal

pub returns-in_ok-answer-in-Some-clause-loaded : goal.returns-in_ok-answer-in-Some-clause-loaded
returns-in_ok-answer-in-Some-clause-loaded c = λ yes. record {
  insert = c.in-Some.insert;
  read = c.in_ok-insert.ensures.some c.in-Some.insert c.in-Some.is;
  added = insert_adds c.in-Some.insert c.args.whole.now c.run-answer.new.whole c.in_ok-answer-in-Some.field-0 c.in_ok-answer-in-Some.ensures.answer c.in_ok-answer-in-Some.ensures.whole (sym c.is_changed.ensures ∙ yes);
}

pub returns-in_ok-answer-in-Some-clause-nothing : goal.returns-in_ok-answer-in-Some-clause-nothing
returns-in_ok-answer-in-Some-clause-nothing c = λ no insert of_insert.
    let stays = insert_stays c.in-Some.insert c.args.whole.now c.run-answer.new.whole c.in_ok-answer-in-Some.field-0 c.in_ok-answer-in-Some.ensures.answer c.in_ok-answer-in-Some.ensures.whole (sym c.is_changed.ensures ∙ no) in
    same_insert c.args.schema.now.relations c.args.text.now c.in-Some.insert insert c.args.whole.now c.one_command.ensures (c.in_ok-insert.ensures.some c.in-Some.insert c.in-Some.is) of_insert stays.0

pub returns-in_ok-answer-in-Some-clause-same : goal.returns-in_ok-answer-in-Some-clause-same
returns-in_ok-answer-in-Some-clause-same c = λ no.
    (insert_stays c.in-Some.insert c.args.whole.now c.run-answer.new.whole c.in_ok-answer-in-Some.field-0 c.in_ok-answer-in-Some.ensures.answer c.in_ok-answer-in-Some.ensures.whole (sym c.is_changed.ensures ∙ no)).1

pub returns-in-None-clause-nothing : goal.returns-in-None-clause-nothing
returns-in-None-clause-nothing c = λ _ insert of_insert. absurd (c.in_ok-insert.ensures.none c.in-None.is insert of_insert)

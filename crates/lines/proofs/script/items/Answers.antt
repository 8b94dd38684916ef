use Rattle.std.proofs.Common.{◌==◌, ◌++◌, [], ◌∷◌, ap, append-nil, map, refl, rules, sym, ◌∙◌}
use Rattle.std.proofs.lemmas.List.{map-append}
use Rattle.std.proofs.lemmas.Iterator.Consumers.{YieldsList-at, YieldsList-end, YieldsList-from_enumerate, YieldsList-so_far, YieldsList-turn}
use Rattle.std.proofs.lemmas.Iterator.Splits.{YieldsList-from_slice_split}
use borrow.Author.Tests.{tests}
use Rattle.lines.specs.Script.{first_unreadable, is_unreadable, lines_of, task_of, tasks_of_lines}
use Rattle.lines.proofs.ScriptLemmas.{first_unreadable-at, first_unreadable-more, is_unreadable-item, tasks_of-item, tasks_of_lines-more, texts, texts-all, texts-more}
use Rattle.lines.proofs.script.items.Goals as goal

pub loop-index-preserved-in-PassedOver : goal.loop-index-preserved-in-PassedOver
loop-index-preserved-in-PassedOver c =
    let more = texts-more c.loop-index.yielded c.in-Some.index c.in-Some.line in
    record {
      tasks = rw more (tasks_of_lines-more (texts c.loop-index.yielded) c.in-Some.line.now _ _ _ c.loop-index.invariant.tasks c.in-PassedOver.ensures (append-nil _));
      readable = rw more (first_unreadable-more (texts c.loop-index.yielded) c.in-Some.line.now _ c.loop-index.invariant.readable c.in-PassedOver.ensures refl);
    }

pub loop-index-preserved : goal.loop-index-preserved
loop-index-preserved c =
    let more = texts-more c.loop-index.yielded c.in-Some.index c.in-Some.line in
    record {
      tasks = rw more (tasks_of_lines-more (texts c.loop-index.yielded) c.in-Some.line.now _ _ _ c.loop-index.invariant.tasks c.in-Asks.ensures
          (ap (λ tasks. map task_of c.loop-index.items.items ++ tasks) (tasks_of-item c.in-Asks.item)
          ∙ sym (map-append task_of c.loop-index.items.items (c.in-Asks.item ∷ [])) ∙ sym (ap (map task_of) c.in_ok-push-in-Asks.ensures.items)));
      readable = rw more (first_unreadable-more (texts c.loop-index.yielded) c.in-Some.line.now _ c.loop-index.invariant.readable c.in-Asks.ensures (is_unreadable-item c.in-Asks.item));
    }

pub returns-in-Malformed-clause-malformed : goal.returns-in-Malformed-clause-malformed
returns-in-Malformed-clause-malformed c =
    let so_far = YieldsList-so_far (YieldsList-at c.into_iter-index-iterator.ensures.into_iter_gives (YieldsList-from_enumerate (YieldsList-at c.enumerate-index-items.ensures.source
    (YieldsList-from_slice_split _ (λ byte. byte == 10) c.args.script.now c.split.ensures.rest c.split.ensures.done c.split.ensures.closure (λ x b q k. search (rules, tests))))
    c.enumerate-index-items.ensures.count))
    c.loop-index.yielded _ c.loop-index.yielded_by in
    let turn = YieldsList-turn (YieldsList-at c.into_iter-index-iterator.ensures.into_iter_gives (YieldsList-from_enumerate (YieldsList-at c.enumerate-index-items.ensures.source
    (YieldsList-from_slice_split _ (λ byte. byte == 10) c.args.script.now c.split.ensures.rest c.split.ensures.done c.split.ensures.closure (λ x b q k. search (rules, tests))))
    c.enumerate-index-items.ensures.count))
    c.loop-index.yielded _ c.loop-index.yielded_by _ _ (c.in-Some.index, c.in-Some.line) c.in-Some.is c.next.ensures.steps in
    let found = first_unreadable-at (lines_of c.args.script.now) c.loop-index.yielded c.in-Some.index c.in-Some.line.now so_far turn.0 turn.1 c.loop-index.invariant.readable (ap is_unreadable (sym c.in-Malformed.ensures)) in
    λ line same. cc

pub returns-clause-items : goal.returns-clause-items
returns-clause-items c =
    let end = YieldsList-end (YieldsList-at c.into_iter-index-iterator.ensures.into_iter_gives (YieldsList-from_enumerate (YieldsList-at c.enumerate-index-items.ensures.source
    (YieldsList-from_slice_split _ (λ byte. byte == 10) c.args.script.now c.split.ensures.rest c.split.ensures.done c.split.ensures.closure (λ x b q k. search (rules, tests))))
    c.enumerate-index-items.ensures.count))
    c.loop-index.yielded _ c.loop-index.yielded_by _ _ c.in-None.is c.next.ensures.steps in
    c.loop-index.invariant.tasks ∙ ap tasks_of_lines (texts-all (lines_of c.args.script.now) c.loop-index.yielded end.0)

pub returns-clause-all_read : goal.returns-clause-all_read
returns-clause-all_read c =
    let end = YieldsList-end (YieldsList-at c.into_iter-index-iterator.ensures.into_iter_gives (YieldsList-from_enumerate (YieldsList-at c.enumerate-index-items.ensures.source
    (YieldsList-from_slice_split _ (λ byte. byte == 10) c.args.script.now c.split.ensures.rest c.split.ensures.done c.split.ensures.closure (λ x b q k. search (rules, tests))))
    c.enumerate-index-items.ensures.count))
    c.loop-index.yielded _ c.loop-index.yielded_by _ _ c.in-None.is c.next.ensures.steps in
    sym (ap first_unreadable (texts-all (lines_of c.args.script.now) c.loop-index.yielded end.0)) ∙ c.loop-index.invariant.readable

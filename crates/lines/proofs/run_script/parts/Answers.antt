use Rattle.std.proofs.Common.{◌==◌, [], ◌∷◌, append-nil, ap, refl, rules, sym, ◌∙◌}
use Rattle.std.proofs.lemmas.Iterator.Consumers.{YieldsList-at, YieldsList-end, YieldsList-from_enumerate, YieldsList-so_far, YieldsList-turn}
use Rattle.std.proofs.lemmas.Iterator.Splits.{YieldsList-from_slice_split}
use borrow.Author.Tests.{tests}
use Rattle.lines.specs.RunScript.{first_malformed, given_in, is_unreadable, sessions_given, sessions_of}
use Rattle.lines.specs.Script.{lines_of}
use Rattle.lines.proofs.RunScriptLemmas.{first_malformed-at, first_malformed-more, sessions_of-more}
use Rattle.lines.proofs.ScriptLemmas.{texts, texts-all, texts-more}
use Rattle.lines.proofs.run_script.parts.Goals as goal

pub loop-index-preserved-in-PassedOver : goal.loop-index-preserved-in-PassedOver
loop-index-preserved-in-PassedOver c =
    let so_far = texts c.loop-index.yielded in
    let more = texts-more c.loop-index.yielded c.in-Some.index c.in-Some.line in
    record {
      sessions = rw more (c.loop-index.invariant.sessions ∙ ap sessions_given (sym (append-nil (given_in so_far))) ∙ sessions_of-more so_far c.in-Some.line.now _ [] c.in-PassedOver.ensures refl);
      readable = rw more (first_malformed-more so_far c.in-Some.line.now _ c.loop-index.invariant.readable c.in-PassedOver.ensures refl);
    }

pub loop-index-preserved : goal.loop-index-preserved
loop-index-preserved c =
    let so_far = texts c.loop-index.yielded in
    let more = texts-more c.loop-index.yielded c.in-Some.index c.in-Some.line in
    record {
      sessions = rw more (c.in_ok-give-in-Gives.ensures (given_in so_far) c.loop-index.invariant.sessions ∙ sessions_of-more so_far c.in-Some.line.now _ ((c.in-Gives.session.now, c.in-Gives.command.now) ∷ []) c.in-Gives.ensures refl);
      readable = rw more (first_malformed-more so_far c.in-Some.line.now _ c.loop-index.invariant.readable c.in-Gives.ensures refl);
    }

pub returns-in-Malformed-clause-malformed : goal.returns-in-Malformed-clause-malformed
returns-in-Malformed-clause-malformed c =
    let so_far = YieldsList-so_far (YieldsList-at c.into_iter-index-iterator.ensures.into_iter_gives (YieldsList-from_enumerate (YieldsList-at c.enumerate-index-items.ensures.source
    (YieldsList-from_slice_split _ (λ byte. byte == 10) c.args.script.now c.split.ensures.rest c.split.ensures.done c.split.ensures.closure (λ x b q k. search (rules, tests))))
    c.enumerate-index-items.ensures.count))
    c.loop-index.yielded _ c.loop-index.yielded_by in
    let turn = YieldsList-turn (YieldsList-at c.into_iter-index-iterator.ensures.into_iter_gives (YieldsList-from_enumerate (YieldsList-at c.enumerate-index-items.ensures.source
    (YieldsList-from_slice_split _ (λ byte. byte == 10) c.args.script.now c.split.ensures.rest c.split.ensures.done c.split.ensures.closure (λ x b q k. search (rules, tests))))
    c.enumerate-index-items.ensures.count))
    c.loop-index.yielded _ c.loop-index.yielded_by _ _ (c.in-Some.index, c.in-Some.line) c.in-Some.is c.next.ensures.steps in
    let found = first_malformed-at (lines_of c.args.script.now) c.loop-index.yielded c.in-Some.index c.in-Some.line.now so_far turn.0 turn.1 c.loop-index.invariant.readable (ap is_unreadable (sym c.in-Malformed.ensures)) in
    λ line same. cc

pub returns-clause-parts : goal.returns-clause-parts
returns-clause-parts c =
    let end = YieldsList-end (YieldsList-at c.into_iter-index-iterator.ensures.into_iter_gives (YieldsList-from_enumerate (YieldsList-at c.enumerate-index-items.ensures.source
    (YieldsList-from_slice_split _ (λ byte. byte == 10) c.args.script.now c.split.ensures.rest c.split.ensures.done c.split.ensures.closure (λ x b q k. search (rules, tests))))
    c.enumerate-index-items.ensures.count))
    c.loop-index.yielded _ c.loop-index.yielded_by _ _ c.in-None.is c.next.ensures.steps in
    c.in_ok-in_parts.ensures ∙ c.loop-index.invariant.sessions ∙ ap sessions_of (texts-all (lines_of c.args.script.now) c.loop-index.yielded end.0)

pub returns-clause-all_read : goal.returns-clause-all_read
returns-clause-all_read c =
    let end = YieldsList-end (YieldsList-at c.into_iter-index-iterator.ensures.into_iter_gives (YieldsList-from_enumerate (YieldsList-at c.enumerate-index-items.ensures.source
    (YieldsList-from_slice_split _ (λ byte. byte == 10) c.args.script.now c.split.ensures.rest c.split.ensures.done c.split.ensures.closure (λ x b q k. search (rules, tests))))
    c.enumerate-index-items.ensures.count))
    c.loop-index.yielded _ c.loop-index.yielded_by _ _ c.in-None.is c.next.ensures.steps in
    sym (ap first_malformed (texts-all (lines_of c.args.script.now) c.loop-index.yielded end.0)) ∙ c.loop-index.invariant.readable

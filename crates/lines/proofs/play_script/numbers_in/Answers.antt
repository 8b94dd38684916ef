use Rattle.lines.proofs.PlayScriptLemmas.{numbers_of-next, numbers_of-none}
use Rattle.lines.proofs.play_script.numbers_in.Goals as goal

pub returns-in-None : goal.returns-in-None
returns-in-None c = numbers_of-none c.loop-word.numbers.items c.args.words.now c.loop-word.word-index _ _ c.loop-word-test.true c.in-None.ensures c.loop-word.invariant

pub loop-word-preserved : goal.loop-word-preserved
loop-word-preserved c = let h = numbers_of-next c.loop-word.numbers.items c.args.words.now c.loop-word.word-index _ c.in-Some.number _ c.loop-word-test.true c.in-Some.ensures c.loop-word.invariant in rw c.in_ok-push-in-Some.ensures.items h

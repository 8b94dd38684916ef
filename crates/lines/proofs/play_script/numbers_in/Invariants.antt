use Rattle.std.proofs.Common.{◌≡◌, ◌++◌, drop, map, option_map}
use Rattle.lines.specs.PlayScript.{numbers_of}
use Rattle.lines.proofs.play_script.numbers_in.Given as goal

abbrev pub invariant-loop-word : goal.invariant-loop-word
invariant-loop-word l = option_map (λ more. l.numbers.items ++ more) (numbers_of (map (λ word. word.now) (drop l.word-index l.words))) ≡ numbers_of (map (λ word. word.now) l.words)

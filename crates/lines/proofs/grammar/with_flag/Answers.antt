use Rattle.std.proofs.Common.{rules}
use Rattle.lines.specs.Grammar.{flag}
use Rattle.lines.proofs.grammar.with_flag.Goals as goal

pub returns : goal.returns
returns c = λ app made. c.with.ensures _ (flag c.args.name.now c.args.long.now) made (search rules)

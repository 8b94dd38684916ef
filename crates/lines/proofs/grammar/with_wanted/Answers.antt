use Rattle.std.proofs.Common.{rules}
use Rattle.lines.specs.Grammar.{wanted_argument}
use Rattle.lines.proofs.grammar.with_wanted.Goals as goal

pub returns : goal.returns
returns c = λ app made. c.with.ensures _ (wanted_argument c.args.name.now c.args.long.now) made (search rules)

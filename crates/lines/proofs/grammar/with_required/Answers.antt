use Rattle.std.proofs.Common.{rules}
use Rattle.lines.specs.Grammar.{argument}
use Rattle.lines.proofs.grammar.with_required.Goals as goal

pub returns : goal.returns
returns c = λ app made. c.with.ensures _ (argument c.args.name.now) made (search rules)

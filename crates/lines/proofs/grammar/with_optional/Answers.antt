use Rattle.std.proofs.Common.{rules}
use Rattle.clap.specs.Words.{new_rule}
use Rattle.lines.proofs.grammar.with_optional.Goals as goal

pub returns : goal.returns
returns c = λ app made. c.with.ensures _ (new_rule c.args.name.now) made (search rules)

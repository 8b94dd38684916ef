use Rattle.std.proofs.Common.{codes, rules}
use Rattle.lines.specs.Grammar.{repeated_argument}
use Rattle.lines.proofs.grammar.with_next.Goals as goal

pub returns : goal.returns
returns c = λ app made. c.with.ensures _ (repeated_argument (codes "NEXT") (codes "next")) made (search rules)

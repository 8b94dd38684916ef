-- What each round of `parser::assignments` keeps.
use Rattle.std.proofs.Common.{map, length}
use Rattle.reader.specs.declared.sign.Sign.TheVariants as mark
use Rattle.reader.specs.Symbol.{sign}
use Rattle.reader.specs.Tree.{assignment_tree}
use Rattle.reader.specs.Parsing.{assignment_at}
use Rattle.reader.proofs.Lists.{IsReading}
use Rattle.reader.proofs.parser.assignments.Given as goal

abbrev pub invariant-loop-assignments : goal.invariant-loop-assignments
invariant-loop-assignments l = IsReading assignment_at (sign mark.Comma) l.fn.cursor (map assignment_tree l.assignments.items) l.cursor

abbrev pub decreases-loop-assignments : goal.decreases-loop-assignments
decreases-loop-assignments l = length l.cursor

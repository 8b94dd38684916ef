-- What each round of `parser::columns` keeps.
use Rattle.std.proofs.Common.{map, length}
use Rattle.reader.specs.declared.sign.Sign.TheVariants as mark
use Rattle.reader.specs.Symbol.{sign}
use Rattle.reader.specs.Tree.{column_tree}
use Rattle.reader.specs.Parsing.{column_at}
use Rattle.reader.proofs.Lists.{IsReading}
use Rattle.reader.proofs.parser.columns.Given as goal

abbrev pub invariant-loop-columns : goal.invariant-loop-columns
invariant-loop-columns l = IsReading column_at (sign mark.Comma) l.fn.cursor (map column_tree l.columns.items) l.cursor

abbrev pub decreases-loop-columns : goal.decreases-loop-columns
decreases-loop-columns l = length l.cursor

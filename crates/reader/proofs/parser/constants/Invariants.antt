-- What each round of `parser::constants` keeps.
use Rattle.std.proofs.Common.{map, length}
use Rattle.reader.specs.declared.sign.Sign.TheVariants as mark
use Rattle.reader.specs.Symbol.{sign}
use Rattle.reader.specs.Tree.{constant_tree}
use Rattle.reader.specs.Parsing.{constant_at}
use Rattle.reader.proofs.Lists.{IsReading}
use Rattle.reader.proofs.parser.constants.Given as goal

abbrev pub invariant-loop-constants : goal.invariant-loop-constants
invariant-loop-constants l = IsReading constant_at (sign mark.Comma) l.fn.cursor (map constant_tree l.constants.items) l.cursor

abbrev pub decreases-loop-constants : goal.decreases-loop-constants
decreases-loop-constants l = length l.cursor

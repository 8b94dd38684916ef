-- What each round of `parser::conditions` keeps.
use Rattle.std.proofs.Common.{map, length}
use Rattle.reader.specs.declared.keyword.Keyword.TheVariants as word
use Rattle.reader.specs.Symbol.{key}
use Rattle.reader.specs.Tree.{condition_tree}
use Rattle.reader.specs.Parsing.{condition_at}
use Rattle.reader.proofs.Lists.{IsReading}
use Rattle.reader.proofs.parser.conditions.Given as goal

abbrev pub invariant-loop-conditions : goal.invariant-loop-conditions
invariant-loop-conditions l = IsReading condition_at (key word.And) l.fn.cursor (map condition_tree l.conditions.items) l.cursor

abbrev pub decreases-loop-conditions : goal.decreases-loop-conditions
decreases-loop-conditions l = length l.cursor

-- What each round of `print_statement::relation_at` keeps.
use Rattle.std.proofs.Common.{◌≡◌, drop}
use Rattle.reader.specs.Written.{column_of_joined}
use Rattle.reader.proofs.print_statement.relation_at.Given as goal

-- the place among the relations that are left is the place among all
abbrev pub invariant-loop-join : goal.invariant-loop-join
invariant-loop-join l = column_of_joined l.source (drop l.join-index l.joins) l.place ≡ column_of_joined l.from l.joins l.fn.place

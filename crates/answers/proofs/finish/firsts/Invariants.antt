-- What each round of `finish::firsts` keeps.
use Rattle.std.proofs.Common.{◌≡◌, ◌++◌, drop, map}
use Rattle.answers.proofs.finish.firsts.Given as goal

abbrev pub invariant-loop-row : goal.invariant-loop-row
invariant-loop-row l = l.found.items ++ map (λ row. row.first) (drop l.row-index l.rows) ≡ map (λ row. row.first) l.rows

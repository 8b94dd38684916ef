-- What each round of `joined::Behind::with_all` keeps.
use Rattle.std.proofs.Common.{◌≡◌, ◌++◌, drop}
use Rattle.answers.specs.Laid.{rows_behind}
use Rattle.answers.proofs.joined.Behind.with_all.Given as goal

abbrev pub invariant-loop-row : goal.invariant-loop-row
invariant-loop-row l = rows_behind l.all ++ drop l.row-index l.others ≡ rows_behind l.fn.self ++ l.others

-- What each round of `joined::padded` keeps.
use Rattle.std.proofs.Common.{◌≡◌, ◌++◌, ◌-◌}
use Rattle.answers.specs.Laid.{padded, rows_behind}
use Rattle.answers.proofs.joined.padded.Given as goal

abbrev pub invariant-loop-place : goal.invariant-loop-place
invariant-loop-place l = rows_behind l.all ++ padded (l.count - l._place) l.rest ≡ padded l.count l.rows

-- What each round of `need::need_of_all` keeps.
use Rattle.std.proofs.Common.{◌≡◌}
use Rattle.std.specs.List.{range_with_len}
use Rattle.plan.proofs.need.need_of_all.Given as goal

-- the places put out are the first so many
abbrev pub invariant-loop-place : goal.invariant-loop-place
invariant-loop-place l = l.columns.items ≡ range_with_len 0 l.place

use Rattle.std.proofs.Common.{◌≡◌, take}
use Rattle.lines.proofs.same_catalog.same_columns.Given as goal

-- so far they are the same
abbrev pub invariant-loop-place : goal.invariant-loop-place
invariant-loop-place l = take l.place l.columns ≡ take l.place l.others

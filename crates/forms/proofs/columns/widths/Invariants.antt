use Rattle.std.proofs.Common.{◌≡◌, take}
use Rattle.forms.specs.Columns.{widths_from}
use Rattle.forms.proofs.columns.widths.Given as goal

abbrev pub invariant-loop-place : goal.invariant-loop-place
invariant-loop-place l = l.widths.items ≡ widths_from l.rows 0 (take l.place l.names)

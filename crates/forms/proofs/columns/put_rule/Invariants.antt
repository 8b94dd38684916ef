use Rattle.std.proofs.Common.{◌≡◌, ◌++◌, replicate, take, string_bytes}
use Rattle.std.specs.List.{flat_map}
use Rattle.forms.specs.Columns.{gap}
use Rattle.forms.proofs.columns.put_rule.Given as goal

abbrev pub invariant-loop-width : goal.invariant-loop-width
invariant-loop-width l = string_bytes l.line ≡ flat_map (λ width. replicate width 45 ++ gap) (take l.width-index l.widths)

use Rattle.std.proofs.Common.{◌≡◌, string_bytes}
use Rattle.std.specs.List.{flat_map}
use Rattle.forms.specs.Columns.{at_left}
use Rattle.forms.proofs.columns.put_names.Given as goal

abbrev pub invariant-loop-width : goal.invariant-loop-width
invariant-loop-width l = string_bytes l.line ≡ flat_map (λ p. at_left p.0.now p.1.now) l.yielded

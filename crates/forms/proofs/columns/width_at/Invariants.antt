use Rattle.std.proofs.Common.{◌≡◌, max, slice_get, take}
use Rattle.std.specs.List.{fold}
use Rattle.forms.specs.Columns.{field_width, width_of}
use Rattle.forms.proofs.columns.width_at.Given as goal

abbrev pub invariant-loop-row : goal.invariant-loop-row
invariant-loop-row l = l.width ≡ fold (λ width row. max width (field_width (slice_get row l.place))) (width_of l.name) (take l.row-index l.rows)

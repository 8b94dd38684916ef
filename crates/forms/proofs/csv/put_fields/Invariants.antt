use Rattle.std.proofs.Common.{◌≡◌, ◌∷◌, ◌++◌, take, string_bytes}
use Rattle.std.specs.List.{flat_map}
use Rattle.forms.proofs.csv.put_fields.Given as goal

abbrev pub invariant-loop-field : goal.invariant-loop-field
invariant-loop-field g l = string_bytes l.out ≡ string_bytes l.initial.out ++ flat_map (λ other. 44 ∷ g.T.Field.bytes other) (take l.field-index l.others)

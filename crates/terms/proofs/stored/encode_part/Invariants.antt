use Rattle.std.proofs.Common.{◌≡◌, ◌∷◌, length, take}
use Rattle.std.specs.List.{flat_map}
use Rattle.terms.specs.Stored.{value_spelling}
use Rattle.terms.proofs.stored.encode_part.Given as goal

abbrev pub invariant-loop-value : goal.invariant-loop-value
invariant-loop-value l = l.bytes.items ≡ length l.values ∷ flat_map value_spelling (take l.value-index l.values)

use Rattle.std.proofs.Common.{◌≡◌, ◌-◌, ◌∷◌, []}
use Rattle.terms.specs.Stored.{values_from, behind}
use Rattle.terms.proofs.stored.values_at.Given as goal

abbrev pub invariant-loop : goal.invariant-loop
invariant-loop l = behind l.values.items (values_from (l.count - l.counter) l.rest) ≡ behind (l.fn.key ∷ []) (values_from l.count l.bytes)

use Rattle.std.proofs.Common.{◌≡◌, ◌++◌, string_bytes}
use Rattle.forms.specs.Json.{json_member}
use Rattle.forms.specs.Separated.{separated}
use Rattle.forms.proofs.SeparatedLemmas.{between}
use Rattle.forms.proofs.json.put_row.Given as goal

-- the members so far are put, and what stands before the next one
abbrev pub invariant-loop-name : goal.invariant-loop-name
invariant-loop-name l = (string_bytes l.out ≡ string_bytes l.initial.out ++ separated (λ p. json_member (p.0.now, p.1.now)) 44 l.yielded) × (l.between ≡ between 44 l.yielded)

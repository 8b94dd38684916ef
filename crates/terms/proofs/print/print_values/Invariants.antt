-- What each round of `print::print_values` keeps.
use Rattle.std.proofs.Common.{◌≡◌, ◌++◌, take, codes, string_bytes}
use Rattle.std.specs.List.{flat_map}
use Rattle.terms.specs.Print.{value_text}
use Rattle.terms.proofs.print.print_values.Given as goal

abbrev pub invariant-loop-value : goal.invariant-loop-value
invariant-loop-value l = string_bytes l.out ≡ string_bytes l.initial.out ++ flat_map (λ later. codes ", " ++ value_text later) (take l.value-index l.others)

-- What each round of `print::print_conds` keeps.
use Rattle.std.proofs.Common.{◌≡◌, ◌++◌, take, codes, string_bytes}
use Rattle.std.specs.List.{flat_map}
use Rattle.terms.specs.Print.{cond_text}
use Rattle.terms.proofs.print.print_conds.Given as goal

abbrev pub invariant-loop-cond : goal.invariant-loop-cond
invariant-loop-cond l = string_bytes l.out ≡ string_bytes l.initial.out ++ flat_map (λ later. codes " AND " ++ cond_text l.columns later) (take l.cond-index l.others)

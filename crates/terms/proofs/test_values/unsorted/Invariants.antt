-- What each round of `test_values::unsorted` keeps.
use Rattle.std.proofs.Common.{◌≡◌, ◌++◌, drop}
use Rattle.std.specs.List.{flat_map}
use Rattle.terms.specs.TestValues.{test_values, constants, with_after}
use Rattle.terms.proofs.test_values.unsorted.Given as goal

abbrev pub invariant-loop-cond : goal.invariant-loop-cond
invariant-loop-cond l =
    l.values.items ++ flat_map with_after (constants (drop l.cond-index l.conds) l.col)
    ≡ test_values l.fn.kind (constants l.conds l.col)

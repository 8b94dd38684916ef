use Rattle.std.proofs.Common.{◌≡◌, ◌++◌, drop, filter}
use Rattle.terms.specs.TestValues.{column_holds}
use Rattle.catalog.proofs.exact.values_on_way.Given as goal

-- the values so far and those of the ones that are left are those of all
abbrev pub invariant-loop-value : goal.invariant-loop-value
invariant-loop-value l = l.kept.items ++ filter (column_holds l.way l.col) (drop l.value-index l.values) ≡ filter (column_holds l.way l.col) l.values

-- What each round of `satisfiable::least_row` keeps.
use Rattle.std.proofs.Common.{take}
use Rattle.terms.specs.Search.{AreLeast}
use Rattle.terms.proofs.satisfiable.least_row.Given as goal

abbrev pub invariant-loop-col : goal.invariant-loop-col
invariant-loop-col l = AreLeast l.conds 0 (take l.col l.kinds) l.values.items

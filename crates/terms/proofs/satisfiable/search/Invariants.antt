-- What each round of `satisfiable::search` keeps.
use Rattle.std.proofs.Common.{◌≡◌, drop, None}
use Rattle.terms.specs.TestValues.{least}
use Rattle.terms.specs.Search.{tried_all, better}
use Rattle.terms.proofs.satisfiable.search.Given as goal

abbrev pub invariant-loop-cond : goal.invariant-loop-cond
invariant-loop-cond l =
    tried_all l.conds l.col l.best (drop l.cond-index l.conds)
    ≡ tried_all l.conds l.col (better l.conds l.col None (least l.fn.kind)) l.conds

-- What each round of `key_equality` keeps.
use Rattle.std.proofs.Common.{◌≡◌, drop}
use Rattle.site.specs.PointRead.{key_equality}
use Rattle.site.proofs.read_leaf.key_equality.Given as goal

-- no condition so far asks for a key
abbrev pub invariant-loop-cond : goal.invariant-loop-cond
invariant-loop-cond l = key_equality (drop l.cond-index l.conds) ≡ key_equality l.conds

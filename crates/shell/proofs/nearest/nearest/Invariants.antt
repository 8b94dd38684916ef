use Rattle.shell.proofs.NearestLemmas.{IsBestSoFar}
use Rattle.shell.proofs.nearest.nearest.Given as goal

-- what is found is the nearest of the names so far
abbrev pub invariant-loop-name : goal.invariant-loop-name
invariant-loop-name l = IsBestSoFar l.word l.names l.name-index l.limit l.found

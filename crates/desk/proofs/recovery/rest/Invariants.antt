-- What each round of `starting::rest` keeps.
use Rattle.std.proofs.Common.{◌≡◌, [], drop}
use Rattle.desk.specs.Recovery.{stood_by}
use Rattle.desk.proofs.recovery.rest.Given as goal

-- the rest of the rows, beside those that stand, are all
abbrev pub invariant-loop-row : goal.invariant-loop-row
invariant-loop-row l = stood_by (drop l.row-index l.rows) l.standings.entries ≡ stood_by l.rows []

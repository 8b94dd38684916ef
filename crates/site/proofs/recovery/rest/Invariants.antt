-- The rest of the rows, from what the earlier ones made, is all of them.
use Rattle.std.proofs.Common.{◌≡◌, [], map, drop}
use Rattle.site.specs.Locks.{free}
use Rattle.site.specs.Recovery.{granted, stood_by, all_may_stand}
use Rattle.site.proofs.recovery.rest.Given as goal

abbrev pub invariant-loop-row : goal.invariant-loop-row
invariant-loop-row l =
    (granted (drop l.row-index l.rows) l.locks.items ≡ granted l.rows (map free l.leaves))
    × (stood_by (drop l.row-index l.rows) l.standings ≡ stood_by l.rows [])
    × (all_may_stand l.leaves l.life (drop l.row-index l.rows) l.locks.items ≡ all_may_stand l.leaves l.life l.rows (map free l.leaves))

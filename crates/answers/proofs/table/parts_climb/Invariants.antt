-- What each round of `table::parts_climb` keeps.
use Rattle.std.proofs.Common.{◌≡◌, None, drop}
use Rattle.answers.specs.Evaluated.{parts_climb}
use Rattle.answers.proofs.table.parts_climb.Given as goal

-- whether the rest climbs on is whether all climb
abbrev pub invariant-loop-part : goal.invariant-loop-part
invariant-loop-part l = parts_climb l.width l.last (drop l.part-index l.parts) ≡ parts_climb l.width None l.parts

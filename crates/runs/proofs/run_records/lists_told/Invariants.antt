use Rattle.std.proofs.Common.{◌≡◌, take}
use Rattle.history.specs.Picks.{rows_of}
use Rattle.runs.specs.Run.{lists_told}
use Rattle.runs.proofs.run_records.lists_told.Given as goal

abbrev pub invariant-loop-one : goal.invariant-loop-one
invariant-loop-one l = rows_of l.lists.items ≡ lists_told (take l.one-index l.conversations)

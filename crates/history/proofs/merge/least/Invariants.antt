-- What was found is the least of the rows so far.
use Rattle.std.proofs.Common.{take}
use Rattle.std.specs.Option.{option_map}
use Rattle.history.specs.Picks.{IsLeastOf, act_of, rows_of}
use Rattle.history.proofs.merge.least.Given as goal

abbrev pub invariant-loop-cell : goal.invariant-loop-cell
invariant-loop-cell g l = IsLeastOf g.T.Numbered.number (take l.cell (rows_of l.rows)) (option_map act_of l.found)

use Rattle.std.proofs.Common.{take}
use Rattle.lines.specs.PlayLoad.{LoadsAll}
use Rattle.lines.proofs.play_load.load_all.Given as goal

abbrev pub invariant-loop-placed : goal.invariant-loop-placed
invariant-loop-placed l = LoadsAll l.schema.relations (take l.placed-index l.items) l.initial.whole l.whole

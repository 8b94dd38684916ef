use Rattle.std.proofs.Common.{take}
use Rattle.commands.specs.Import.{Comes, inserts_from}
use Rattle.commands.proofs.ImportCounts.{IsSoFar}
use Rattle.commands.proofs.import.import.Given as goal

abbrev pub invariant-loop-number : goal.invariant-loop-number
invariant-loop-number g l = Comes g.B.Database.seen (inserts_from l.many l.relation.name 0 (take l.number l.rows)) l.initial.database l.database × IsSoFar l.many l.relation.name l.rows l.number l.committed

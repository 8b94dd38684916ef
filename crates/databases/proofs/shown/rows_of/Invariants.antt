use Rattle.std.proofs.Common.{◌≡◌, take}
use Rattle.databases.proofs.shown.rows_of.Given as goal

abbrev pub invariant-loop-part : goal.invariant-loop-part
invariant-loop-part l = l.rows.items ≡ take l.part-index l.parts

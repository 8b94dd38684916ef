use Rattle.std.proofs.Common.{◌≡◌, take}
use Rattle.catalog.specs.Parts.{named}
use Rattle.catalog.proofs.parts.named.Given as goal

abbrev pub invariant-loop-group : goal.invariant-loop-group
invariant-loop-group l = l.columns.items ≡ named (take l.group-index l.groups)

use Rattle.std.proofs.Common.{◌≡◌, map, take}
use Rattle.databases.proofs.opened.open_next.Given as goal

abbrev pub invariant-loop-file : goal.invariant-loop-file
invariant-loop-file l = map (λ source. source.file.now) l.sources.items ≡ map (λ file. file.now) (take l.file-index l.next)

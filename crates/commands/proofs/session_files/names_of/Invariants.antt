use Rattle.std.proofs.Common.{◌≡◌, ◌∷◌, map, take}
use Rattle.commands.proofs.session_files.names_of.Given as goal

abbrev pub invariant-loop-source : goal.invariant-loop-source
invariant-loop-source g l = map (λ name. name.now) l.names.items ≡ l.fn.first ∷ map (λ source. source.file.now) (take l.source-index l.next)

-- What each round of `separated::put_separated` keeps.
use Rattle.std.proofs.Common.{◌≡◌, ◌++◌, take, string_bytes}
use Rattle.std.specs.List.{flat_map}
use Rattle.reader.proofs.separated.put_separated.Given as goal

abbrev pub invariant-loop-item : goal.invariant-loop-item
invariant-loop-item g l = string_bytes l.out ≡ string_bytes l.initial.out ++ flat_map (λ y. l.separator ++ g.P.Printer.bytes l.printer y) (take l.item-index l.others)

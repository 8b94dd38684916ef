use Rattle.std.proofs.Common.{◌≡◌, ◌++◌, ◌∷◌, [], string_bytes, take}
use Rattle.std.specs.List.{flat_map}
use Rattle.lines.specs.Cast.{name_of}
use Rattle.databases.proofs.shown.put_names.Given as goal

abbrev pub invariant-loop-one : goal.invariant-loop-one
invariant-loop-one l = string_bytes l.out ≡ string_bytes l.initial.out ++ flat_map (λ one. name_of l.cast one.txn ++ 10 ∷ []) (take l.one-index l.all)

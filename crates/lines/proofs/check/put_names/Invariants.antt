use Rattle.std.proofs.Common.{◌≡◌, ◌++◌, codes, string_bytes, take}
use Rattle.std.specs.List.{flat_map}
use Rattle.reader.specs.Written.{name_in}
use Rattle.lines.specs.Check.{names_of_columns}
use Rattle.lines.proofs.check.put_names.Given as goal

abbrev pub invariant-loop-place : goal.invariant-loop-place
invariant-loop-place l =
    string_bytes l.out ≡ string_bytes l.initial.out ++ flat_map (λ place. codes ", " ++ name_in (names_of_columns l.columns) place) (take l.place-index l.others)

use Rattle.std.proofs.Common.{◌≡◌, ◌++◌, codes, string_bytes, take}
use Rattle.std.specs.List.{flat_map}
use Rattle.lines.specs.Listing.{column_text}
use Rattle.lines.proofs.listing.put_columns.Given as goal

abbrev pub invariant-loop-column : goal.invariant-loop-column
invariant-loop-column l =
    string_bytes l.out ≡ string_bytes l.initial.out ++ flat_map (λ column. codes ", " ++ column_text column) (take l.column-index l.others)

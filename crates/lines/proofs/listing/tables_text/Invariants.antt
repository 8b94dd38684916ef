use Rattle.std.proofs.Common.{◌≡◌, ◌++◌, ◌∷◌, [], string_bytes, take}
use Rattle.std.specs.List.{flat_map}
use Rattle.lines.proofs.listing.tables_text.Given as goal

abbrev pub invariant-loop-relation : goal.invariant-loop-relation
invariant-loop-relation l = string_bytes l.text ≡ flat_map (λ relation. relation.name ++ 10 ∷ []) (take l.relation-index l.relation-items)

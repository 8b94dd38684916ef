use Rattle.std.proofs.Common.{◌≡◌, string_bytes, take}
use Rattle.std.specs.List.{flat_map}
use Rattle.lines.specs.Listing.{is_asked, schema_line, where_asked}
use Rattle.lines.proofs.listing.schema_text.Given as goal

abbrev pub invariant-loop-relation : goal.invariant-loop-relation
invariant-loop-relation l = string_bytes l.text ≡ flat_map (λ relation. where_asked (is_asked l.asked relation.name) (schema_line relation)) (take l.relation-index l.relation-items)

-- What each round of `plan_text::planned` keeps.
use Rattle.std.proofs.Common.{◌≡◌, string_bytes, take}
use Rattle.std.specs.List.{flat_map}
use Rattle.catalog.specs.Relation.{catalogue_of}
use Rattle.lines.specs.Plan.{fetch_line}
use Rattle.lines.proofs.plan_text.planned.Given as goal

-- the text has the lines of the fetches so far
abbrev pub invariant-loop-fetch : goal.invariant-loop-fetch
invariant-loop-fetch l = string_bytes l.text ≡ flat_map (fetch_line (catalogue_of l.catalog)) (take l.fetch-index l.fetch-items)

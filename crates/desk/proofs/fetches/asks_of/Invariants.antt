-- What each round of `homes::asks_of` keeps.
use Rattle.std.proofs.Common.{◌≡◌, ◌++◌, map, drop}
use Rattle.catalog.specs.Relation.{catalogue_of}
use Rattle.desk.specs.Planned.{ask_from}
use Rattle.desk.proofs.fetches.asks_of.Given as goal

-- the fetches so far, and those of the rest, are all
abbrev pub invariant-loop-fetch : goal.invariant-loop-fetch
invariant-loop-fetch l = l.asks.items ++ map (ask_from (catalogue_of l.catalog)) (drop l.fetch-index l.fetches) ≡ map (ask_from (catalogue_of l.catalog)) l.fetches

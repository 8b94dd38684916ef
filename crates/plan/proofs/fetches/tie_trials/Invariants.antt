-- What each round of `fetches::tie_trials` keeps.
use Rattle.std.proofs.Common.{◌≡◌, ◌++◌, drop, map}
use Rattle.std.specs.List.{AllByRecursion, filter_map}
use Rattle.catalog.specs.Relation.{catalogue_of}
use Rattle.plan.specs.Picked.{TieFits, tie_trial}
use Rattle.plan.specs.Stated.{tie_of, ties_of}
use Rattle.plan.proofs.fetches.tie_trials.Given as goal

-- the trials so far, and those that the rest of the ONs gives, are those that all give; the ONs of the rest fit
abbrev pub invariant-loop-link : goal.invariant-loop-link
invariant-loop-link l = record {
  found : l.trials.items ++ map (tie_trial (catalogue_of l.catalog) l.need) (filter_map (tie_of l.needs.relations l.number) (drop l.link-index l.needs.links)) ≡ map (tie_trial (catalogue_of l.catalog) l.need) (ties_of l.needs l.number);
  fit : AllByRecursion (TieFits (catalogue_of l.catalog) l.need) (filter_map (tie_of l.needs.relations l.number) (drop l.link-index l.needs.links));
}

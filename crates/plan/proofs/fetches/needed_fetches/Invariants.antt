-- What each round of `fetches::needed_fetches` keeps.
use Rattle.std.proofs.Common.{◌≡◌, ◌++◌, drop}
use Rattle.catalog.specs.Relation.{catalogue_of}
use Rattle.plan.specs.Picked.{fetches_for, fetches_from}
use Rattle.plan.proofs.fetches.needed_fetches.Given as goal

-- the fetches so far, and those of the rest of the needs, are those of all
abbrev pub invariant-loop-number : goal.invariant-loop-number
invariant-loop-number l = l.fetches.items ++ fetches_from (catalogue_of l.catalog) l.needs l.number (drop l.number l.needs.relations) ≡ fetches_for (catalogue_of l.catalog) l.needs

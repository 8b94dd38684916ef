-- What each round of `start_sites` keeps.
use Rattle.std.proofs.Common.{take}
use Rattle.std.specs.List.{AllByRecursion}
use Rattle.catalog.specs.Relation.{catalogue_of}
use Rattle.store.specs.PlainSite.{IsSound, kept_of}
use Rattle.world.specs.Start.{AllStarted}
use Rattle.world.specs.Seated.{seats_in}
use Rattle.world.proofs.start.start_sites.Given as goal

-- the sites of the first names have started
abbrev pub invariant-loop-place : goal.invariant-loop-place
invariant-loop-place l = record {
  started : AllStarted (catalogue_of l.catalog) l.whole 0 (take l.place l.names) (seats_in kept_of l.sites.items);
  sound : AllByRecursion (λ site. IsSound site.store) l.sites.items;
}

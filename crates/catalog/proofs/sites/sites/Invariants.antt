use Rattle.std.proofs.Common.{◌≡◌, map, take}
use Rattle.std.specs.List.{AllByRecursion}
use Rattle.reader.specs.Printable.{AreDistinct}
use Rattle.catalog.specs.Catalogue.{IsSiteName}
use Rattle.catalog.proofs.sites.sites.Given as goal

-- the sites so far are those of the texts so far, each a new name
abbrev pub invariant-loop-text : goal.invariant-loop-text
invariant-loop-text l = record {
  found : l.sites.items ≡ map (λ text. text.now) (take l.text-index l.texts);
  names : AllByRecursion IsSiteName l.sites.items;
  distinct : AreDistinct l.sites.items;
}

-- Why `open` may start its sites.
use Rattle.std.proofs.Common.{ap, length, ◌∙◌, map}
use Rattle.catalog.specs.Relation.{catalogue_of}
use Rattle.world.specs.Chain.{sites_of}
use Rattle.wire.proofs.database.Database.open.Goals as goal

pub site_cells-requires : goal.site_cells-requires
site_cells-requires g c =
    let first = c.first_of-first.ensures in
    record {
      one_each = c.requires.one_each ∙ ap (λ chain. length (sites_of chain)) first.1;
      leaves = c.requires.leaves (catalogue_of c.first_of-first.result.now) (map catalogue_of first.0) (ap (map catalogue_of) first.1);
    }

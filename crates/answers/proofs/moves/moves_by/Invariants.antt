-- What each round of `moves::moves_by` keeps.
use Rattle.std.proofs.Common.{◌≡◌, ◌++◌, drop, flat_map}
use Rattle.catalog.specs.Relation.{catalogue_of}
use Rattle.answers.specs.Moved.{site_moves}
use Rattle.answers.proofs.moves.moves_by.Given as goal

abbrev pub invariant-loop-site : goal.invariant-loop-site
invariant-loop-site l =
    l.moves.items ++ flat_map (site_moves (catalogue_of l.old) (catalogue_of l.new) l.relation l.rows) (drop l.site-index l.sites)
    ≡ flat_map (site_moves (catalogue_of l.old) (catalogue_of l.new) l.relation l.rows) l.sites

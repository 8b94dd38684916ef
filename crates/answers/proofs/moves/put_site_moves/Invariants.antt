-- What each round of `moves::put_site_moves` keeps.
use Rattle.std.proofs.Common.{◌++◌, flat_map}
use Rattle.catalog.specs.Relation.{catalogue_of}
use Rattle.answers.specs.Moved.{rows_moved}
use Rattle.answers.specs.Moves.{leaf_numbered, numbers}
use Rattle.answers.proofs.Numbered.{LeavesRest}
use Rattle.answers.proofs.moves.put_site_moves.Given as goal

abbrev pub invariant-loop-number : goal.invariant-loop-number
invariant-loop-number l =
    LeavesRest (λ number. rows_moved (catalogue_of l.old) (catalogue_of l.new) l.rows l.site (leaf_numbered l.relation number))
    (l.fn.moves.items ++ flat_map (λ number. rows_moved (catalogue_of l.old) (catalogue_of l.new) l.rows l.site (leaf_numbered l.relation number)) numbers) l.moves.items l.number

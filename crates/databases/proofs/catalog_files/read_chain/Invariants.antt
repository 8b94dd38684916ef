-- What each round of `read_chain` keeps: whatever the other sources come to behind the catalogues so far, all come to behind the first one.
use Rattle.std.proofs.Common.{◌≡◌, ◌∷◌, [], ℕ, List, Result, length, map}
use Rattle.std.specs.Vec.Iter.{into_iter_items, into_iter_len}
use Rattle.catalog.specs.declared.relation.SplitRelation.{SplitRelation}
use Rattle.catalog.specs.Relation.{catalogue_of}
use Rattle.databases.specs.declared.catalog_files.ChainFault.{ChainFault}
use Rattle.databases.specs.CatalogFiles.{GivesChain}
use Rattle.databases.proofs.catalog_files.read_chain.Given as goal

abbrev pub invariant-loop-source : goal.invariant-loop-source
invariant-loop-source g l =
    (into_iter_len l.source-iterator ≡ length (into_iter_items l.source-iterator)) ×
    ((result : Result (List (List (List ℕ) × List SplitRelation)) ChainFault) → GivesChain g.C.Read.remaining (map catalogue_of l.catalogs.items) (into_iter_items l.source-iterator) result → GivesChain g.C.Read.remaining (catalogue_of l.fn.first ∷ []) l.fn.next.items result)

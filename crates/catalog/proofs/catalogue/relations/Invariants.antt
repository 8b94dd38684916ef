use Rattle.std.proofs.Common.{◌≡◌, List, ◌++◌, map}
use Rattle.std.specs.List.{AllByRecursion}
use Rattle.toml.specs.View.{members_view}
use Rattle.catalog.specs.Catalogue.{IsRelationIn, IsValidRelation, entries}
use Rattle.catalog.specs.Describes.{Each}
use Rattle.catalog.specs.Relation.{relation_of}
use Rattle.catalog.proofs.Entries.{Entry}
use Rattle.catalog.proofs.catalogue.relations.Given as goal

-- the relations so far are those of the entries so far, and are valid
abbrev pub invariant-loop-name : goal.invariant-loop-name
invariant-loop-name l =
    (done : List Entry) × (l.table.entries ≡ done ++ l.name-iterator) × Each (IsRelationIn l.sites) (entries (members_view done)) (map relation_of l.relations.items) × AllByRecursion IsValidRelation (map relation_of l.relations.items)

use Rattle.std.proofs.Common.{◌≡◌, List, ◌++◌, ℕ, drop, map}
use Rattle.toml.specs.View.{view}
use Rattle.catalog.specs.Breaks.{texts_before}
use Rattle.catalog.specs.Catalogue.{IsColumnText}
use Rattle.catalog.specs.Describes.{Each}
use Rattle.catalog.proofs.column_texts.broken_columns.Given as goal

-- the columns so far are those of the texts so far
abbrev pub invariant-loop-item : goal.invariant-loop-item
invariant-loop-item l =
    (texts : List (List ℕ)) × (texts_before (map view l.items) ≡ texts ++ texts_before (map view (drop l.item-index l.items))) × Each IsColumnText texts l.columns.items

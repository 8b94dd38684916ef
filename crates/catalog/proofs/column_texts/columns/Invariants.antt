use Rattle.std.proofs.Common.{map, take}
use Rattle.reader.specs.Printable.{AreDistinct}
use Rattle.catalog.specs.Catalogue.{IsColumnText}
use Rattle.catalog.specs.Describes.{Each}
use Rattle.catalog.proofs.column_texts.columns.Given as goal

-- the columns so far are those of the texts so far, each of a new name
abbrev pub invariant-loop-text : goal.invariant-loop-text
invariant-loop-text l = record {
  each : Each IsColumnText (map (λ text. text.now) (take l.text-index l.texts)) l.columns.items;
  distinct : AreDistinct (map (λ column. column.name) l.columns.items);
}

use Rattle.std.proofs.Common.{◌≡◌, Some, map, take}
use Rattle.reader.specs.Names.{all_of}
use Rattle.toml.specs.Data.{as_str}
use Rattle.toml.specs.View.{view}
use Rattle.catalog.specs.Form.{texts_of}
use Rattle.catalog.proofs.form.all_texts.Given as goal

-- the texts so far are those of the items so far
abbrev pub invariant-loop-item : goal.invariant-loop-item
invariant-loop-item l = all_of as_str (map view (take l.item-index l.items)) ≡ Some (texts_of l.texts)

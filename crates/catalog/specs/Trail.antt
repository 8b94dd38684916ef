-- Items of the lists of a document.
use Rattle.std.specs.Prelude.{ℕ, List, codes}
use Rattle.catalog.specs.declared.trail.ListItem.{ListItem}
use Rattle.catalog.specs.declared.trail.ListItem.TheVariants.{Site, Column, Branch, Group}

-- the key at which an item's list stands
abbrev pub item_key : ListItem → List ℕ
item_key (Site index) = codes "sites"
item_key (Column index) = codes "columns"
item_key (Branch index) = codes "rows"
item_key (Group index) = codes "cols"

-- an item's index in its list
abbrev pub item_index : ListItem → ℕ
item_index (Site index) = index
item_index (Column index) = index
item_index (Branch index) = index
item_index (Group index) = index

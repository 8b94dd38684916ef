-- A reader may skip this: moves as the code makes them, row by row.
use Rattle.std.specs.Prelude.{ℕ, List, Option, Some, None, flat_map, option_map}
use Rattle.std.specs.List.{filter_map}
use Rattle.terms.specs.declared.leaf.Leaf.{Leaf}
use Rattle.terms.specs.declared.value.Value.{Value}
use Rattle.terms.specs.Row.{key_of}
use Rattle.catalog.specs.declared.fragment_leaf.FragmentLeaf.{FragmentLeaf}
use Rattle.catalog.specs.Catalogue.{Catalogue}
use Rattle.catalog.specs.Fragment.{part}
use Rattle.catalog.specs.FragmentLeaf.{unnamed}
use Rattle.answers.specs.declared.moves.Move.{Move}
use Rattle.answers.specs.Moves.{at_site, leaf_numbered, leaf_there, numbers}
use Rattle.answers.specs.Writes.{write_between}

-- a row's part in a leaf, if there is a leaf
abbrev pub part_held : Option FragmentLeaf → List Value → Option (List Value)
part_held None row = None
part_held (Some leaf) row = part (unnamed leaf) row

-- the move of a row at a place, from one leaf to another
abbrev pub row_move : List ℕ → Leaf → Option FragmentLeaf → Option FragmentLeaf → List Value → Option Move
row_move site name before after row = option_map (at_site site) (write_between name (key_of row) (part_held before row) (part_held after row))

-- the moves of rows at a place
abbrev pub rows_moved : Catalogue → Catalogue → List (List Value) → List ℕ → Leaf → List Move
rows_moved old new rows site name = filter_map (row_move site name (leaf_there old site name) (leaf_there new site name)) rows

-- the moves at a site, number by number
abbrev pub site_moves : Catalogue → Catalogue → List ℕ → List (List Value) → List ℕ → List Move
site_moves old new relation rows site = flat_map (λ number. rows_moved old new rows site (leaf_numbered relation number)) numbers

-- all moves, site by site
abbrev pub moves_by : Catalogue → Catalogue → List ℕ → List (List Value) → List Move
moves_by old new relation rows = flat_map (site_moves old new relation rows) old.sites

-- What each round of `conditions::listed_places` keeps.
use Rattle.std.proofs.Common.{◌≡◌, ◌≤◌, Some, map, take, vec_len}
use Rattle.reader.specs.Names.{all_of, place_in}
use Rattle.reader.specs.Tree.{column_tree}
use Rattle.reader.proofs.conditions.listed_places.Given as goal

-- the places found are those of the columns so far
abbrev pub invariant-loop-column : goal.invariant-loop-column
invariant-loop-column l = record {
  found : all_of (place_in l.scope) (map column_tree (take l.column-index l.columns)) ≡ Some l.places.items;
  count : vec_len l.places ≡ l.column-index;
  few : l.column-index ≤ 32;
}

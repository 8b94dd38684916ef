-- What each round of `scope::find_among` keeps.
use Rattle.std.proofs.Common.{◌≡◌, ◌+◌, ◌∷◌, drop, length, map}
use Rattle.reader.specs.Scope.{table_of, types_in, and_others, all_found}
use Rattle.reader.specs.Tree.{column_tree}
use Rattle.reader.proofs.scope.find_among.Given as goal

-- the column found so far and those of the tables that are left are all that are found; so are the columns counted
abbrev pub invariant-loop-table : goal.invariant-loop-table
invariant-loop-table l = record {
  found : and_others l.only (all_found l.before (map table_of (drop l.table-index l.others)) (column_tree l.column)) ≡ all_found 0 (table_of l.first ∷ map table_of l.others) (column_tree l.column);
  counted : l.before + length (types_in (map table_of (drop l.table-index l.others))) ≡ length (types_in (table_of l.first ∷ map table_of l.others));
}

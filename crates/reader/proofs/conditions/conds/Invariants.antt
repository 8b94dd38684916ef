-- What each round of `conditions::conds` keeps.
use Rattle.std.proofs.Common.{◌≡◌, ◌≤◌, Some, map, take, vec_len}
use Rattle.reader.specs.Names.{all_of, cond_of}
use Rattle.reader.specs.Tree.{condition_tree}
use Rattle.reader.proofs.conditions.conds.Given as goal

-- the conditions so far are those that were written so far
abbrev pub invariant-loop-condition : goal.invariant-loop-condition
invariant-loop-condition l = record {
  found : all_of (cond_of l.scope) (map condition_tree (take l.condition-index l.conditions)) ≡ Some l.conds.items;
  count : vec_len l.conds ≡ l.condition-index;
  few : l.condition-index ≤ 8;
}

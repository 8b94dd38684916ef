-- What each round of `assignments::assignments` keeps.
use Rattle.std.proofs.Common.{◌≡◌, true, Some, map, take}
use Rattle.reader.specs.Names.{all_of, assignment_of, are_apart}
use Rattle.reader.specs.Tree as tree
use Rattle.reader.proofs.assignments.assignments.Given as goal

-- the assignments so far are those that were written so far, each to a column of its own
abbrev pub invariant-loop-assignment : goal.invariant-loop-assignment
invariant-loop-assignment l = record {
  found : all_of (assignment_of l.columns) (map tree.assignment_tree (take l.assignment-index l.written)) ≡ Some l.sets.items;
  apart : are_apart l.sets.items ≡ true;
}

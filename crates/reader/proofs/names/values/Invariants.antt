-- What each round of `names::values` keeps.
use Rattle.std.proofs.Common.{◌≡◌, Some, map, take}
use Rattle.reader.specs.Names.{row_of}
use Rattle.reader.specs.Tree.{constant_tree}
use Rattle.reader.proofs.names.values.Given as goal

-- the values so far are those of the constants so far
abbrev pub invariant-loop-place : goal.invariant-loop-place
invariant-loop-place l = row_of (map (λ c. c.kind) (take l.place l.columns)) (map constant_tree (take l.place l.constants)) ≡ Some l.values.items

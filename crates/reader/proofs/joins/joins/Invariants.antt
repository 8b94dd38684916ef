-- What each round of `joins::joins` keeps.
use Rattle.std.proofs.Common.{◌≡◌, Some, map, take}
use Rattle.reader.specs.Names.{all_of, joined_of, join_of}
use Rattle.reader.proofs.joins.joins.Given as goal

-- the joins so far are those of the relations so far
abbrev pub invariant-loop-joined : goal.invariant-loop-joined
invariant-loop-joined l = all_of (join_of l.scope) (map joined_of (take l.joined-index l.joined)) ≡ Some l.joins.items

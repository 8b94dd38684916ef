-- What each round of `joins::scope_of_joined` keeps.
use Rattle.std.proofs.Common.{◌≡◌, map, take}
use Rattle.reader.specs.Names.{joined_of, joined_relations}
use Rattle.reader.proofs.joins.scope_of_joined.Given as goal

-- the scope so far is that of the relations so far
abbrev pub invariant-loop-joined : goal.invariant-loop-joined
invariant-loop-joined l = l.scope ≡ joined_relations l.from (map joined_of (take l.joined-index l.joined))

-- What each round of `select::joined_names` keeps.
use Rattle.std.proofs.Common.{◌≡◌, ◌++◌, drop, flat_map}
use Rattle.meaning.specs.Selected.{names_joined, qualified}
use Rattle.meaning.proofs.select.joined_names.Given as goal

-- the names so far and those of the relations that are left are those of all
abbrev pub invariant-loop-join : goal.invariant-loop-join
invariant-loop-join l = l.names.items ++ flat_map (λ join. qualified join.relation) (drop l.join-index l.joins) ≡ names_joined l.from l.joins

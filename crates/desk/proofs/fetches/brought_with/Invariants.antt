-- What each round of `brought_with` keeps.
use Rattle.std.proofs.Common.{◌≡◌, ◌++◌, map, drop}
use Rattle.desk.specs.Fetches.{fetched_with}
use Rattle.desk.proofs.fetches.brought_with.Given as goal

-- what was brought so far, and by the rest, is all
abbrev pub invariant-loop-ask : goal.invariant-loop-ask
invariant-loop-ask l = l.fetched.items ++ map (fetched_with l.rows.parts) (drop l.ask-index l.asks) ≡ map (fetched_with l.rows.parts) l.asks

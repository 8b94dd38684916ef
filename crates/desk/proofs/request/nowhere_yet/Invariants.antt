-- What each round of `calls::nowhere_yet` keeps.
use Rattle.std.proofs.Common.{◌≡◌, ◌++◌, drop}
use Rattle.desk.specs.Begun.{nowhere_yet}
use Rattle.desk.proofs.request.nowhere_yet.Given as goal

-- the participants so far, and those of the rest, are all
abbrev pub invariant-loop-site : goal.invariant-loop-site
invariant-loop-site l = l.participants.items ++ nowhere_yet (drop l.site-index l.sites) ≡ nowhere_yet l.sites

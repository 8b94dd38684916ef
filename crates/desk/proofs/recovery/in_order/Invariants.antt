-- What each round of `recovery::in_order` keeps.
use Rattle.std.proofs.Common.{◌≡◌, ◌++◌, drop}
use Rattle.desk.specs.Recovery.{in_order}
use Rattle.desk.proofs.recovery.in_order.Given as goal

-- the voters so far, and those of the rest of the sites, are all
abbrev pub invariant-loop-site : goal.invariant-loop-site
invariant-loop-site l = l.ordered.items ++ in_order (drop l.site-index l.sites) l.voters ≡ in_order l.sites l.voters

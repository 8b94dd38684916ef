-- What each round of `listing::named` keeps.
use Rattle.std.proofs.Common.{◌≡◌, drop}
use Rattle.sqlstore.specs.Content.{leaf_named}
use Rattle.sqlstore.proofs.listing.named.Given as goal

-- the leaf is to be found among those that are left
abbrev pub invariant-loop-leaf : goal.invariant-loop-leaf
invariant-loop-leaf l = leaf_named (drop l.leaf-index l.leaves) l.name ≡ leaf_named l.leaves l.name

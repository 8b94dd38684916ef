use Rattle.std.proofs.Common.{◌≡◌, ◌++◌, drop}
use Rattle.catalog.specs.Describes.{in_order}
use Rattle.catalog.proofs.frame.in_order.Given as goal

-- the columns so far and those of the ones that are left are those of all
abbrev pub invariant-loop-place : goal.invariant-loop-place
invariant-loop-place l = l.columns.items ++ in_order (drop l.place-index l.within) l.named ≡ in_order l.within l.named

use Rattle.std.proofs.Common.{◌≡◌, length}
use Rattle.runs.proofs.store_opener.plain_sites.Given as goal

abbrev pub invariant-loop-place : goal.invariant-loop-place
invariant-loop-place l = length l.sites.items ≡ l._place

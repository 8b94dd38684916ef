-- What each round of `plain_sites` keeps.
use Rattle.std.proofs.Common.{◌≡◌, length}
use Rattle.thread_tests.proofs.site_stores.plain_sites.Given as goal

-- a store for each place so far
abbrev pub invariant-loop-place : goal.invariant-loop-place
invariant-loop-place l = length l.sites.items ≡ l._place

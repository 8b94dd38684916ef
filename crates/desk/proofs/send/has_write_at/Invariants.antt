-- What each round of `has_write_at` keeps.
use Rattle.std.proofs.Common.{◌≡◌, nat_eq, drop}
use Rattle.std.specs.Cmp.Lexicographic.{pointwise}
use Rattle.std.specs.List.{list_any}
use Rattle.desk.specs.Statement.{write_sites}
use Rattle.desk.proofs.send.has_write_at.Given as goal

-- it is among the sites of the rest, if at all
abbrev pub invariant-loop-unsent : goal.invariant-loop-unsent
invariant-loop-unsent l = list_any (λ other. pointwise nat_eq other l.site) (write_sites (drop l.unsent-index l.writes)) ≡ list_any (λ other. pointwise nat_eq other l.site) (write_sites l.writes)

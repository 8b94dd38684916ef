-- What each round of `has_ask_at` keeps.
use Rattle.std.proofs.Common.{◌≡◌, nat_eq, drop}
use Rattle.std.specs.Cmp.Lexicographic.{pointwise}
use Rattle.std.specs.List.{list_any}
use Rattle.desk.specs.Statement.{ask_sites}
use Rattle.desk.proofs.send.has_ask_at.Given as goal

-- it is among the sites of the rest, if at all
abbrev pub invariant-loop-ask : goal.invariant-loop-ask
invariant-loop-ask l = list_any (λ other. pointwise nat_eq other l.site) (ask_sites (drop l.ask-index l.asks)) ≡ list_any (λ other. pointwise nat_eq other l.site) (ask_sites l.asks)

-- What each round of `opening::is_among` keeps.
use Rattle.std.proofs.Common.{◌≡◌, nat_eq, drop}
use Rattle.std.specs.Cmp.Lexicographic.{pointwise}
use Rattle.std.specs.List.{list_any}
use Rattle.desk.proofs.send.is_among.Given as goal

-- it is among the rest, if at all
abbrev pub invariant-loop-other : goal.invariant-loop-other
invariant-loop-other l = list_any (λ other. pointwise nat_eq other l.site) (drop l.other-index l.sites) ≡ list_any (λ other. pointwise nat_eq other l.site) l.sites

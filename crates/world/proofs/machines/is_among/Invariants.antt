-- What each round of `is_among` keeps.
use Rattle.std.proofs.Common.{◌≡◌, nat_eq, drop}
use Rattle.std.specs.Cmp.Lexicographic.{pointwise}
use Rattle.std.specs.List.{list_any}
use Rattle.world.proofs.machines.is_among.Given as goal

-- it is among the rest, if at all
abbrev pub invariant-loop-site : goal.invariant-loop-site
invariant-loop-site l = list_any (λ site. pointwise nat_eq site l.name) (drop l.site-index l.sites) ≡ list_any (λ site. pointwise nat_eq site l.name) l.sites

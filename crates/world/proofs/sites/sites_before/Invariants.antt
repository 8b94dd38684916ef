-- What each round of `sites_before` keeps.
use Rattle.std.proofs.Common.{◌≡◌, ◌<◌, ℕ, false, get_or}
use Rattle.site.specs.declared.site.Site.{Site}
use Rattle.world.specs.Seated.{seat_from}
use Rattle.world.specs.Sites.{is_called}
use Rattle.world.proofs.sites.sites_before.Given as goal

-- no site before has the name
abbrev pub invariant-loop-place : goal.invariant-loop-place
invariant-loop-place g l = (k : ℕ) (site : Site g.row.S.Denot) → k < l.place → is_called l.name (seat_from g.S.SiteStore.kept (get_or l.sites k site)) ≡ false

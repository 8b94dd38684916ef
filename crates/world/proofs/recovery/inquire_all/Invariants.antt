-- What each round of `inquire_all` keeps.
use Rattle.std.proofs.Common.{◌≡◌, ◌++◌, drop, map}
use Rattle.std.specs.List.{AllByRecursion}
use Rattle.protocol.specs.Letters.{letter_of}
use Rattle.world.specs.Seated.{seats_in}
use Rattle.world.specs.Sites.{IsSeated}
use Rattle.world.proofs.SitesUp.{inquiries_in}
use Rattle.world.proofs.recovery.inquire_all.Given as goal

-- with the inquiries of the rest there are those of all
abbrev pub invariant-loop-site : goal.invariant-loop-site
invariant-loop-site g l = AllByRecursion IsSeated (seats_in g.S.SiteStore.kept l.sites) →
    AllByRecursion IsSeated (seats_in g.S.SiteStore.kept (drop l.site-index l.sites))
    × (map letter_of l.letters.items ++ inquiries_in (seats_in g.S.SiteStore.kept (drop l.site-index l.sites)) ≡ map letter_of l.fn.letters.items ++ inquiries_in (seats_in g.S.SiteStore.kept l.sites))

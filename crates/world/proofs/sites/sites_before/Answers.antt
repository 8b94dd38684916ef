-- Why `sites_before` meets its contract.
use Rattle.std.proofs.Common.{◌≡◌, ◌∙◌, sym, subst, true, arith}
use Rattle.std.proofs.lemmas.List.Sums.{position_or_len_is}
use Rattle.site.specs.declared.site.Site.{Site}
use Rattle.world.specs.Seated.{seat_from}
use Rattle.world.specs.Sites.{is_called}
use Rattle.world.proofs.Around.{none_before}
use Rattle.world.proofs.sites.sites_before.Goals as goal

pub returns-then-is_called : goal.returns-then-is_called
returns-then-is_called g c =
    let has_name = λ (s : Site g.row.S.Denot). is_called c.args.name.now (seat_from g.S.SiteStore.kept s) in
    let site = c.index-sites-place.result in
    let here = subst (λ (s : Site g.row.S.Denot). is_called c.args.name.now (seat_from g.S.SiteStore.kept s) ≡ true) c.index-sites-place.is (sym c.is_called.ensures ∙ c.if-is_called.true) in
    sym (position_or_len_is has_name c.args.sites.now c.loop-place.place site (omega arith) (λ k. c.loop-place.invariant k site) (λ within. here))

pub returns : goal.returns
returns g c = none_before (λ (s : Site g.row.S.Denot). is_called c.args.name.now (seat_from g.S.SiteStore.kept s)) c.args.sites.now (λ k site within. c.loop-place.invariant k site (omega (arith, c.loop-place-test.false)))

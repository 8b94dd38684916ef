-- Why `act_among` meets its contract.
use Rattle.std.proofs.Common.{◌≡◌, ◌∙◌, sym, ap, subst, true, IfErr, inl, inr, ⊎_elim}
use Rattle.site.specs.Refusals.{AsksToKeep}
use Rattle.site.specs.declared.site.Site.{Site}
use Rattle.world.specs.declared.sites.SiteAction.{SiteAction}
use Rattle.world.specs.Counted.{counts_of}
use Rattle.world.specs.Reasons.{SiteTells}
use Rattle.world.specs.Seated.{place_of, seat_from, seats_in}
use Rattle.world.specs.Sites.{Seat, is_called, seat_of}
use Rattle.world.proofs.AmongSites as among
use Rattle.world.proofs.Counting.{no_fewer}
use Rattle.world.proofs.SiteSteps.{if_ok, on_err}
use Rattle.world.proofs.sites.act_among.Goals as goal

pub returns-in-Some : goal.returns-in-Some
returns-in-Some g c =
    let S = g.S.SiteStore in
    let content = S.kept in
    let what = c.args.what in
    let name = place_of what in
    let sites = c.args.sites.now.items in
    let place = c.sites_before-place.result in
    let site = c.in-Some.site.now in
    let new = c.act_on.new.site in
    let here = among.found content name c.site.result.now sites c.as_slice.result.now place c.site.ensures c.as_slice.ensures.value c.sites_before-place.ensures site c.in-Some.ensures.item.3.0 c.in-Some.ensures.value in
    let is_clean = λ (s : Site g.row.S.Denot). S.is_clean s.store in
    let is_sound = λ (s : Site g.row.S.Denot). S.is_sound s.store in
    let named = λ (w : SiteAction). is_called (place_of w) (seat_from content site) ≡ true in
    record {
      leaves = among.leaves content name sites place site new here S.is_clean S.is_sound S.refused c.act_on.ensures.leaves;
      blames = λ letter is made clean sound. among.stops content name sites place site new here c.act_on.result S.refused
          (c.act_on.ensures.blames letter is made (among.becomes content name sites place site new here is_clean clean) (among.was content name sites place site new here is_sound sound));
      vote = λ letter seat is there keeps.
          let same = among.same_seat content name sites place site new here seat (ap (λ (w : SiteAction). seat_of (place_of w) (seats_in content sites)) is ∙ there) in
          if_ok c.act_on.result (λ letters refuses none. ⊎_elim (λ unmade. inl unmade) (λ more. inr (among.refuses content name sites place site new here S.refused more)) (refuses none))
          (c.act_on.ensures.vote letter is (subst (λ (s : Seat). AsksToKeep s.table letter.body) (sym same) keeps));
      ok = λ seat clean sound seated there. among.does_among content (λ letters. letters.items) c.act_on.result what sites place site new here seat there
          (c.act_on.ensures.ok (among.becomes content name sites place site new here is_clean clean) (among.was content name sites place site new here is_sound sound) (among.was_seated content name sites place site new here seated));
      called = c.act_on.ensures.called;
      told = λ letter seat is there.
          let same = among.same_seat content name sites place site new here seat (ap (λ (w : SiteAction). seat_of (place_of w) (seats_in content sites)) is ∙ there) in
          subst (λ (s : Seat). IfErr c.act_on.result (SiteTells s letter)) same (c.act_on.ensures.told letter is (subst named is here.passes));
      fails = λ seat there. among.fails content name sites place site new here c.act_on.result S.is_clean S.is_sound S.refused what c.args.kept seat there c.act_on.ensures.fails;
      uncalled = λ none. among.maps content name sites place site new here (λ (s : Site g.row.S.Denot). s.store) (c.act_on.ensures.uncalled none);
      err = λ clean sound.
          let still = c.act_on.ensures.err (among.becomes content name sites place site new here is_clean clean) (among.was content name sites place site new here is_sound sound) in
          on_err c.act_on.result (λ same again. among.maps content name sites place site new here (seat_from content) same) still still;
    }

pub returns-in-None-clause-leaves : goal.returns-in-None-clause-leaves
returns-in-None-clause-leaves g c = record { clean = λ x. x; sound = λ x s. s; counts = no_fewer (counts_of g.S.SiteStore.refused c.args.sites.now.items) }

pub returns-in-None-clause-told : goal.returns-in-None-clause-told
returns-in-None-clause-told g c = λ letter seat is there.
    let content = g.S.SiteStore.kept in
    let sites = c.args.sites.now.items in
    let none = among.nowhere content (place_of c.args.what) c.site.result.now sites c.as_slice.result.now c.sites_before-place.result c.site.ensures c.as_slice.ensures.value c.sites_before-place.ensures c.in-None.ensures.item.3 in
    let some = ap (λ (w : SiteAction). seat_of (place_of w) (seats_in content sites)) is ∙ there in
    absurd cc

pub returns-in-None-clause-fails : goal.returns-in-None-clause-fails
returns-in-None-clause-fails g c = λ seat there.
    let content = g.S.SiteStore.kept in
    let sites = c.args.sites.now.items in
    let none = among.nowhere content (place_of c.args.what) c.site.result.now sites c.as_slice.result.now c.sites_before-place.result c.site.ensures c.as_slice.ensures.value c.sites_before-place.ensures c.in-None.ensures.item.3 in
    absurd cc

-- Why `apply_event_at` meets its contract.
use Rattle.world.proofs.Leaves.{leaves_still}
use Rattle.std.proofs.Common.{◌≡◌, ◌∙◌, sym, ap, subst, not, false, true, nat_eq, List, ℕ}
use Rattle.protocol.proofs.Basics.{clash}
use Rattle.std.specs.Cmp.Lexicographic.{pointwise}
use Rattle.std.specs.List.{list_any}
use Rattle.catalog.specs.Catalogue.{Catalogue}
use Rattle.world.specs.Contents.{OfStores, counted, held}
use Rattle.world.specs.Seated.{place_of}
use Rattle.world.proofs.Refusals.{nowhere_refused, place_refused}
use Rattle.world.proofs.Reasoned.{no_choice}
use Rattle.world.proofs.Seating.{seat_there}
use Rattle.world.proofs.ListRunning.{list_done_on}
use Rattle.world.proofs.Listing.{stands_same}
use Rattle.world.proofs.machines.apply_event_at.Goals as goal

pub returns-in-Ok-clause-nowhere : goal.returns-in-Ok-clause-nowhere
returns-in-Ok-clause-nowhere g c = λ none.
    let tested = sym c.has_site.ensures ∙ c.if-not-has_site.false in
    let found = subst (λ n. list_any (λ site. pointwise nat_eq site n) c.args.machines.now.desk.catalog.0 ≡ true) c.site.ensures (subst (λ x. list_any (λ site. pointwise nat_eq site c.site.result.now) x.0 ≡ true) c.catalog.ensures tested) in
    clash none (ap not found)

pub returns-in-Err-clause-nowhere : goal.returns-in-Err-clause-nowhere
returns-in-Err-clause-nowhere g c = λ none.
    let tested = sym c.has_site.ensures ∙ c.if-not-has_site.false in
    let found = subst (λ n. list_any (λ site. pointwise nat_eq site n) c.args.machines.now.desk.catalog.0 ≡ true) c.site.ensures (subst (λ x. list_any (λ site. pointwise nat_eq site c.site.result.now) x.0 ≡ true) c.catalog.ensures tested) in
    clash none (ap not found)

pub returns-in-Err-clause-refused : goal.returns-in-Err-clause-refused
returns-in-Err-clause-refused g c = λ db entries at of is fit here.
    let D = g.D.DeskStore in
    let S = g.S.SiteStore in
    let old = c.args.machines.now in
    let new = c.at_site.new.self in
    let name = place_of c.args.what in
    let among : List (List ℕ) → Type 0 = λ sites. list_any (λ site. pointwise nat_eq site name) sites ≡ true in
    let tested = sym c.has_site.ensures ∙ c.if-not-has_site.false in
    let found = subst (λ n. list_any (λ site. pointwise nat_eq site n) old.desk.catalog.0 ≡ true) c.site.ensures (subst (λ x. list_any (λ site. pointwise nat_eq site c.site.result.now) x.0 ≡ true) c.catalog.ensures tested) in
    let there = subst among (sym (of.sites _ ∙ ap (λ (x : Catalogue). x.sites) is)) found in
    let seat = seat_there name (held D.kept S.kept old).seats (subst among (sym fit.names) there) in
    place_refused (OfStores D.is_clean S.is_clean new × OfStores D.is_sound S.is_sound old) db (counted D.kept S.kept D.refused S.refused old) (counted D.kept S.kept D.refused S.refused new) entries c.args.what c.args.kept at seat.0 c.in-Err.fault here seat.1
    (c.in-Err.ensures.fails seat.0 seat.1)

pub returns-then-not-has_site-clause-leaves : goal.returns-then-not-has_site-clause-leaves
returns-then-not-has_site-clause-leaves g c = leaves_still g.D.DeskStore.is_clean g.S.SiteStore.is_clean g.D.DeskStore.is_sound g.S.SiteStore.is_sound g.D.DeskStore.refused g.S.SiteStore.refused c.args.machines.now

pub returns-then-not-has_site-clause-refused : goal.returns-then-not-has_site-clause-refused
returns-then-not-has_site-clause-refused g c = λ db entries at of is fit here.
    let D = g.D.DeskStore in
    let S = g.S.SiteStore in
    let old = c.args.machines.now in
    let tested = sym c.has_site.ensures ∙ c.if-not-has_site.true in
    let none = subst (λ n. list_any (λ site. pointwise nat_eq site n) old.desk.catalog.0 ≡ false) c.site.ensures (subst (λ x. list_any (λ site. pointwise nat_eq site c.site.result.now) x.0 ≡ false) c.catalog.ensures tested) in
    nowhere_refused (OfStores D.is_clean S.is_clean old × OfStores D.is_sound S.is_sound old) db (counted D.kept S.kept D.refused S.refused old) (counted D.kept S.kept D.refused S.refused old) entries old.desk.catalog.0 c.args.what c.args.kept at
    (of.sites _ ∙ ap (λ (x : Catalogue). x.sites) is) here (ap not none)

pub returns-in-Ok-clause-ok : goal.returns-in-Ok-clause-ok
returns-in-Ok-clause-ok g c = λ db whole entries at past of stands clean sound here so.
    let before = held g.D.DeskStore.kept g.S.SiteStore.kept c.args.machines.now in
    let after = held g.D.DeskStore.kept g.S.SiteStore.kept c.at_site.new.self in
    let name = place_of c.args.what in
    let among : List (List ℕ) → Type 0 = λ sites. list_any (λ site. pointwise nat_eq site name) sites ≡ true in
    let tested = sym c.has_site.ensures ∙ c.if-not-has_site.false in
    let found = subst (λ n. list_any (λ site. pointwise nat_eq site n) c.args.machines.now.desk.catalog.0 ≡ true) c.site.ensures (subst (λ x. list_any (λ site. pointwise nat_eq site c.site.result.now) x.0 ≡ true) c.catalog.ensures tested) in
    let there = subst among (sym (of.sites _ ∙ ap (λ (x : Catalogue). x.sites) stands.here)) found in
    let seat = seat_there name before.seats (subst among (sym so.fit.names) there) in (
      list_done_on db whole before after entries past c.args.what at c.args.kept c.in-Ok.out (no_choice db) here c.in-Ok.ensures.called there so (c.in-Ok.ensures.lists db (no_choice db) seat.0 clean sound so.fit seat.1),
      stands_same db c.args.machines.now.desk c.at_site.new.self.desk c.at_site.ensures.desk stands,
    )

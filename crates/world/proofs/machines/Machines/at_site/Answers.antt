-- Why `at_site` meets its contract.
use Rattle.std.proofs.Common.{rules, Bool, ℕ, List, Err, ◌≡◌, ◌∙◌, ap, sym, subst, Some, inl, inr, ⊎_elim}
use Rattle.protocol.specs.Letters.{txn_name}
use Rattle.site.specs.State.{state_of}
use Rattle.desk.specs.Database.{language, sent}
use Rattle.protocol.specs.Delivery.{CallKept}
use Rattle.world.proofs.CallsKept.{calls_kept}
use Rattle.world.specs.declared.fault.Fault.TheVariants as fault
use Rattle.world.specs.Contents.{held}
use Rattle.world.specs.Machines.{is_for_site}
use Rattle.world.specs.Sites.{seat_of}
use Rattle.world.specs.Seated.{SomeSeatDoes, place_of, seats_in}
use Rattle.world.proofs.Machinery.{put_out_leads, take_within}
use Rattle.world.proofs.Counting.{at_most}
use Rattle.std.specs.List.{AllByRecursion}
use Rattle.world.specs.Counted.{HaveRefused, counts_of}
use Rattle.world.specs.Taking.{stop_of}
use Rattle.world.proofs.Refusals.{places_so}
use Rattle.world.proofs.Stops.{later_stops}
use Rattle.world.proofs.Machinery.{list_put_out, list_within}
use Rattle.world.proofs.machines.Machines.at_site.Goals as goal

pub returns-in-Ok-clause-ok : goal.returns-in-Ok-clause-ok
returns-in-Ok-clause-ok g c = λ db choice seat clean sound fit there.
    let content = g.S.SiteStore.kept in
    let out = c.put_out in
    put_out_leads db (held g.D.DeskStore.kept content c.args.self.now) seat (seats_in content c.act_among.new.sites.items) c.in-Ok.letters.items fit c.args.what choice c.requires (c.in-Ok.ensures.ok seat clean.1 sound.1 fit.sites there)
    out.result.kept out.result.letters out.result.replies out.ensures.kept out.ensures.letters out.ensures.replies

pub returns-in-Ok-clause-within : goal.returns-in-Ok-clause-within
returns-in-Ok-clause-within g c = λ db choice seat letter clean sound fit is there.
    let content = g.S.SiteStore.kept in
    let before = held g.D.DeskStore.kept content c.args.self.now in
    let after = seats_in content c.act_among.new.sites.items in
    let out = c.put_out in
    let found : seat_of (place_of c.args.what) before.seats ≡ Some seat = ap (λ what. seat_of (place_of what) before.seats) is ∙ there in
    let did = subst (λ what. SomeSeatDoes what seat before.seats after c.in-Ok.letters.items) is (c.in-Ok.ensures.ok seat clean.1 sound.1 fit.sites found) in
    take_within db before seat after c.in-Ok.letters.items fit letter choice (sym (ap is_for_site is) ∙ c.requires) did out.result.kept out.ensures.kept

pub returns-in-Ok-clause-keeps : goal.returns-in-Ok-clause-keeps
returns-in-Ok-clause-keeps g c = λ db seat letter clean sound fit is there.
    let content = g.S.SiteStore.kept in
    let before = held g.D.DeskStore.kept content c.args.self.now in
    let after = seats_in content c.act_among.new.sites.items in
    let found : seat_of (place_of c.args.what) before.seats ≡ Some seat = ap (λ what. seat_of (place_of what) before.seats) is ∙ there in
    let did = subst (λ what. SomeSeatDoes what seat before.seats after c.in-Ok.letters.items) is (c.in-Ok.ensures.ok seat clean.1 sound.1 fit.sites found) in
    subst (λ (kept : Bool). CallKept {L = language db} kept (sent db letter).body) (sym c.put_out.ensures.kept)
    (calls_kept letter.site (txn_name letter.txn) c.in-Ok.letters.items db (state_of seat.kept seat.table) letter.body did.does.says)

pub returns-in-Ok-clause-vote : goal.returns-in-Ok-clause-vote
returns-in-Ok-clause-vote g c = λ letter seat is there keeps none. ⊎_elim (λ unmade. inl unmade) (λ more. inr (inr more)) (c.in-Ok.ensures.vote letter seat is there keeps (sym c.put_out.ensures.kept ∙ none))

pub returns-in-Ok-clause-leaves : goal.returns-in-Ok-clause-leaves
returns-in-Ok-clause-leaves g c = record {
  clean = search rules;
  sound = search rules;
  counts = (at_most (g.D.DeskStore.refused c.args.self.now.desk.store), c.act_among.ensures.leaves.counts);
  catalog = search rules;
  later = search rules;
}

pub returns-in-Err-clause-leaves : goal.returns-in-Err-clause-leaves
returns-in-Err-clause-leaves g c = record {
  clean = search rules;
  sound = search rules;
  counts = (at_most (g.D.DeskStore.refused c.args.self.now.desk.store), c.act_among.ensures.leaves.counts);
  catalog = search rules;
  later = search rules;
}

pub returns-in-Err-clause-blames : goal.returns-in-Err-clause-blames
returns-in-Err-clause-blames g c = λ letter is made clean sound.
    let refused = g.S.SiteStore.refused in
    let desk = g.D.DeskStore.refused c.args.self.now.desk.store in
    later_stops desk desk (counts_of refused c.args.self.now.sites.items) (counts_of refused c.act_among.new.sites.items) (stop_of (fault.Site c.in-Err.fault)) (c.in-Err.ensures.blames letter is made clean.1 sound.1)

pub returns-in-Err-clause-fails : goal.returns-in-Err-clause-fails
returns-in-Err-clause-fails g c = λ seat there.
    let S = g.S.SiteStore in
    let old = c.args.self.now.sites.items in
    let new = c.act_among.new.sites.items in
    places_so {T = List ℕ} (Err c.in-Err.fault) (AllByRecursion (λ site. S.is_clean site.store) new × AllByRecursion (λ site. S.is_sound site.store) old) (HaveRefused (counts_of S.refused old) (counts_of S.refused new)) _ _
    (λ so. (so.0.1, so.1.1)) (λ more. inr more) c.args.what c.args.kept seat (c.in-Err.ensures.fails seat there)

pub returns-in-Ok-clause-lists : goal.returns-in-Ok-clause-lists
returns-in-Ok-clause-lists g c = λ db choice seat clean sound fit there.
    let content = g.S.SiteStore.kept in
    let out = c.put_out in
    list_put_out db (held g.D.DeskStore.kept content c.args.self.now) seat (seats_in content c.act_among.new.sites.items) c.in-Ok.letters.items fit c.args.what choice c.requires (c.in-Ok.ensures.ok seat clean.1 sound.1 fit.sites there)
    out.result.kept out.result.letters out.result.replies out.ensures.kept out.ensures.letters out.ensures.replies

pub returns-in-Ok-clause-passes : goal.returns-in-Ok-clause-passes
returns-in-Ok-clause-passes g c = λ db choice seat letter clean sound fit is there.
    let content = g.S.SiteStore.kept in
    let before = held g.D.DeskStore.kept content c.args.self.now in
    let after = seats_in content c.act_among.new.sites.items in
    let out = c.put_out in
    let found : seat_of (place_of c.args.what) before.seats ≡ Some seat = ap (λ what. seat_of (place_of what) before.seats) is ∙ there in
    let did = subst (λ what. SomeSeatDoes what seat before.seats after c.in-Ok.letters.items) is (c.in-Ok.ensures.ok seat clean.1 sound.1 fit.sites found) in
    list_within db before seat after c.in-Ok.letters.items fit letter choice (sym (ap is_for_site is) ∙ c.requires) did out.result.kept out.ensures.kept

-- Why `stores` meets its contract: there is a store for each of two sites, and stores in memory have every leaf.
use Rattle.std.proofs.Common.{rules, ◌≡◌, ◌∙◌, [], ◌∷◌, ◌++◌, List, ap, length, refl, sym}
use Rattle.catalog.specs.Relation.{catalogue_of}
use Rattle.store.specs.PlainSite.{kept_of}
use Rattle.wire.proofs.Leaves.{have_all}
use Rattle.thread_tests.specs.declared.meeting.Meeting.{Meeting}
use Rattle.thread_tests.proofs.Openings.{leaves_over, sites_there}
use Rattle.thread_tests.proofs.meeting.MeetingsOpensSitesMeeting.stores.Goals as goal

pub returns-clause-one_each : goal.returns-clause-one_each
returns-clause-one_each g c =
    let two : length c.first_of.result.now.0 ≡ 2 = search rules in
    let both : c.push-2.new.self.items ≡ c.in_ok-north.north ∷ c.in_ok-south.south ∷ [] =
    c.in_ok-push-2.ensures.items ∙ ap (λ (all : List (Meeting g.row.R.Denot)). all ++ c.in_ok-south.south ∷ []) (c.in_ok-push.ensures.items ∙ ap (λ (all : List (Meeting g.row.R.Denot)). all ++ c.in_ok-north.north ∷ []) c.in_ok-stores.ensures.items) in
    ap (λ (all : List (Meeting g.row.R.Denot)). length all) both ∙ sym two ∙ sites_there c.args.chain.now c.first_of.result.now c.first_of.ensures.0 c.first_of.ensures.1

pub returns-clause-leaves : goal.returns-clause-leaves
returns-clause-leaves g c =
    let kept = λ (store : Meeting g.row.R.Denot). kept_of store.store in
    let stores = c.push-2.new.self.items in
    leaves_over c.args.chain.now c.first_of.result.now c.first_of.ensures.0 c.first_of.ensures.1 _ kept stores (have_all _ kept (catalogue_of c.first_of.result.now) (λ store leaf. refl) stores)

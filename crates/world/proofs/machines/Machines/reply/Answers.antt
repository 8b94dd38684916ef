-- Why `reply` meets its contract.
use Rattle.std.proofs.Common.{inl, inr, ⊎_elim, ◌==◌}
use Rattle.desk.specs.State.{volatile_of}
use Rattle.world.specs.Counted.{counts_of}
use Rattle.world.specs.Contents.{held}
use Rattle.world.proofs.Counting.{no_fewer}
use Rattle.world.proofs.Machinery.{reply_leads, reply_of}
use Rattle.world.proofs.Leaves.{ends_by_letter, ends_last, follows_by_letter}
use Rattle.world.proofs.OneCatalogue.{no_next}
use Rattle.world.proofs.SiteSteps.{if_ok}
use Rattle.world.proofs.Reasoned.{desk_tells}
use Rattle.world.proofs.Listing.{first_next, list_reply, list_stands}
use Rattle.world.proofs.Listing.{stays_where}
use Rattle.world.proofs.machines.Machines.reply.Goals as goal

pub returns-clause-ok : goal.returns-clause-ok
returns-clause-ok g c = λ db of is clean sound fit no_order of_site.
    let before = held g.D.DeskStore.kept g.S.SiteStore.kept c.args.self.now in
    let old = c.args.self.now.desk in
    let new = c.take_kept.new.self in
    let said = reply_of c.args.letter.now.body no_order in
    let none = (ends_last (ends_by_letter old.catalog new.catalog old.later.items new.later.items (new.volatile.version == old.volatile.version) c.take_kept.ensures.takes.catalogs) fit.single).1 in
    if_ok c.take_kept.result (λ out takes. reply_leads db before (g.D.DeskStore.kept new.store) (volatile_of new.volatile) new.later.items none c.args.letter.now said.0 said.1 out.kept out.letters out.replies fit takes)
    (c.take_kept.ensures.takes.takes.ok db said.0 of is (no_next db old.volatile.version old.later.items fit.single) clean.0 sound.0 fit.desk said.1 of_site)

pub returns-clause-told : goal.returns-clause-told
returns-clause-told g c = λ db of stands fit no_order of_site.
    let before = held g.D.DeskStore.kept g.S.SiteStore.kept c.args.self.now in
    let old = c.args.self.now.desk in
    let said = reply_of c.args.letter.now.body no_order in
    let takes = c.take_kept.ensures.takes.takes in
    desk_tells db before c.args.letter.now c.take_kept.result said.0 said.1 no_order takes.own (takes.full db said.0 of stands.here (first_next db old.volatile.version old.later.items stands.next) fit.desk said.1 of_site)

pub returns-clause-leaves : goal.returns-clause-leaves
returns-clause-leaves g c =
    let old = c.args.self.now.desk in
    let new = c.take_kept.new.self in
    let store = c.take_kept.ensures.takes.takes.store.leaves in
    record {
      clean = λ clean. (store.clean clean.0, clean.1);
      sound = λ clean sound. (store.sound clean.0 sound.0, sound.1);
      counts = (store.counts, no_fewer (counts_of g.S.SiteStore.refused c.args.self.now.sites.items));
      catalogs = ends_by_letter old.catalog new.catalog old.later.items new.later.items (new.volatile.version == old.volatile.version) c.take_kept.ensures.takes.catalogs;
    }

pub returns-clause-refusal : goal.returns-clause-refusal
returns-clause-refusal g c = if_ok c.take_kept.result (λ out refuses none. ⊎_elim (λ unmade. inl unmade) (λ refused. inr (inl refused)) (refuses none)) c.take_kept.ensures.takes.takes.store.refusal

pub returns-clause-lists : goal.returns-clause-lists
returns-clause-lists g c = λ db of stands clean sound fit no_order of_site.
    let before = held g.D.DeskStore.kept g.S.SiteStore.kept c.args.self.now in
    let old = c.args.self.now.desk in
    let new = c.take_kept.new.self in
    let said = reply_of c.args.letter.now.body no_order in
    let stood = c.take_kept.ensures.takes.catalogs in
    if_ok c.take_kept.result (λ out takes.
    let those = list_stands db before (g.D.DeskStore.kept new.store) (volatile_of new.volatile) old.catalog new.catalog new.later.items c.args.letter.now said.0 said.1 out.kept out.letters out.replies fit takes stood stands.here stands.next in (
      list_reply db before (g.D.DeskStore.kept new.store) (volatile_of new.volatile) old.catalog new.catalog new.later.items c.args.letter.now said.0 said.1 out.kept out.letters out.replies fit takes stood,
      record { here = those.0; next = those.1 },
    )) (c.take_kept.ensures.takes.takes.ok db said.0 of stands.here (first_next db old.volatile.version old.later.items stands.next) clean.0 sound.0 fit.desk said.1 of_site)

pub returns-clause-stays : goal.returns-clause-stays
returns-clause-stays g c = stays_where c.take_kept.result c.args.self.now c.take_kept.new.self c.take_kept.ensures.takes.takes.err c.take_kept.ensures.takes.catalogs

pub returns-clause-follows : goal.returns-clause-follows
returns-clause-follows g c = follows_by_letter c.args.self.now c.take_kept.new.self c.take_kept.ensures.takes.catalogs

-- Why `deliver_next` meets its contract.
use Rattle.std.proofs.Common.{rules, ◌≡◌, ◌∙◌, ◌++◌, [], ap, refl, sym, subst, ⊎_elim, List}
use Rattle.store.specs.declared.letter.Letter.{Letter}
use Rattle.world.specs.Mailbox.{Goes, ListComes}
use Rattle.world.specs.Counted.{counts}
use Rattle.world.specs.Contents.{counted, held}
use Rattle.world.specs.Taking.{scene}
use Rattle.world.proofs.Counting.{fit_uncounted, no_fewer}
use Rattle.world.proofs.Deliveries.{comes_breaks, comes_goes, comes_ranked, nothing_breaks, nothing_goes}
use Rattle.world.proofs.SiteSteps.{on_any_err, on_both, on_ok}
use Rattle.world.proofs.Stops.{memory_stops}
use Rattle.world.proofs.Refusing.{if_err}
use Rattle.world.specs.Stopping.{StopsFor, is_stop}
use Rattle.world.specs.ListServed.{IsListWaiting, ListGoes}
use Rattle.world.proofs.ListDelivering.{either_way, goes_as, goes_let_go}
use Rattle.world.proofs.ListDelivering.{nothing_goes as nothing_goes_list}
use Rattle.world.proofs.ListComings.{letter_comes, letter_ranked, nothing_comes}
use Rattle.world.proofs.Leaves.{ends_same}
use Rattle.world.proofs.mailbox.deliver_next.Goals as goal

pub returns-in_default-clause-ok : goal.returns-in_default-clause-ok
returns-in_default-clause-ok g c = λ db of is clean sound fit.
    let here = scene (counted g.D.DeskStore.kept g.S.SiteStore.kept g.D.DeskStore.refused g.S.SiteStore.refused c.args.machines.now) c.args.post.now in
    let same : here.waiting ≡ c.pop_front.new.self.items = c.in_default.ensures.items in
    subst (λ (waiting : List Letter). Goes db (λ w. w) here (record { machines = here.machines; waiting = waiting; heard = here.heard })) same (nothing_goes db here fit)

pub returns-in-Ok-clause-ok : goal.returns-in-Ok-clause-ok
returns-in-Ok-clause-ok g c = λ db of is clean sound fit.
    let here = scene (counted g.D.DeskStore.kept g.S.SiteStore.kept g.D.DeskStore.refused g.S.SiteStore.refused c.args.machines.now) c.args.post.now in
    let after = counted g.D.DeskStore.kept g.S.SiteStore.kept g.D.DeskStore.refused g.S.SiteStore.refused c.deliver_one.new.machines in
    on_both c.add.result (λ waiting heard. comes_goes db c.in-Some.letter here after c.pop_front.new.self.items c.in-Ok.out.letters c.in-Ok.out.replies c.in-Some.ensures.items (c.in-Ok.ensures.ok db of is clean sound fit) (scene after c.add.new.self) refl waiting heard)
    c.add.ensures.waiting c.add.ensures.heard

pub returns-in-Ok-clause-ranks : goal.returns-in-Ok-clause-ranks
returns-in-Ok-clause-ranks g c = λ db n i of is clean sound fit ranked.
    let here = scene (counted g.D.DeskStore.kept g.S.SiteStore.kept g.D.DeskStore.refused g.S.SiteStore.refused c.args.machines.now) c.args.post.now in
    let after = counted g.D.DeskStore.kept g.S.SiteStore.kept g.D.DeskStore.refused g.S.SiteStore.refused c.deliver_one.new.machines in
    on_ok c.add.result (λ waiting. comes_ranked db c.in-Some.letter here after c.pop_front.new.self.items c.in-Ok.out.letters c.in-Ok.out.replies c.in-Some.ensures.items (c.in-Ok.ensures.ok db of is clean sound fit) n i fit (scene after c.add.new.self) refl waiting ranked)
    c.add.ensures.waiting

pub returns-in-Ok-clause-err : goal.returns-in-Ok-clause-err
returns-in-Ok-clause-err g c = λ db of is clean sound fit.
    let here = scene (counted g.D.DeskStore.kept g.S.SiteStore.kept g.D.DeskStore.refused g.S.SiteStore.refused c.args.machines.now) c.args.post.now in
    let after = counted g.D.DeskStore.kept g.S.SiteStore.kept g.D.DeskStore.refused g.S.SiteStore.refused c.deliver_one.new.machines in
    on_any_err c.add.result (comes_breaks db c.in-Some.letter here after c.pop_front.new.self.items c.in-Ok.out.letters c.in-Ok.out.replies c.in-Some.ensures.items (c.in-Ok.ensures.ok db of is clean sound fit))

pub returns-in-Err-clause-err : goal.returns-in-Err-clause-err
returns-in-Err-clause-err g c = λ db of is clean sound fit.
    let before = held g.D.DeskStore.kept g.S.SiteStore.kept c.args.machines.now in
    let after = held g.D.DeskStore.kept g.S.SiteStore.kept c.deliver_one.new.machines in
    let old = counts g.D.DeskStore.refused g.S.SiteStore.refused c.args.machines.now in
    let new = counts g.D.DeskStore.refused g.S.SiteStore.refused c.deliver_one.new.machines in
    nothing_breaks db before after old new c.args.post.now.waiting.items c.args.post.now.heard.items (c.in-Err.ensures.err clean sound) (fit_uncounted db before old fit)

pub returns-in_default-clause-leaves : goal.returns-in_default-clause-leaves
returns-in_default-clause-leaves g c = record {
  clean = search rules;
  sound = search rules;
  counts = no_fewer (counts g.D.DeskStore.refused g.S.SiteStore.refused c.args.machines.now);
  catalogs = ends_same refl;
}

pub returns-in-Ok-clause-leaves : goal.returns-in-Ok-clause-leaves
returns-in-Ok-clause-leaves g c = record {
  clean = c.deliver_one.ensures.leaves.clean;
  sound = c.deliver_one.ensures.leaves.sound;
  counts = c.deliver_one.ensures.leaves.counts;
  catalogs = c.deliver_one.ensures.leaves.catalogs;
}

pub returns-in-Err-clause-leaves : goal.returns-in-Err-clause-leaves
returns-in-Err-clause-leaves g c = record {
  clean = c.deliver_one.ensures.leaves.clean;
  sound = c.deliver_one.ensures.leaves.sound;
  counts = c.deliver_one.ensures.leaves.counts;
  catalogs = c.deliver_one.ensures.leaves.catalogs;
}

pub returns-in-Ok-clause-blames : goal.returns-in-Ok-clause-blames
returns-in-Ok-clause-blames g c = λ clean sound.
    let old = counts g.D.DeskStore.refused g.S.SiteStore.refused c.args.machines.now in
    let new = counts g.D.DeskStore.refused g.S.SiteStore.refused c.deliver_one.new.machines in
    if_err c.add.result (λ told why. ⊎_elim (memory_stops old new told)
    (λ unsure. let so = c.is_unsure-is_unsure.ensures.only unsure.0 in subst (StopsFor old new) (sym unsure.1) (c.in-Ok.ensures.unkept (sym c.is_order-is_order.ensures ∙ so.0) so.1)) why)
    c.add.ensures.own

pub returns-in-Ok-clause-own : goal.returns-in-Ok-clause-own
returns-in-Ok-clause-own g c = if_err c.add.result (λ told why. ⊎_elim (λ memory. ap is_stop memory) (λ unsure. ap is_stop unsure.1) why) c.add.ensures.own

pub returns-in_default-clause-lists : goal.returns-in_default-clause-lists
returns-in_default-clause-lists g c = λ db whole past listed stands clean sound waits.
    let here = held g.D.DeskStore.kept g.S.SiteStore.kept c.args.machines.now in
    let heard = c.args.post.now.heard.items in
    let same : c.args.post.now.waiting.items ≡ c.pop_front.new.self.items = c.in_default.ensures.items in
    (subst (λ (left : List Letter). ListGoes db whole here left past heard heard) same (nothing_goes_list db whole here c.args.post.now.waiting.items past heard waits), tt, stands)

pub returns-in-Ok-clause-lists : goal.returns-in-Ok-clause-lists
returns-in-Ok-clause-lists g c = λ db whole past listed stands clean sound waits.
    let before = held g.D.DeskStore.kept g.S.SiteStore.kept c.args.machines.now in
    let after = held g.D.DeskStore.kept g.S.SiteStore.kept c.deliver_one.new.machines in
    let rest = c.pop_front.new.self.items in
    let left = rest ++ c.in-Ok.out.letters in
    let was = c.args.post.now.heard.items in
    let goes = c.in-Ok.ensures.lists rest db whole past listed stands clean sound (subst (λ (waiting : List Letter). IsListWaiting db whole before waiting past) c.in-Some.ensures.items waits) in
    either_way c.add.result
    (λ waiting heard. subst (λ (now : List Letter). ListGoes db whole after now past was c.add.new.self.heard.items) (sym waiting) (goes_as db whole after left past was c.in-Ok.out.replies c.add.new.self.heard.items heard goes.0))
    (goes_let_go db whole listed after left past [] c.in-Ok.out.replies goes.0) goes.2 c.add.ensures.waiting c.add.ensures.heard

pub returns-in-Err-clause-lists : goal.returns-in-Err-clause-lists
returns-in-Err-clause-lists g c = λ db whole past listed stands clean sound waits.
    let before = held g.D.DeskStore.kept g.S.SiteStore.kept c.args.machines.now in
    c.in-Err.ensures.lists c.pop_front.new.self.items db whole past listed stands clean sound (subst (λ (waiting : List Letter). IsListWaiting db whole before waiting past) c.in-Some.ensures.items waits)

-- each letter for its reason, over lists
pub returns-in_default-clause-comes : goal.returns-in_default-clause-comes
returns-in_default-clause-comes g c = λ db listed stands clean sound fits.
    let here = scene (held g.D.DeskStore.kept g.S.SiteStore.kept c.args.machines.now) c.args.post.now in
    let same : here.waiting ≡ c.pop_front.new.self.items = c.in_default.ensures.items in
    (subst (λ (waiting : List Letter). ListComes db here (record { machines = here.machines; waiting = waiting; heard = here.heard })) same (nothing_comes db here fits), stands)

pub returns-in-Ok-clause-comes : goal.returns-in-Ok-clause-comes
returns-in-Ok-clause-comes g c = λ db listed stands clean sound fits.
    let here = scene (held g.D.DeskStore.kept g.S.SiteStore.kept c.args.machines.now) c.args.post.now in
    let after = held g.D.DeskStore.kept g.S.SiteStore.kept c.deliver_one.new.machines in
    let done = c.in-Ok.ensures.done db listed stands clean sound fits in
    on_both c.add.result (λ waiting heard. (letter_comes db c.in-Some.letter here after c.pop_front.new.self.items c.in-Ok.out.letters c.in-Ok.out.replies c.in-Some.ensures.items done.0 (scene after c.add.new.self) refl waiting heard, done.1))
    c.add.ensures.waiting c.add.ensures.heard

pub returns-in-Ok-clause-ranks_lists : goal.returns-in-Ok-clause-ranks_lists
returns-in-Ok-clause-ranks_lists g c = λ db listed stands clean sound fits.
    let here = scene (held g.D.DeskStore.kept g.S.SiteStore.kept c.args.machines.now) c.args.post.now in
    let after = held g.D.DeskStore.kept g.S.SiteStore.kept c.deliver_one.new.machines in
    let done = c.in-Ok.ensures.done db listed stands clean sound fits in
    on_ok c.add.result (λ waiting n i ranked. letter_ranked db c.in-Some.letter here after c.pop_front.new.self.items c.in-Ok.out.letters c.in-Ok.out.replies c.in-Some.ensures.items done.0 fits (scene after c.add.new.self) refl waiting n i ranked)
    c.add.ensures.waiting

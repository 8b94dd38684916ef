-- Why `deliver_one` meets its contract.
use Rattle.desk.specs.Request.{IsOver}
use Rattle.catalog.specs.declared.relation.SplitRelation.{SplitRelation}
use Rattle.std.proofs.Common.{rules, ◌∙◌, ◌∷◌, refl, sym, subst, IfSome, Option, ℕ, List}
use Rattle.world.specs.Counted.{counts}
use Rattle.world.specs.Contents.{counted, held}
use Rattle.world.specs.Machines.{AreFit}
use Rattle.world.proofs.Counting.{fit_uncounted, no_fewer_then, none_fewer, uncounted}
use Rattle.world.proofs.Deliveries.{passed_over, turned_away}
use Rattle.world.proofs.SiteSteps.{if_ok, on_err}
use Rattle.world.proofs.Reasoned.{is_unsent, no_choice, turned_away as is_turned}
use Rattle.world.proofs.Running.{over_of}
use Rattle.desk.specs.declared.refusal.Refusal.{Refusal}
use Rattle.world.specs.Stopping.{StopsFor}
use Rattle.world.proofs.Stops.{memory_only}
use Rattle.world.specs.Listed.{FitsList}
use Rattle.world.proofs.Listing.{stands_as, stays_held}
use Rattle.world.proofs.Machinery.{fits_list}
use Rattle.world.proofs.ListDelivering.{both_ways, came_goes, let_go, passed_goes, turned_goes, waits_same}
use Rattle.world.proofs.ListComings.{list_passed, list_taken, list_turned}
use Rattle.world.proofs.Leaves.{ends_alike, ends_last, ends_then}
use Rattle.world.proofs.mailbox.deliver_one.Goals as goal

pub returns-in-None-clause-ok : goal.returns-in-None-clause-ok
returns-in-None-clause-ok g c = λ db of is clean sound fit.
    let content = g.S.SiteStore.kept in
    let told = c.in-Err.ensures.told db of is fit in
    let before = held g.D.DeskStore.kept content c.args.machines.now in
    let mid = held g.D.DeskStore.kept content c.take.new.machines in
    let after = held g.D.DeskStore.kept content c.give_up.new.self in
    let old = counts g.D.DeskStore.refused g.S.SiteStore.refused c.args.machines.now in
    let more = counts g.D.DeskStore.refused g.S.SiteStore.refused c.take.new.machines in
    let new = counts g.D.DeskStore.refused g.S.SiteStore.refused c.give_up.new.self in
    let same = c.in-Err.ensures.err (c.give_up.ensures.leaves.clean clean) sound in
    let over = subst (λ (x : List (List ℕ) × List SplitRelation). IsOver db x.0) (sym (ends_last c.take.ensures.leaves.catalogs fit.single).0) (over_of db _ c.args.machines.now.desk.catalog of is) in
    let why = is_turned db (counted g.D.DeskStore.kept content g.D.DeskStore.refused g.S.SiteStore.refused c.args.machines.now) c.args.letter (fits_list db (counted g.D.DeskStore.kept content g.D.DeskStore.refused g.S.SiteStore.refused c.args.machines.now) fit) c.in-Err.fault told (sym c.turns_away-is_turned_away.ensures ∙ c.if-is_turned_away.true) in
    if_ok c.give_up.result (λ out asked. turned_away db c.args.letter before after out.letters out.replies old new (no_fewer_then old more new c.take.ensures.leaves.counts (none_fewer more new (uncounted g.D.DeskStore.refused g.S.SiteStore.refused c.give_up.ensures.uncalled))) mid (no_choice db) same why asked.leads)
    (c.give_up.ensures.ok db (no_choice db) over (subst (AreFit db) (sym same) (fit_uncounted db before old fit)))

pub returns-in-None-2-clause-ok : goal.returns-in-None-2-clause-ok
returns-in-None-2-clause-ok g c = λ db of is clean sound fit.
    let content = g.S.SiteStore.kept in
    let told = c.in-Err.ensures.told db of is fit in
    let before = held g.D.DeskStore.kept content c.args.machines.now in
    let after = held g.D.DeskStore.kept content c.take.new.machines in
    let old = counts g.D.DeskStore.refused g.S.SiteStore.refused c.args.machines.now in
    let new = counts g.D.DeskStore.refused g.S.SiteStore.refused c.take.new.machines in
    let none = is_unsent db (counted g.D.DeskStore.kept content g.D.DeskStore.refused g.S.SiteStore.refused c.args.machines.now) c.args.letter c.in-Err.fault told (sym c.stopping.ensures ∙ c.in-None-2.is) (sym c.turns_away-is_turned_away.ensures ∙ c.if-is_turned_away.false) in
    passed_over db c.args.letter before after c.put_out.result.letters c.put_out.result.replies old new c.take.ensures.leaves.counts (fit_uncounted db before old fit) none (c.in-Err.ensures.err clean sound) (c.put_out.ensures.letters ∙ c.new.ensures.items) c.put_out.ensures.replies

pub returns-in-None-clause-leaves : goal.returns-in-None-clause-leaves
returns-in-None-clause-leaves g c = record {
  clean = search rules;
  sound = search rules;
  counts = no_fewer_then (counts g.D.DeskStore.refused g.S.SiteStore.refused c.args.machines.now) (counts g.D.DeskStore.refused g.S.SiteStore.refused c.take.new.machines) (counts g.D.DeskStore.refused g.S.SiteStore.refused c.give_up.new.self) c.take.ensures.leaves.counts (none_fewer (counts g.D.DeskStore.refused g.S.SiteStore.refused c.take.new.machines) (counts g.D.DeskStore.refused g.S.SiteStore.refused c.give_up.new.self) (uncounted g.D.DeskStore.refused g.S.SiteStore.refused c.give_up.ensures.uncalled));
  catalogs = ends_then c.take.ensures.leaves.catalogs (ends_alike c.give_up.ensures.leaves.catalog c.give_up.ensures.leaves.later);
}

pub returns-in-Some-clause-blames : goal.returns-in-Some-clause-blames
returns-in-Some-clause-blames g c = λ clean sound. subst (λ (stop : Option Refusal). IfSome stop (StopsFor (counts g.D.DeskStore.refused g.S.SiteStore.refused c.args.machines.now) (counts g.D.DeskStore.refused g.S.SiteStore.refused c.take.new.machines))) (sym c.stopping.ensures ∙ c.in-Some.is) (c.in-Err.ensures.blames clean sound)

pub returns-in-None-clause-blames : goal.returns-in-None-clause-blames
returns-in-None-clause-blames g c = λ clean sound. memory_only c.give_up.result (counts g.D.DeskStore.refused g.S.SiteStore.refused c.args.machines.now) (counts g.D.DeskStore.refused g.S.SiteStore.refused c.give_up.new.self) c.give_up.ensures.own

pub returns-in-Ok-clause-lists : goal.returns-in-Ok-clause-lists
returns-in-Ok-clause-lists g c = λ rest db whole past listed stands clean sound waits.
    let before = held g.D.DeskStore.kept g.S.SiteStore.kept c.args.machines.now in
    let after = held g.D.DeskStore.kept g.S.SiteStore.kept c.take.new.machines in
    let came = c.in-Ok.ensures.lists db listed stands clean sound waits.fit in
    (came_goes db whole listed c.args.letter c.in-Ok.out.kept before after rest c.in-Ok.out.letters c.in-Ok.out.replies past waits came.0, tt, came.1)

pub returns-in-Some-clause-lists : goal.returns-in-Some-clause-lists
returns-in-Some-clause-lists g c = λ rest db whole past listed stands clean sound waits.
    let before = held g.D.DeskStore.kept g.S.SiteStore.kept c.args.machines.now in
    let after = held g.D.DeskStore.kept g.S.SiteStore.kept c.take.new.machines in
    let stays = c.in-Err.ensures.stays in
    (tt, let_go db whole listed after (c.args.letter ∷ rest) past (waits_same db whole before after (c.args.letter ∷ rest) past (c.in-Err.ensures.err clean sound) waits), stands_as db c.args.machines.now.desk c.take.new.machines.desk stays.version stays.catalog stays.later stands)

pub returns-in-None-clause-lists : goal.returns-in-None-clause-lists
returns-in-None-clause-lists g c = λ rest db whole past listed stands clean sound waits.
    let hold = held g.D.DeskStore.kept g.S.SiteStore.kept in
    let before = hold c.args.machines.now in
    let mid = hold c.take.new.machines in
    let after = hold c.give_up.new.self in
    let stays = c.in-Err.ensures.stays in
    let same = c.in-Err.ensures.err (c.give_up.ensures.leaves.clean clean) sound in
    let stands_mid = stands_as db c.args.machines.now.desk c.take.new.machines.desk stays.version stays.catalog stays.later stands in
    let fits_mid = subst (FitsList db) (sym same) waits.fit in
    both_ways _ _ c.give_up.result
    (if_ok c.give_up.result (λ out asked. (turned_goes db whole listed c.args.letter (no_choice db) before mid after rest out.letters out.replies past same waits asked.0, asked.1)) (c.give_up.ensures.lists db (no_choice db) listed.base.of_catalogue stands_mid fits_mid))
    (on_err c.give_up.result (λ again still. (let_go db whole listed after (c.args.letter ∷ rest) past (waits_same db whole before after (c.args.letter ∷ rest) past (again ∙ same) waits), stands_as db c.take.new.machines.desk c.give_up.new.self.desk still.version still.catalog still.later stands_mid))
    c.give_up.ensures.err (stays_held hold c.give_up.result c.take.new.machines c.give_up.new.self (λ m. refl) c.give_up.ensures.err c.give_up.ensures.leaves.catalog c.give_up.ensures.leaves.later))

pub returns-in-None-2-clause-lists : goal.returns-in-None-2-clause-lists
returns-in-None-2-clause-lists g c = λ rest db whole past listed stands clean sound waits.
    let before = held g.D.DeskStore.kept g.S.SiteStore.kept c.args.machines.now in
    let after = held g.D.DeskStore.kept g.S.SiteStore.kept c.take.new.machines in
    let stays = c.in-Err.ensures.stays in
    (passed_goes db whole listed c.args.letter before after rest c.put_out.result.letters c.put_out.result.replies past (c.in-Err.ensures.err clean sound) (c.put_out.ensures.letters ∙ c.new.ensures.items) c.put_out.ensures.replies waits, tt, stands_as db c.args.machines.now.desk c.take.new.machines.desk stays.version stays.catalog stays.later stands)

-- each letter for its reason, over lists
pub returns-in-Ok-clause-done : goal.returns-in-Ok-clause-done
returns-in-Ok-clause-done g c = λ db listed stands clean sound fits.
    let before = held g.D.DeskStore.kept g.S.SiteStore.kept c.args.machines.now in
    let after = held g.D.DeskStore.kept g.S.SiteStore.kept c.take.new.machines in
    let came = c.in-Ok.ensures.lists db listed stands clean sound fits in
    (list_taken db c.args.letter before after c.in-Ok.out.letters c.in-Ok.out.replies c.in-Ok.out.kept came.0 (c.in-Ok.ensures.keeps db listed stands clean sound fits), came.1)

pub returns-in-None-clause-done : goal.returns-in-None-clause-done
returns-in-None-clause-done g c = λ db listed stands clean sound fits.
    let hold = held g.D.DeskStore.kept g.S.SiteStore.kept in
    let before = hold c.args.machines.now in
    let mid = hold c.take.new.machines in
    let after = hold c.give_up.new.self in
    let stays = c.in-Err.ensures.stays in
    let same = c.in-Err.ensures.err (c.give_up.ensures.leaves.clean clean) sound in
    let stands_mid = stands_as db c.args.machines.now.desk c.take.new.machines.desk stays.version stays.catalog stays.later stands in
    let why = is_turned db before c.args.letter fits c.in-Err.fault (c.in-Err.ensures.reasons db listed stands fits) (sym c.turns_away-is_turned_away.ensures ∙ c.if-is_turned_away.true) in
    if_ok c.give_up.result (λ out asked. (list_turned db c.args.letter before after out.letters out.replies mid (no_choice db) same why asked.0, asked.1)) (c.give_up.ensures.lists db (no_choice db) listed.base.of_catalogue stands_mid (subst (FitsList db) (sym same) fits))

pub returns-in-None-2-clause-done : goal.returns-in-None-2-clause-done
returns-in-None-2-clause-done g c = λ db listed stands clean sound fits.
    let before = held g.D.DeskStore.kept g.S.SiteStore.kept c.args.machines.now in
    let after = held g.D.DeskStore.kept g.S.SiteStore.kept c.take.new.machines in
    let stays = c.in-Err.ensures.stays in
    let none = is_unsent db before c.args.letter c.in-Err.fault (c.in-Err.ensures.reasons db listed stands fits) (sym c.stopping.ensures ∙ c.in-None-2.is) (sym c.turns_away-is_turned_away.ensures ∙ c.if-is_turned_away.false) in
    (list_passed db c.args.letter before after c.put_out.result.letters c.put_out.result.replies fits none (c.in-Err.ensures.err clean sound) (c.put_out.ensures.letters ∙ c.new.ensures.items) c.put_out.ensures.replies, stands_as db c.args.machines.now.desk c.take.new.machines.desk stays.version stays.catalog stays.later stands)

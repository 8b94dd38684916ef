-- Why `states` meets its contract.
use Rattle.std.proofs.Common.{◌≡◌, Some, None, refl, sym, subst, ◌∙◌, inr}
use Rattle.world.proofs.Calls.{as_kind, is_refragmented, lone_command}
use Rattle.world.specs.Client.{still_open}
use Rattle.world.specs.Commands.{is_turned_down, only_states}
use Rattle.world.specs.Contents.{OfStores, counted}
use Rattle.world.specs.Course.{IsOne, States}
use Rattle.world.specs.Frame.{ComesTo}
use Rattle.world.specs.declared.event.Call.TheVariants as call
use Rattle.catalog.specs.FragmentLeaf.{schemas_of}
use Rattle.catalog.specs.Relation.{catalogue_of}
use Rattle.protocol.proofs.Basics.{clash}
use Rattle.world.proofs.ReadOnce.{known_ordinary}
use Rattle.world.proofs.solo.Solo.states.Goals as goal

pub returns-in-Ok-clause-comes : goal.returns-in-Ok-clause-comes
returns-in-Ok-clause-comes g c =
    let clean = OfStores g.D.DeskStore.is_clean g.S.SiteStore.is_clean in
    let sound = OfStores g.D.DeskStore.is_sound g.S.SiteStore.is_sound in
    let view = counted g.D.DeskStore.kept g.S.SiteStore.kept g.D.DeskStore.refused g.S.SiteStore.refused in
    let old = c.args.self.now.machines in
    let new = c.state.new.machines in
    let txn = c.in-Some.txn in
    let first = subst (λ r. ComesTo clean sound view old new r (λ db. IsOne (λ heard. States txn c.args.text.now heard.items) (call.State txn c.args.text.now))) c.in-Ok.is c.state.ensures in
    as_kind clean sound view old new _ _ (λ blamed. tt) (λ none. none)
    (λ db of n is moves k. inr (λ spelled. only_states txn c.args.text.now c.in-Ok.heard.items k ((c.args.statement, spelled), c.in-Some.is, refl) (c.still_open-self.ensures ∙ (λ i. still_open (sym c.in-Some.is i) (c.as_slice.ensures.value i))) refl)) first

pub returns-in-Err-clause-comes : goal.returns-in-Err-clause-comes
returns-in-Err-clause-comes g c =
    let clean = OfStores g.D.DeskStore.is_clean g.S.SiteStore.is_clean in
    let sound = OfStores g.D.DeskStore.is_sound g.S.SiteStore.is_sound in
    let view = counted g.D.DeskStore.kept g.S.SiteStore.kept g.D.DeskStore.refused g.S.SiteStore.refused in
    let old = c.args.self.now.machines in
    let new = c.state.new.machines in
    let txn = c.in-Some.txn in
    let told = c.in-Err.refusal in
    let first = subst (λ r. ComesTo clean sound view old new r (λ db. IsOne (λ heard. States txn c.args.text.now heard.items) (call.State txn c.args.text.now))) c.in-Err.is c.state.ensures in
    as_kind clean sound view old new _ _ (λ blamed. blamed) (λ stop. stop)
    (λ db of n is moves k. inr (λ spelled. is_turned_down (call.State txn c.args.text.now) told k ((c.args.statement, spelled), c.in-Some.is, refl) refl refl)) first

pub returns-then-is_refragment-clause-comes : goal.returns-then-is_refragment-clause-comes
returns-then-is_refragment-clause-comes g c =
    let clean = OfStores g.D.DeskStore.is_clean g.S.SiteStore.is_clean in
    let sound = OfStores g.D.DeskStore.is_sound g.S.SiteStore.is_sound in
    let view = counted g.D.DeskStore.kept g.S.SiteStore.kept g.D.DeskStore.refused g.S.SiteStore.refused in
    let leaves = c.run_refragment.ensures.leaves in
    is_refragmented clean sound view c.args.self.now.machines c.run_refragment.new.machines c.run_refragment.result c.args.text.now c.args.self.now.current c.args.statement (sym c.is_refragment.ensures ∙ c.if-is_refragment.true) c.in_default.is
    leaves.clean leaves.sound leaves.counts leaves.catalogs c.run_refragment.ensures.blames c.run_refragment.ensures.none c.run_refragment.ensures.lists

pub returns-in_default-clause-comes : goal.returns-in_default-clause-comes
returns-in_default-clause-comes g c =
    let clean = OfStores g.D.DeskStore.is_clean g.S.SiteStore.is_clean in
    let sound = OfStores g.D.DeskStore.is_sound g.S.SiteStore.is_sound in
    let view = counted g.D.DeskStore.kept g.S.SiteStore.kept g.D.DeskStore.refused g.S.SiteStore.refused in
    let old = c.args.self.now.machines in
    let new = c.run_autocommit.new.machines in
    lone_command clean sound view old new c.run_autocommit.result c.args.text.now c.args.self.now.current c.args.statement (sym c.is_refragment.ensures ∙ c.if-is_refragment.false) c.in_default.is c.run_autocommit.ensures

pub returns-then-is_refragment-clause-finds_none : goal.returns-then-is_refragment-clause-finds_none
returns-then-is_refragment-clause-finds_none g c = λ none moves. c.run_refragment.ensures.finds_none

pub returns-in_default-clause-finds_none : goal.returns-in_default-clause-finds_none
returns-in_default-clause-finds_none g c = λ none moves. clash moves (sym c.is_refragment.ensures ∙ c.if-is_refragment.false)

pub returns-in-Ok-clause-finds_none : goal.returns-in-Ok-clause-finds_none
returns-in-Ok-clause-finds_none g c = λ none. (let e : Some c.in-Some.txn ≡ None = sym c.in-Some.is ∙ none in absurd (cc))

pub returns-in-Err-clause-finds_none : goal.returns-in-Err-clause-finds_none
returns-in-Err-clause-finds_none g c = λ none. (let e : Some c.in-Some.txn ≡ None = sym c.in-Some.is ∙ none in absurd (cc))

pub run_autocommit-requires : goal.run_autocommit-requires
run_autocommit-requires g c = record { spelled = c.requires.spelled; fits = c.requires.fits; ordinary = sym c.is_refragment.ensures ∙ c.if-is_refragment.false }

pub state-requires : goal.state-requires
state-requires g c = known_ordinary (schemas_of (catalogue_of c.args.self.now.machines.desk.catalog)) c.args.text.now c.args.statement c.ordinary.result c.requires.spelled c.requires.fits c.ordinary.ensures

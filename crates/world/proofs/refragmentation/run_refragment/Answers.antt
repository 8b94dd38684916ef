-- Why `run_refragment` meets its contract.
use Rattle.std.proofs.Common.{◌≡◌, ◌≢◌, ◌∷◌, ◌++◌, ◌∙◌, [], inl, length, refl, sym, subst, Some, slice_get, Ok, Err, IfOk}
use Rattle.std.proofs.lemmas.Bool.{eqb-true}
use Rattle.std.proofs.lemmas.List.{nil_from_length}
use Rattle.std.specs.Option.{option_map}
use Rattle.store.specs.declared.name.Txn.{Txn}
use Rattle.std.specs.Global.{Vec}
use Rattle.desk.specs.declared.reply.Notice.{Notice}
use Rattle.world.specs.Commands.{IsDecided, IsRefragmented, heard_in}
use Rattle.world.specs.Contents.{counted}
use Rattle.world.specs.Counted.{counts}
use Rattle.world.specs.Course.{Refragments}
use Rattle.world.proofs.ListCalls.{makes_as, makes_then}
use Rattle.world.proofs.Leaves.{database_still, leaves_then}
use Rattle.world.proofs.Stops.{call_since}
use Rattle.world.proofs.NoNext.{never_decided}
use Rattle.world.proofs.refragmentation.run_refragment.Goals as goal

pub returns-in-Ok-clause-leaves : goal.returns-in-Ok-clause-leaves
returns-in-Ok-clause-leaves g c = leaves_then g.D.DeskStore.is_clean g.S.SiteStore.is_clean g.D.DeskStore.is_sound g.S.SiteStore.is_sound g.D.DeskStore.refused g.S.SiteStore.refused c.args.machines.now c.announce.new.machines c.conclude.new.machines c.announce.ensures.leaves c.conclude.ensures.leaves

pub returns-in-Ok-clause-blames : goal.returns-in-Ok-clause-blames
returns-in-Ok-clause-blames g c = λ clean sound. call_since c.conclude.result (counts g.D.DeskStore.refused g.S.SiteStore.refused c.args.machines.now) (counts g.D.DeskStore.refused g.S.SiteStore.refused c.announce.new.machines) (counts g.D.DeskStore.refused g.S.SiteStore.refused c.conclude.new.machines)
    c.announce.ensures.leaves.counts (c.conclude.ensures.blames clean (c.announce.ensures.leaves.sound (c.conclude.ensures.leaves.clean clean) sound))

pub returns-then-is_empty-clause-leaves : goal.returns-then-is_empty-clause-leaves
returns-then-is_empty-clause-leaves g c = database_still g.D.DeskStore.is_clean g.S.SiteStore.is_clean g.D.DeskStore.is_sound g.S.SiteStore.is_sound g.D.DeskStore.refused g.S.SiteStore.refused c.args.machines.now

pub returns-in-Ok-clause-lists : goal.returns-in-Ok-clause-lists
returns-in-Ok-clause-lists g c = λ some db whole past listed stands clean sound served.
    let view = counted g.D.DeskStore.kept g.S.SiteStore.kept g.D.DeskStore.refused g.S.SiteStore.refused in
    let mid = c.announce.new.machines in
    let new = c.conclude.new.machines in
    let clean_mid = c.conclude.ensures.leaves.clean clean in
    let said = c.in-Ok.ensures.lists db whole past listed stands clean_mid sound served in
    let more = c.conclude.ensures.lists said.0.is.1 db whole (past ++ said.0.deeds) listed said.1 clean (c.announce.ensures.leaves.sound clean_mid sound) said.0.served in (
      makes_then db whole (view mid) (view new) past c.conclude.result (λ moves. (moves ≡ Refragments c.args.text.now (Ok c.in-Ok.heard.items) ∷ []) × (c.in-Ok.heard.items ≢ [])) (λ done moves. (txn : Txn) × (option_map (λ notice. notice.txn) (slice_get c.in-Ok.heard.items 0) ≡ Some txn) × IsDecided txn c.in-Ok.heard.items moves (heard_in (λ heard. heard.items) done)) (λ done moves. IsRefragmented c.args.text.now moves (heard_in (λ heard. heard.items) done))
          (λ one two is decided. subst (λ ms. IsRefragmented c.args.text.now (ms ++ two) (heard_in (λ heard. heard.items) c.conclude.result)) (sym is.0) (refl, decided)) said.0 more.0,
      more.1,
    )

pub returns-in-Err-clause-lists : goal.returns-in-Err-clause-lists
returns-in-Err-clause-lists g c = λ some db whole past listed stands clean sound served.
    let view = counted g.D.DeskStore.kept g.S.SiteStore.kept g.D.DeskStore.refused g.S.SiteStore.refused in
    let said = c.in-Err.ensures.lists db whole past listed stands clean sound served in (
      makes_as db whole {T = Vec Notice} (view c.announce.new.machines) past (Err c.in-Err.refusal) (λ done moves. (moves ≡ Refragments c.args.text.now (heard_in (λ heard. heard.items) done) ∷ []) × IfOk done (λ heard. heard.items ≢ [])) (λ done moves. IsRefragmented c.args.text.now moves (heard_in (λ heard. heard.items) done))
          (λ moves is. subst (λ ms. IsRefragmented c.args.text.now ms (Err c.in-Err.refusal)) (sym is.0) (refl, refl)) said.0,
      said.1,
    )

pub returns-then-is_empty-clause-finds_none : goal.returns-then-is_empty-clause-finds_none
returns-then-is_empty-clause-finds_none g c = λ db whole past listed stands clean sound served. ((λ none. inl (sym c.later.ensures ∙ nil_from_length c.later.result.now (eqb-true (length c.later.result.now) 0 (sym c.is_empty.ensures ∙ c.if-is_empty.true)))), stands)

pub returns-in-Err-clause-finds_none : goal.returns-in-Err-clause-finds_none
returns-in-Err-clause-finds_none g c = λ db whole past listed stands clean sound served. (c.in-Err.ensures.finds_none, (c.in-Err.ensures.lists db whole past listed stands clean sound served).1)

pub returns-in-Ok-clause-finds_none : goal.returns-in-Ok-clause-finds_none
returns-in-Ok-clause-finds_none g c = λ db whole past listed stands clean sound served.
    let view = counted g.D.DeskStore.kept g.S.SiteStore.kept g.D.DeskStore.refused g.S.SiteStore.refused in
    let clean_mid = c.conclude.ensures.leaves.clean clean in
    let said = c.in-Ok.ensures.lists db whole past listed stands clean_mid sound served in
    let more = c.conclude.ensures.lists said.0.is.1 db whole (past ++ said.0.deeds) listed said.1 clean (c.announce.ensures.leaves.sound clean_mid sound) said.0.served in
    (never_decided db whole (view c.conclude.new.machines) (past ++ said.0.deeds) c.in-Ok.heard.items (λ heard. heard.items) (λ txn. option_map (λ notice. notice.txn) (slice_get c.in-Ok.heard.items 0) ≡ Some txn) c.conclude.result more.0, more.1)

-- Why `call` meets its contract.
use Rattle.std.proofs.Common.{◌≡◌, ◌⊎◌, ◌++◌, ◌∷◌, [], refl, sym, subst, IfErr, IfOk}
use Rattle.desk.specs.declared.refusal.Refusal.TheVariants as refusals
use Rattle.desk.specs.State.{volatile_of}
use Rattle.world.specs.declared.event.Call as calls
use Rattle.world.specs.declared.event.Call.TheVariants as call
use Rattle.world.specs.declared.event.Event.TheVariants as event
use Rattle.world.specs.Contents.{held}
use Rattle.world.specs.Refused.{IsRefused}
use Rattle.world.specs.Runs.{StepsOn, entry_of}
use Rattle.world.proofs.SiteSteps.{if_ok}
use Rattle.world.proofs.Reasoned.{no_choice}
use Rattle.world.proofs.Running.{over_of}
use Rattle.world.specs.Listed.{ListMoved, ListStated, StandsIn}
use Rattle.world.specs.Runs.{StepsOn}
use Rattle.world.proofs.Listing.{stays_held}
use Rattle.world.proofs.ListRunning.{list_begins_on, list_commits_on, list_gives_on, list_moves_on, list_rolls_on, list_states_on}
use Rattle.world.proofs.machines.call.Goals as goal

pub returns-in-Begin-clause-refused : goal.returns-in-Begin-clause-refused
returns-in-Begin-clause-refused g c = λ db of is fits.
    subst (λ (asked : calls.Call). IfErr c.begin.result (λ told. (told ≡ refusals.Memory) ⊎ IsRefused db c.args.machines.now.desk.later.items (volatile_of c.args.machines.now.desk.volatile) asked told)) (sym c.in-Begin.is)
    (c.begin.ensures.full db (over_of db _ c.args.machines.now.desk.catalog of is) fits)

pub returns-in-State-clause-refused : goal.returns-in-State-clause-refused
returns-in-State-clause-refused g c = λ db of is fits.
    subst (λ (asked : calls.Call). IfErr c.statement.result (λ told. (told ≡ refusals.Memory) ⊎ IsRefused db c.args.machines.now.desk.later.items (volatile_of c.args.machines.now.desk.volatile) asked told)) (sym c.in-State.is)
    (subst (λ text. IfErr c.statement.result (λ told. (told ≡ refusals.Memory) ⊎ IsRefused db c.args.machines.now.desk.later.items (volatile_of c.args.machines.now.desk.volatile) (call.State c.in-State.txn text) told)) c.as_str.ensures (c.statement.ensures.told db of is fits))

pub returns-in-Commit-clause-refused : goal.returns-in-Commit-clause-refused
returns-in-Commit-clause-refused g c = λ db of is fits.
    subst (λ (asked : calls.Call). IfErr c.commit.result (λ told. (told ≡ refusals.Memory) ⊎ IsRefused db c.args.machines.now.desk.later.items (volatile_of c.args.machines.now.desk.volatile) asked told)) (sym c.in-Commit.is) (c.commit.ensures.told db)

pub returns-in-Rollback-clause-refused : goal.returns-in-Rollback-clause-refused
returns-in-Rollback-clause-refused g c = λ db of is fits.
    subst (λ (asked : calls.Call). IfErr c.rollback.result (λ told. (told ≡ refusals.Memory) ⊎ IsRefused db c.args.machines.now.desk.later.items (volatile_of c.args.machines.now.desk.volatile) asked told)) (sym c.in-Rollback.is) (c.rollback.ensures.told db)

pub returns-in-Refragment-clause-refused : goal.returns-in-Refragment-clause-refused
returns-in-Refragment-clause-refused g c = λ db of is fits.
    subst (λ (asked : calls.Call). IfErr c.refragment.result (λ told. (told ≡ refusals.Memory) ⊎ IsRefused db c.args.machines.now.desk.later.items (volatile_of c.args.machines.now.desk.volatile) asked told)) (sym c.in-Refragment.is)
    (subst (λ text. IfErr c.refragment.result (λ told. (told ≡ refusals.Memory) ⊎ IsRefused db c.args.machines.now.desk.later.items (volatile_of c.args.machines.now.desk.volatile) (call.Refragment text) told)) c.as_str-in-Refragment.ensures (c.refragment.ensures.told db of is fits))

pub returns-in-Begin-clause-ok : goal.returns-in-Begin-clause-ok
returns-in-Begin-clause-ok g c = λ db whole entries past of stands so.
    let before = held g.D.DeskStore.kept g.S.SiteStore.kept c.args.machines.now in
    let after = held g.D.DeskStore.kept g.S.SiteStore.kept c.begin.new.self in
    subst (λ (asked : calls.Call). IfOk c.begin.result (λ out. StepsOn db whole before after entries (entries ++ entry_of (event.Call asked) out ∷ []) past × StandsIn db c.begin.new.self.desk)) (sym c.in-Begin.is)
    (if_ok c.begin.result (λ out listed. (list_begins_on db whole before after entries past out so listed.0, listed.1)) (c.begin.ensures.lists db of stands so.fit))

pub returns-in-Commit-clause-ok : goal.returns-in-Commit-clause-ok
returns-in-Commit-clause-ok g c = λ db whole entries past of stands so.
    let before = held g.D.DeskStore.kept g.S.SiteStore.kept c.args.machines.now in
    let after = held g.D.DeskStore.kept g.S.SiteStore.kept c.commit.new.self in
    subst (λ (asked : calls.Call). IfOk c.commit.result (λ out. StepsOn db whole before after entries (entries ++ entry_of (event.Call asked) out ∷ []) past × StandsIn db c.commit.new.self.desk)) (sym c.in-Commit.is)
    (if_ok c.commit.result (λ out listed. (list_commits_on db whole before after entries past out c.in-Commit.txn (no_choice db) so listed.0, listed.1)) (c.commit.ensures.lists db (no_choice db) of stands so.fit))

pub returns-in-Rollback-clause-ok : goal.returns-in-Rollback-clause-ok
returns-in-Rollback-clause-ok g c = λ db whole entries past of stands so.
    let before = held g.D.DeskStore.kept g.S.SiteStore.kept c.args.machines.now in
    let after = held g.D.DeskStore.kept g.S.SiteStore.kept c.rollback.new.self in
    subst (λ (asked : calls.Call). IfOk c.rollback.result (λ out. StepsOn db whole before after entries (entries ++ entry_of (event.Call asked) out ∷ []) past × StandsIn db c.rollback.new.self.desk)) (sym c.in-Rollback.is)
    (if_ok c.rollback.result (λ out listed. (list_rolls_on db whole before after entries past out c.in-Rollback.txn (no_choice db) so listed.0, listed.1)) (c.rollback.ensures.lists db (no_choice db) of stands so.fit))

pub returns-in-GiveUp-clause-ok : goal.returns-in-GiveUp-clause-ok
returns-in-GiveUp-clause-ok g c = λ db whole entries past of stands so.
    let before = held g.D.DeskStore.kept g.S.SiteStore.kept c.args.machines.now in
    let after = held g.D.DeskStore.kept g.S.SiteStore.kept c.give_up.new.self in
    subst (λ (asked : calls.Call). IfOk c.give_up.result (λ out. StepsOn db whole before after entries (entries ++ entry_of (event.Call asked) out ∷ []) past × StandsIn db c.give_up.new.self.desk)) (sym c.in-GiveUp.is)
    (if_ok c.give_up.result (λ out listed. (list_gives_on db whole before after entries past out c.in-GiveUp.txn (no_choice db) so listed.0, listed.1)) (c.give_up.ensures.lists db (no_choice db) of stands so.fit))

pub returns-in-State-clause-ok : goal.returns-in-State-clause-ok
returns-in-State-clause-ok g c = λ db whole entries past of stands so.
    let before = held g.D.DeskStore.kept g.S.SiteStore.kept c.args.machines.now in
    let after = held g.D.DeskStore.kept g.S.SiteStore.kept c.statement.new.self in
    let txn = c.in-State.txn in
    let text = c.in-State.text in
    subst (λ (asked : calls.Call). IfOk c.statement.result (λ out. StepsOn db whole before after entries (entries ++ entry_of (event.Call asked) out ∷ []) past × StandsIn db c.statement.new.self.desk)) (sym c.in-State.is)
    (if_ok c.statement.result (λ out listed. (list_states_on db whole before after entries past out txn text so (subst (λ of. ListStated db txn of before after out.letters out.replies) c.as_str.ensures listed.0), listed.1)) (c.statement.ensures.lists db of stands so.fit))

pub returns-in-Refragment-clause-ok : goal.returns-in-Refragment-clause-ok
returns-in-Refragment-clause-ok g c = λ db whole entries past of stands so.
    let before = held g.D.DeskStore.kept g.S.SiteStore.kept c.args.machines.now in
    let after = held g.D.DeskStore.kept g.S.SiteStore.kept c.refragment.new.self in
    let text = c.in-Refragment.text in
    subst (λ (asked : calls.Call). IfOk c.refragment.result (λ out. StepsOn db whole before after entries (entries ++ entry_of (event.Call asked) out ∷ []) past × StandsIn db c.refragment.new.self.desk)) (sym c.in-Refragment.is)
    (if_ok c.refragment.result (λ out listed. (list_moves_on db whole before after entries past out text so (subst (λ of. ListMoved db of before after out.letters out.replies) c.as_str-in-Refragment.ensures listed.0), listed.1)) (c.refragment.ensures.lists db of stands so.fit))

pub returns-in-Begin-clause-stays : goal.returns-in-Begin-clause-stays
returns-in-Begin-clause-stays g c = stays_held (held g.D.DeskStore.kept g.S.SiteStore.kept) c.begin.result c.args.machines.now c.begin.new.self (λ m. refl) c.begin.ensures.err c.begin.ensures.leaves.catalog c.begin.ensures.leaves.later

pub returns-in-Commit-clause-stays : goal.returns-in-Commit-clause-stays
returns-in-Commit-clause-stays g c = stays_held (held g.D.DeskStore.kept g.S.SiteStore.kept) c.commit.result c.args.machines.now c.commit.new.self (λ m. refl) c.commit.ensures.err c.commit.ensures.leaves.catalog c.commit.ensures.leaves.later

pub returns-in-Rollback-clause-stays : goal.returns-in-Rollback-clause-stays
returns-in-Rollback-clause-stays g c = stays_held (held g.D.DeskStore.kept g.S.SiteStore.kept) c.rollback.result c.args.machines.now c.rollback.new.self (λ m. refl) c.rollback.ensures.err c.rollback.ensures.leaves.catalog c.rollback.ensures.leaves.later

pub returns-in-GiveUp-clause-stays : goal.returns-in-GiveUp-clause-stays
returns-in-GiveUp-clause-stays g c = stays_held (held g.D.DeskStore.kept g.S.SiteStore.kept) c.give_up.result c.args.machines.now c.give_up.new.self (λ m. refl) c.give_up.ensures.err c.give_up.ensures.leaves.catalog c.give_up.ensures.leaves.later

pub returns-in-State-clause-stays : goal.returns-in-State-clause-stays
returns-in-State-clause-stays g c = stays_held (held g.D.DeskStore.kept g.S.SiteStore.kept) c.statement.result c.args.machines.now c.statement.new.self (λ m. refl) c.statement.ensures.err c.statement.ensures.leaves.catalog c.statement.ensures.leaves.later

pub returns-in-Refragment-clause-stays : goal.returns-in-Refragment-clause-stays
returns-in-Refragment-clause-stays g c = stays_held (held g.D.DeskStore.kept g.S.SiteStore.kept) c.refragment.result c.args.machines.now c.refragment.new.self (λ m. refl) c.refragment.ensures.err c.refragment.ensures.leaves.catalog c.refragment.ensures.leaves.later

-- Why what clients ask for is a move of the coordinator.
use Rattle.std.proofs.Common.{ap, subst, ℕ, List, IfOk}
use Rattle.desk.specs.Does.{States}
use Rattle.desk.specs.Refragmented.{RefragmentsBy}
use Rattle.desk.specs.State.{volatile_of}
use Rattle.history.specs.DeskHistory.{desk_from}
use Rattle.world.proofs.Running.{over_of}
use Rattle.history.proofs.DeskMachine.{begin_accepts, commit_accepts, give_up_accepts, refragment_accepts, rollback_accepts, statement_accepts}
use Rattle.history.proofs.desk_cell.ask.Goals as goal

pub returns-in-Begin-clause-ok : goal.returns-in-Begin-clause-ok
returns-in-Begin-clause-ok g c = λ db of is next fit.
    let kept = g.D.DeskStore.kept in
    let old = c.args.desk.now in
    let told = c.begin.ensures in
    begin_accepts db (desk_from kept old) (desk_from kept c.begin.new.self) c.begin.result (ap kept told.plainly.store) c.args.call.now c.in-Begin.is told.accepted (told.ok db (over_of db _ old.catalog of is) fit.fits) told.plainly.kept

pub returns-in-State-clause-ok : goal.returns-in-State-clause-ok
returns-in-State-clause-ok g c = λ db of is next fit.
    let kept = g.D.DeskStore.kept in
    let old = c.args.desk.now in
    let told = c.statement.ensures in
    let text = c.in-State.text in
    let after = desk_from kept c.statement.new.self in
    statement_accepts db (desk_from kept old) after c.statement.result (ap kept told.states.plainly.store) c.args.call.now c.in-State.txn text c.in-State.is told.states.still (told.states.accepted db)
    (subst (λ (said : List ℕ). IfOk c.statement.result (λ out. States db (volatile_of old.volatile) after.content after.table c.in-State.txn said out.letters out.replies)) c.as_str.ensures (told.ok db of is fit.fits)) told.states.plainly.kept

pub returns-in-Commit-clause-ok : goal.returns-in-Commit-clause-ok
returns-in-Commit-clause-ok g c = λ db of is next fit.
    let kept = g.D.DeskStore.kept in
    let old = c.args.desk.now in
    let told = c.commit.ensures in
    commit_accepts db (desk_from kept old) (desk_from kept c.commit.new.self) c.commit.result (ap kept told.plainly.store) c.args.call.now c.in-Commit.txn c.in-Commit.is (told.accepted db) (λ choice. told.ok db choice (over_of db _ old.catalog of is) fit.fits) told.plainly.kept

pub returns-in-Rollback-clause-ok : goal.returns-in-Rollback-clause-ok
returns-in-Rollback-clause-ok g c = λ db of is next fit.
    let kept = g.D.DeskStore.kept in
    let old = c.args.desk.now in
    let told = c.rollback.ensures in
    rollback_accepts db (desk_from kept old) (desk_from kept c.rollback.new.self) c.rollback.result (ap kept told.plainly.store) c.args.call.now c.in-Rollback.txn c.in-Rollback.is (told.accepted db) (λ choice. told.ok db choice (over_of db _ old.catalog of is) fit.fits) told.plainly.kept

pub returns-in-GiveUp-clause-ok : goal.returns-in-GiveUp-clause-ok
returns-in-GiveUp-clause-ok g c = λ db of is next fit.
    let kept = g.D.DeskStore.kept in
    let old = c.args.desk.now in
    let told = c.give_up.ensures in
    give_up_accepts db (desk_from kept old) (desk_from kept c.give_up.new.self) c.give_up.result (ap kept told.plainly.store) c.args.call.now c.in-GiveUp.txn c.in-GiveUp.is (λ choice. told.ok db choice (over_of db _ old.catalog of is) fit.fits) told.plainly.kept

pub returns-in-Refragment-clause-ok : goal.returns-in-Refragment-clause-ok
returns-in-Refragment-clause-ok g c = λ db of is next fit.
    let kept = g.D.DeskStore.kept in
    let old = c.args.desk.now in
    let told = c.refragment.ensures.refragments in
    let text = c.in-Refragment.text in
    let after = desk_from kept c.refragment.new.self in
    refragment_accepts db (desk_from kept old) after c.refragment.result (ap kept told.plainly.store) c.args.call.now text c.in-Refragment.is
    (subst (λ (said : List ℕ). IfOk c.refragment.result (λ out. RefragmentsBy db (volatile_of old.volatile) after.content after.table said out.letters out.replies)) c.as_str-in-Refragment.ensures (told.ok db of is next fit.fits)) told.plainly.kept

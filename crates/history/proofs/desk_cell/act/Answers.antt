-- Why what the coordinator is called for is a move of it.
use Rattle.std.proofs.Common.{◌≡◌, ◌∙◌, ap, sym, subst, ℕ, true, IfOk, List}
use Rattle.desk.specs.Receive.{is_strange}
use Rattle.desk.specs.State.{volatile_of}
use Rattle.world.proofs.Running.{over_of}
use Rattle.history.specs.declared.entry.Input.{Input}
use Rattle.history.specs.declared.entry.Input.TheVariants as input
use Rattle.history.specs.DeskHistory.{DeskAccepts, desk_from}
use Rattle.history.specs.Entries.{accepted}
use Rattle.history.specs.Catalogues.{catalogs_after}
use Rattle.history.proofs.DeskMachine.{desk_same, restart_accepts, take_accepts, told_accepts}
use Rattle.history.proofs.Following.{any_err, call_is, errs, same_catalogs, told_err, told_ok}
use Rattle.history.proofs.desk_cell.act.Goals as goal

pub returns-in-Call-clause-ok : goal.returns-in-Call-clause-ok
returns-in-Call-clause-ok g c = λ db of is next clean sound fit.
    let kept = g.D.DeskStore.kept in
    let before = desk_from kept c.args.desk.now in
    let after = desk_from kept c.ask.new.desk in
    subst (λ (asked : Input). IfOk c.by_desk.result (λ out. (number : ℕ) → DeskAccepts db before (accepted number asked out) after)) (sym c.in-Call.is)
    (told_accepts db before after c.ask.result (input.Call c.in-Call.call) c.by_desk.result c.by_desk.ensures (c.ask.ensures.ok db of is next fit))

pub returns-in-Take-clause-ok : goal.returns-in-Take-clause-ok
returns-in-Take-clause-ok g c = λ db of is next clean sound fit.
    let kept = g.D.DeskStore.kept in
    let old = c.args.desk.now in
    let new = c.take.new.self in
    let letter = c.in-Take.letter in
    let takes = c.take.ensures.takes.takes in
    let sites = (over_of db _ old.catalog of is).sites in
    let so : is_strange db.sites letter ≡ true → is_strange old.catalog.0 letter ≡ true = λ strange. subst (λ (those : List (List ℕ)). is_strange those letter ≡ true) sites strange in
    told_accepts db (desk_from kept old) (desk_from kept new) c.take.result c.args.input.now c.by_desk-in-Take.result c.by_desk-in-Take.ensures
    (take_accepts db (desk_from kept old) (desk_from kept new) c.take.result letter c.args.input.now c.in-Take.is fit
    (λ strange. let still = (takes.strange (so strange)).1 in desk_same kept old new still.1 (ap volatile_of still.0)) (λ strange. takes.silent (so strange))
    (λ reply said here. takes.ok db reply of is next clean sound fit.fits said here))

pub returns-in-Restart-clause-ok : goal.returns-in-Restart-clause-ok
returns-in-Restart-clause-ok g c = λ db of is next clean sound fit.
    let kept = g.D.DeskStore.kept in
    let old = c.args.desk.now in
    let new = c.restart.new.self in
    let restarts = c.restart.ensures.restarts in
    told_accepts db (desk_from kept old) (desk_from kept new) c.restart.result c.args.input.now c.by_desk-in-Restart.result c.by_desk-in-Restart.ensures
    (restart_accepts db (desk_from kept old) (desk_from kept new) c.restart.result c.args.input.now c.in-Restart.is (restarts.ok db (over_of db _ old.catalog of is) clean fit.fits) restarts.says_kept)

-- ---- the catalogues
pub returns-in-Call-clause-catalogs : goal.returns-in-Call-clause-catalogs
returns-in-Call-clause-catalogs g c =
    let old = c.args.desk.now in
    let new = c.ask.new.desk in
    subst (λ (asked : Input). (new.catalog, new.later.items) ≡ catalogs_after asked old new.volatile.version) (sym c.in-Call.is) (λ i. (c.ask.ensures.catalog i, c.ask.ensures.later i))

pub returns-in-Call-clause-still : goal.returns-in-Call-clause-still
returns-in-Call-clause-still g c = any_err c.by_desk.result (c.ask.ensures.catalog, c.ask.ensures.later)

pub returns-in-Call-clause-next : goal.returns-in-Call-clause-next
returns-in-Call-clause-next g c = λ text is. told_ok _ c.by_desk.result c.ask.result c.by_desk.ensures (c.ask.ensures.next text (call_is (sym c.in-Call.is ∙ is)))

pub returns-in-Take-clause-catalogs : goal.returns-in-Take-clause-catalogs
returns-in-Take-clause-catalogs g c =
    let old = c.args.desk.now in
    let new = c.take.new.self in
    subst (λ (asked : Input). (new.catalog, new.later.items) ≡ catalogs_after asked old new.volatile.version) (sym c.in-Take.is) c.take.ensures.takes.catalogs

pub returns-in-Take-clause-still : goal.returns-in-Take-clause-still
returns-in-Take-clause-still g c =
    let old = c.args.desk.now in
    let new = c.take.new.self in
    told_err _ c.by_desk-in-Take.result c.take.result c.by_desk-in-Take.ensures (errs c.take.result (same_catalogs old new c.take.ensures.takes.catalogs) c.take.ensures.takes.takes.err)

pub returns-in-Restart-clause-catalogs : goal.returns-in-Restart-clause-catalogs
returns-in-Restart-clause-catalogs g c =
    let old = c.args.desk.now in
    let new = c.restart.new.self in
    let restarts = c.restart.ensures.restarts in
    subst (λ (asked : Input). (new.catalog, new.later.items) ≡ catalogs_after asked old new.volatile.version) (sym c.in-Restart.is) (λ i. (restarts.catalog i, restarts.later i))

pub returns-in-Restart-clause-still : goal.returns-in-Restart-clause-still
returns-in-Restart-clause-still g c = any_err c.by_desk-in-Restart.result (c.restart.ensures.restarts.catalog, c.restart.ensures.restarts.later)

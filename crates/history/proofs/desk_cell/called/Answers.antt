-- Why an accepted call is a move of the coordinator.
use Rattle.history.specs.DeskHistory.{desk_from}
use Rattle.history.proofs.DeskMachine.{accepted_moves}
use Rattle.history.proofs.desk_cell.called.Goals as goal

pub returns-in-Ok-clause-moves : goal.returns-in-Ok-clause-moves
returns-in-Ok-clause-moves g c = λ db of is next clean sound fit.
    let kept = g.D.DeskStore.kept in
    let told = c.accepted.ensures in
    accepted_moves db (desk_from kept c.args.desk.now) (desk_from kept c.act.new.desk) c.accepted.result c.args.input c.in-Ok.out told.input told.letters told.replies told.kept told.fault (c.in-Ok.ensures.ok db of is next clean sound fit)

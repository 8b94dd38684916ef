-- Why `statement` meets its contract.
use Rattle.desk.proofs.desk.Desk.statement.Goals as goal

pub returns : goal.returns
returns g c = c.state.ensures

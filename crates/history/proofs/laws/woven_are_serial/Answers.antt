-- Why `woven_are_serial` meets its contract.
use Rattle.history.proofs.Law.{woven_serial}
use Rattle.history.proofs.laws.woven_are_serial.Goals as goal

pub returns : goal.returns
returns c = λ db listed. woven_serial db (c.woven_are_runs.ensures db listed) (c.runs_are_serial.ensures db listed)

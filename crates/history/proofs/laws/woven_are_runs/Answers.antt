-- Why `woven_are_runs` meets its contract.
use Rattle.history.proofs.Law.{woven_run}
use Rattle.history.proofs.laws.woven_are_runs.Goals as goal

pub returns : goal.returns
returns c = λ db listed. woven_run db listed.base.of_catalogue

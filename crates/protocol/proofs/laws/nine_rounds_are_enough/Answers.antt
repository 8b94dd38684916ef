use Rattle.protocol.proofs.Rounds.{rounds_law}
use Rattle.protocol.proofs.laws.nine_rounds_are_enough.Goals as goal

pub returns : goal.returns
returns c = rounds_law

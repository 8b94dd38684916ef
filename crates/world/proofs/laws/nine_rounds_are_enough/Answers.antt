-- Why `laws::nine_rounds_are_enough` meets its contract.
use Rattle.protocol.proofs.Rounds.{rounds_law}
use Rattle.world.proofs.laws.nine_rounds_are_enough.Goals as goal

pub returns : goal.returns
returns c = λ catalogue. rounds_law

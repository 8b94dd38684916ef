-- Why `laws::rounds_letter_by_letter` meets its contract.
use Rattle.protocol.proofs.Rounds.{round_law}
use Rattle.world.proofs.laws.rounds_letter_by_letter.Goals as goal

pub returns : goal.returns
returns c = λ catalogue. round_law

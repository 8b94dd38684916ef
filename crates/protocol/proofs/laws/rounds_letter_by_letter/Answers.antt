use Rattle.protocol.proofs.Rounds.{round_law}
use Rattle.protocol.proofs.laws.rounds_letter_by_letter.Goals as goal

pub returns : goal.returns
returns c = round_law

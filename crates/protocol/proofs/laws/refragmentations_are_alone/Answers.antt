use Rattle.protocol.proofs.Alone.{refragments_alone}
use Rattle.protocol.proofs.SplitRuns.{splits_lawful}
use Rattle.protocol.proofs.laws.refragmentations_are_alone.Goals as goal

pub returns : goal.returns
returns c = refragments_alone splits_lawful

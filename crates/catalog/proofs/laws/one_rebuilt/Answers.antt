use Rattle.catalog.proofs.Fragments.{one_rebuilt}
use Rattle.catalog.proofs.laws.one_rebuilt.Goals as goal

pub returns : goal.returns
returns c = one_rebuilt

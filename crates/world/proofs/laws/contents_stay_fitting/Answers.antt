-- Why `laws::contents_stay_fitting` meets its contract.
use Rattle.protocol.proofs.Fitting.{fitting_law}
use Rattle.world.proofs.laws.contents_stay_fitting.Goals as goal

pub returns : goal.returns
returns c = fitting_law c.language_is_lawful.ensures.of_language

-- Why `fit_is_within` meets its contract.
use Rattle.site.proofs.Limited.{fits_within}
use Rattle.site.proofs.laws.fit_is_within.Goals as goal

pub returns : goal.returns
returns c = fits_within

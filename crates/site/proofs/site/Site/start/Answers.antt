-- Why `Site::start` meets its contract.
use Rattle.std.proofs.Common.{ap, ◌∙◌, Err}
use Rattle.site.proofs.site.Site.start.Goals as goal

pub returns-in-Err-clause-damaged : goal.returns-in-Err-clause-damaged
returns-in-Err-clause-damaged g c = λ clean sound e. c.begin.ensures.fails.damaged clean sound (c.in-Err.is ∙ ap Err e)

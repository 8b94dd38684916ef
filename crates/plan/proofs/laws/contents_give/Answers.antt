-- Why `laws::contents_give` meets its contract.
use Rattle.plan.proofs.GivenContents.{contents_give, reads_give}
use Rattle.plan.proofs.laws.contents_give.Goals as goal

pub returns-clause-contents : goal.returns-clause-contents
returns-clause-contents c = contents_give

pub returns-clause-reads : goal.returns-clause-reads
returns-clause-reads c = reads_give

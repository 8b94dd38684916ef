-- Why `laws::contents_ascend` meets its contract.
use Rattle.plan.proofs.ContentParts.{contents_ascend}
use Rattle.plan.proofs.laws.contents_ascend.Goals as goal

pub returns : goal.returns
returns c = contents_ascend

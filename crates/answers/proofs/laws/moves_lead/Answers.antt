-- Why `laws::moves_lead` meets its contract.
use Rattle.answers.proofs.MovesLead.{moves_lead, moves_stay}
use Rattle.answers.proofs.laws.moves_lead.Goals as goal

pub returns-clause-lead : goal.returns-clause-lead
returns-clause-lead c = moves_lead c.contents_ascend.ensures

pub returns-clause-stay : goal.returns-clause-stay
returns-clause-stay c = moves_stay

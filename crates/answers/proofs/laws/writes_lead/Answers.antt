-- Why `laws::writes_lead` meets its contract.
use Rattle.answers.proofs.WritesLead.{writes_lead}
use Rattle.answers.proofs.laws.writes_lead.Goals as goal

pub returns : goal.returns
returns c = writes_lead c.leaf_names_are_unique.ensures c.contents_ascend.ensures

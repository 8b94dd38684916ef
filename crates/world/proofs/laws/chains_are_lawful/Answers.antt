-- Why `laws::chains_are_lawful` meets its contract.
use Rattle.world.proofs.ListIsLawful.{lawful_chain}
use Rattle.world.proofs.laws.chains_are_lawful.Goals as goal

pub returns : goal.returns
returns c = λ first rest same follow. lawful_chain c.writes_lead.ensures c.moves_lead.ensures.lead c.moves_lead.ensures.stay c.contents_ascend.ensures c.args.catalogs.now c.are_formed.ensures.formed first rest same follow

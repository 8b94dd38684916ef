-- Why `laws::serial_law_of_chains` meets its contract.
use Rattle.protocol.specs.Local.{local}
use Rattle.protocol.proofs.ListLaw.{list_law}
use Rattle.desk.specs.CatalogueDatabase.{databases}
use Rattle.desk.specs.Database.{statements}
use Rattle.world.proofs.laws.serial_law_of_chains.Goals as goal

pub returns : goal.returns
returns c = λ first rest same follow. list_law local (statements (databases first rest)) (c.chains_are_lawful.ensures first rest same follow)

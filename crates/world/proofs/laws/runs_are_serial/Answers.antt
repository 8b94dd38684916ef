-- Why `laws::runs_are_serial` meets its contract.
use Rattle.protocol.specs.Local.{local}
use Rattle.protocol.proofs.ListLaw.{list_law}
use Rattle.desk.specs.Database.{statements}
use Rattle.world.proofs.DatabaseIsOpened.{runs_serial}
use Rattle.world.proofs.laws.runs_are_serial.Goals as goal

pub returns : goal.returns
returns c = λ db listed. runs_serial db (list_law local (statements db) listed.lawful)

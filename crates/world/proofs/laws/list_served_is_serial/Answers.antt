-- Why `laws::list_served_is_serial` meets its contract.
use Rattle.world.proofs.ListCalls.{list_heard_serial}
use Rattle.world.proofs.ListDelivering.{list_served_serial}
use Rattle.world.proofs.laws.list_served_is_serial.Goals as goal

pub returns-clause-serial : goal.returns-clause-serial
returns-clause-serial c = list_served_serial

pub returns-clause-heard : goal.returns-clause-heard
returns-clause-heard c = list_heard_serial

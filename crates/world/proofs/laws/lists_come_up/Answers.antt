-- Why `laws::lists_come_up` meets its contract.
use Rattle.world.proofs.Anew.{list_anew_law}
use Rattle.world.proofs.Unborn.{list_new_stores}
use Rattle.world.proofs.Waking.{list_coming_up}
use Rattle.world.proofs.laws.lists_come_up.Goals as goal

pub returns-clause-goes_on : goal.returns-clause-goes_on
returns-clause-goes_on c = list_coming_up

pub returns-clause-anew : goal.returns-clause-anew
returns-clause-anew c = list_anew_law

pub returns-clause-without_rows : goal.returns-clause-without_rows
returns-clause-without_rows c = list_new_stores

-- Why `unkept` meets its contract.
use Rattle.std.proofs.Common.{refl, ap, ◌∙◌, map}
use Rattle.protocol.specs.Desk.{Aborted, By_store}
use Rattle.protocol.specs.Letters.{txn_name}
use Rattle.desk.specs.Database.{sent}
use Rattle.desk.specs.Transition.{voting}
use Rattle.desk.proofs.Endings.{ends_letters}
use Rattle.desk.proofs.commit.unkept.Goals as goal

pub returns-clause-turn : goal.returns-clause-turn
returns-clause-turn c = λ db txn old moves participants are is. record {
  stands = refl;
  letters = ap (map (sent db)) is ∙ ends_letters db txn (voting moves participants) (Aborted (txn_name txn) By_store) are;
  replies = refl;
}

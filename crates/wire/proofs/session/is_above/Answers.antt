-- Why `is_above` meets its contract.
use Rattle.std.proofs.Common.{sym}
use Rattle.std.proofs.lemmas.Bool.{ltb-true}
use Rattle.wire.proofs.Ascending.{above_last}
use Rattle.wire.proofs.session.is_above.Goals as goal

pub returns-in-Some : goal.returns-in-Some
returns-in-Some c = λ ascends above. above_last c.args.told.now c.in-Some.last.now c.args.number (sym c.in-Some.ensures.value) (ltb-true c.in-Some.last.now.number c.args.number above) ascends

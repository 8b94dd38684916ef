-- Why `last_of` meets its contract.
use Rattle.std.proofs.Common.{Some, None}
use Rattle.world.proofs.Numbered.{end_is}
use Rattle.world.proofs.log.last_of.Goals as goal

pub returns-in-Some : goal.returns-in-Some
returns-in-Some c = λ entries same. end_is c.args.before entries c.args.ends.now (Some c.in-Some.end.now) same c.in-Some.ensures.value

pub returns-in-None : goal.returns-in-None
returns-in-None c = λ entries same. end_is c.args.before entries c.args.ends.now None same c.in-None.ensures.value

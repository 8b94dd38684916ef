-- Why `scope::find` meets its contract.
use Rattle.std.proofs.Common.{arith}
use Rattle.reader.proofs.scope.find.Goals as goal

pub find_among-requires : goal.find_among-requires
find_among-requires c = rw c.as_slice.ensures.value (omega (arith, c.scope.invariant.0, c.scope.invariant.1))

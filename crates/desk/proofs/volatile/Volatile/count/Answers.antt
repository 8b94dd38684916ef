-- Why `Volatile::count` meets its contract.
use Rattle.std.proofs.Common.{ap}
use Rattle.desk.specs.State.{volatile_from}
use Rattle.desk.proofs.volatile.Volatile.count.Goals as goal

pub returns-clause-counted : goal.returns-clause-counted
returns-clause-counted c = λ old here. ap (λ entries. volatile_from entries c.args.self.now.undecided c.args.self.now.life c.args.self.now.number c.args.self.now.version) (c.count_at.ensures old here)

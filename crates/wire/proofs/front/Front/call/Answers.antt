-- Why `call` meets its contract.
use Rattle.wire.proofs.front.Front.call.Goals as goal

pub returns-clause-ok : goal.returns-clause-ok
returns-clause-ok g c = record { between = c.put_through.new.self.cell; called = c.in_ok-fault.ensures.ok; rest = c.give_up-stuck.ensures.given_up }

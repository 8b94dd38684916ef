-- Why `Planned::new` meets its contract.
use Rattle.desk.proofs.transaction.Planned.new.Goals as goal

pub invariant_of-result : goal.invariant_of-result
invariant_of-result c = (c.in_ok-reduced.ensures.fetched, c.in_ok-reduced.ensures.uniform)

pub returns-clause-finds : goal.returns-clause-finds
returns-clause-finds c = c.in_ok-reduced.ensures.rows

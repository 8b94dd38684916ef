-- Why `commit` meets its contract.
use Rattle.desk.proofs.desk.Desk.commit.Goals as goal

pub returns-clause-ok : goal.returns-clause-ok
returns-clause-ok g c = λ db choice over fits. c.call_commit.ensures.ok db choice (g.S.DeskStore.kept c.args.self.now.store) over.distinct fits

-- Why `is_asked_for` meets its contract.
use Rattle.history.proofs.asked.is_asked_for.Goals as goal

pub returns-in-Begin : goal.returns-in-Begin
returns-in-Begin c = rw c.in-Begin.is c.asks_to_begin.ensures

pub returns-in-Commit : goal.returns-in-Commit
returns-in-Commit c = rw c.in-Commit.is c.asks_to_commit.ensures

pub returns-in-Rollback : goal.returns-in-Rollback
returns-in-Rollback c = rw c.in-Rollback.is c.asks_to_roll_back.ensures

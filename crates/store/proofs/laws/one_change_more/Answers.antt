-- Why one change more changes its leaf alone.
use Rattle.store.proofs.Changing.{changed_more}
use Rattle.store.proofs.laws.one_change_more.Goals as goal

pub returns : goal.returns
returns c = changed_more

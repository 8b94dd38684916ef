-- Why one change more touches its leaf alone.
use Rattle.store.proofs.Changing.{touches_more}
use Rattle.store.proofs.laws.one_touch_more.Goals as goal

pub returns : goal.returns
returns c = touches_more

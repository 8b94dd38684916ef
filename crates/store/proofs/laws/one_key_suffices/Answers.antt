-- Why conditions on one key need only that key.
use Rattle.store.proofs.ByKey.{changed_by_key}
use Rattle.store.proofs.laws.one_key_suffices.Goals as goal

pub returns : goal.returns
returns c = changed_by_key

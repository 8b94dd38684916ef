use Rattle.catalog.proofs.Instances.{item_is_valid, item_fragments}
use Rattle.catalog.proofs.laws.item_split.Goals as goal

pub returns : goal.returns
returns c = record { valid = item_is_valid; fragments = item_fragments }

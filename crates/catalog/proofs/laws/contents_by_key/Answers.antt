use Rattle.catalog.proofs.Keyed.{content-at, same_listing}
use Rattle.catalog.proofs.laws.contents_by_key.Goals as goal

pub returns : goal.returns
returns c = record { content = content-at; same = same_listing }

-- The cells that were looked at were taken apart.
use Rattle.history.specs.Records.{AreTaken}
use Rattle.history.proofs.records.gather.Given as goal

abbrev pub invariant-loop-cell : goal.invariant-loop-cell
invariant-loop-cell g l = AreTaken g.S.SiteStore.is_clean g.S.SiteStore.is_sound g.S.SiteStore.kept l.yielded l.sites.items l.pasts.items

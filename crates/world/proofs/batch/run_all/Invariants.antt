-- What each round of `run_all` keeps.
use Rattle.std.proofs.Common.{take}
use Rattle.world.specs.Batch.{RunsAll}
use Rattle.world.specs.Contents.{OfStores, counted}
use Rattle.world.proofs.BatchCalls.{GoWell}
use Rattle.world.proofs.batch.run_all.Given as goal

abbrev pub invariant-loop-transaction : goal.invariant-loop-transaction
invariant-loop-transaction g l = GoWell (OfStores g.D.DeskStore.is_clean g.S.SiteStore.is_clean) (OfStores g.D.DeskStore.is_sound g.S.SiteStore.is_sound) (counted g.D.DeskStore.kept g.S.SiteStore.kept g.D.DeskStore.refused g.S.SiteStore.refused) l.fn.machines l.machines
    (RunsAll (take l.transaction-index l.transactions) l.outcomes.items)

-- What each round of `state_all` keeps.
use Rattle.std.proofs.Common.{false, map, take}
use Rattle.world.specs.declared.event.Call.TheVariants as call
use Rattle.world.specs.Batch.{Makes}
use Rattle.world.specs.Contents.{OfStores, counted}
use Rattle.world.proofs.BatchCalls.{GoWell}
use Rattle.world.proofs.batch.state_all.Given as goal

abbrev pub invariant-loop-text : goal.invariant-loop-text
invariant-loop-text g l = GoWell (OfStores g.D.DeskStore.is_clean g.S.SiteStore.is_clean) (OfStores g.D.DeskStore.is_sound g.S.SiteStore.is_sound) (counted g.D.DeskStore.kept g.S.SiteStore.kept g.D.DeskStore.refused g.S.SiteStore.refused) l.fn.machines l.machines
    (Makes (map (λ text. call.State l.txn text) (take l.text-index l.texts)) l.came.items false)

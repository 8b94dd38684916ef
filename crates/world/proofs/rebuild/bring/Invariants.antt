-- What each round of `bring` keeps.
use Rattle.std.proofs.Common.{◌≡◌, map, take}
use Rattle.meaning.specs.Whole.{Relations}
use Rattle.catalog.specs.Relation.{catalogue_of}
use Rattle.world.specs.Counted.{NoFewer, counts}
use Rattle.world.specs.Contents.{OfStores, held}
use Rattle.world.specs.Settled.{AreDecided, HasSitesOf, SettlesTo, brought_of}
use Rattle.world.proofs.rebuild.bring.Given as goal

-- the machines are as they were, and what came is what the fetches so far are to bring
abbrev pub invariant-loop-fetch : goal.invariant-loop-fetch
invariant-loop-fetch g l =
    let clean = OfStores g.D.DeskStore.is_clean g.S.SiteStore.is_clean in
    let sound = OfStores g.D.DeskStore.is_sound g.S.SiteStore.is_sound in
    let of = held g.D.DeskStore.kept g.S.SiteStore.kept in
    let catalogue = catalogue_of l.initial.machines.desk.catalog in
    (clean l.machines → clean l.initial.machines)
    × (clean l.machines → sound l.initial.machines → sound l.machines)
    × (clean l.machines → sound l.initial.machines → of l.machines ≡ of l.initial.machines)
    × (l.machines.desk.catalog ≡ l.initial.machines.desk.catalog)
    × (l.machines.desk.later.items ≡ l.initial.machines.desk.later.items)
    × ((whole : Relations) → clean l.machines → sound l.initial.machines → HasSitesOf catalogue (of l.initial.machines) → SettlesTo catalogue (of l.initial.machines) whole → AreDecided (of l.initial.machines).table l.decided
    → l.brought.items ≡ map (brought_of catalogue whole) (take l.fetch-index l.fetches))
    × NoFewer (counts g.D.DeskStore.refused g.S.SiteStore.refused l.initial.machines) (counts g.D.DeskStore.refused g.S.SiteStore.refused l.machines)

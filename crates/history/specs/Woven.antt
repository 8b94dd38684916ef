-- What a yes of the weaving says, and for what reasons it says no.
use Rattle.std.specs.Prelude.{◌≡◌, ◌⊎◌, ⊤, ℕ, codes, List, [], ◌∷◌, map}
use Rattle.std.specs.List.{AllByRecursion}
use Rattle.meaning.specs.Whole.{Relations}
use Rattle.catalog.specs.declared.relation.SplitRelation.{SplitRelation}
use Rattle.store.specs.declared.commit.DeskKept.{DeskKept}
use Rattle.store.specs.declared.prepared.SiteKept.{SiteKept}
use Rattle.protocol.specs.Desk.{Deed}
use Rattle.desk.specs.Database.{Database, language}
use Rattle.world.specs.declared.event.Entry as world
use Rattle.world.specs.declared.event.Event.{Event}
use Rattle.world.specs.Runs.{IsRun, IsSerialRun}
use Rattle.history.specs.declared.brought.Unbrought as unbrought
use Rattle.history.specs.declared.brought.Unbrought.TheVariants as brought
use Rattle.history.specs.declared.entry.Entry.{Entry}
use Rattle.history.specs.declared.merge.Unmerged as unmerged
use Rattle.history.specs.declared.merge.Unmerged.TheVariants as merged
use Rattle.history.specs.declared.told.NotStanding as untold
use Rattle.history.specs.declared.told.NotStanding.TheVariants as standing
use Rattle.history.specs.declared.told.Told.{Told}
use Rattle.history.specs.declared.weave.WeaveFault as faults
use Rattle.history.specs.declared.weave.WeaveFault.TheVariants as fault
use Rattle.history.specs.Brought.{HaveHappened, IsNotBrought}
use Rattle.history.specs.DeskHistory.{DeskState}
use Rattle.history.specs.Merge.{Act, Breaks, IsMerged}
use Rattle.history.specs.Told.{AllStand}
use Rattle.history.specs.Weaving.{Rebuilds, SitePast, machines_with}

-- Histories are put together by their numbers: each is there whole and in its order, and each letter that a machine took had been put out by an
-- entry with a smaller number and was addressed to it; these things have so happened.
pub record ArePutTogether (sites : List (List ℕ)) (rows : List (List Entry)) (happened : List world.Entry) : Type 0 where
  pub acts : List (Act Entry)
  pub merged : IsMerged (λ (entry : Entry). entry.number) rows acts
  pub have : HaveHappened sites [] acts happened

-- the events are those of all entries, the coordinator's and the others, put together by their numbers; and what was told stands in the coordinator's history
pub record IsWoven (db : Database) (entries : List Entry) (others : List (List Entry)) (lists : List (List Told)) (events : List Event) : Type 0 where
  pub happened : List world.Entry
  pub put : ArePutTogether db.sites (entries ∷ others) happened
  pub told : events ≡ map (λ (entry : world.Entry). entry.event) happened
  pub stand : AllStand db.schemas entries lists

-- what so happened is a run of the machines that ends in what they are now, whichever catalogue came into force, and it is serial; later: the catalogues that come later still
pub record IsRunOf (db : Database) (whole : Relations) (last : DeskState) (pasts : List SitePast) (later : List (List (List ℕ) × List SplitRelation)) (happened : List world.Entry) : Type 0 where
  pub past : List (Deed (language db))
  pub run : IsRun db whole (machines_with last pasts later) happened past
  pub serial : IsSerialRun db whole (machines_with last pasts later) happened

-- so for the whole relations that the fragments rebuilt at the opening
pub record WeavesRun (db : Database) (opening : DeskKept) (entries : List Entry) (last : DeskState) (pasts : List SitePast) (later : List (List (List ℕ) × List SplitRelation)) (lists : List (List Told)) (events : List Event) : Type 0 where
  pub woven : IsWoven db entries (map (λ past. past.entries) pasts) lists events
  pub run : (whole : Relations) → Rebuilds db opening.version whole pasts → IsRunOf db whole last pasts later woven.happened

-- at the opening nothing was decided or in doubt
abbrev pub IsSettled : DeskKept → List SiteKept → Type 0
IsSettled opening openings = (opening.commits ≡ []) × AllByRecursion (λ (kept : SiteKept). kept.rows.prepared ≡ []) openings

-- why a number breaks the order of the calls, or a letter's way
abbrev pub IsNotARun : List (List ℕ) → List (List Entry) → ℕ → Type 0
IsNotARun sites rows k =
    Breaks (λ (entry : Entry). entry.number) rows k
    ⊎ ((acts : List (Act Entry)) × (IsMerged (λ (entry : Entry). entry.number) rows acts × IsNotBrought sites [] acts k))

-- ---- the faults
abbrev pub out_of_order : unmerged.Unmerged → faults.WeaveFault
out_of_order merged.Memory = fault.Memory
out_of_order (merged.OutOfOrder k) = fault.NotARun k

abbrev pub not_brought : unbrought.Unbrought → faults.WeaveFault
not_brought brought.Memory = fault.Memory
not_brought (brought.NotBrought k) = fault.NotARun k

abbrev pub not_standing : untold.NotStanding → faults.WeaveFault
not_standing standing.Memory = fault.Memory
not_standing (standing.NotTold k) = fault.NotTold k

-- a fault of what was put together
abbrev pub IsOfOrder : faults.WeaveFault → Type 0
IsOfOrder (fault.NotARun k) = ⊤
IsOfOrder fault.NotSettled = ⊥
IsOfOrder fault.Memory = ⊤
IsOfOrder (fault.NotTold k) = ⊥

-- ---- in messages
abbrev pub weave_number : faults.WeaveFault → ℕ
weave_number (fault.NotARun k) = 1
weave_number fault.NotSettled = 2
weave_number fault.Memory = 3
weave_number (fault.NotTold k) = 4

abbrev pub weave_name : faults.WeaveFault → List ℕ
weave_name (fault.NotARun k) = codes "NotARun"
weave_name fault.NotSettled = codes "NotSettled"
weave_name fault.Memory = codes "Memory"
weave_name (fault.NotTold k) = codes "NotTold"

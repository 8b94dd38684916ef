-- The threads' law: histories that replay, put together by their numbers, are a run of the protocol, and so it is serial.
use Rattle.std.specs.Prelude.{◌≡◌, ℕ, true, false, List, [], ◌∷◌, map, if◌then◌else◌}
use Rattle.std.specs.FinMap as fin
use Rattle.std.specs.List.{AllByRecursion, list_any}
use Rattle.std.specs.Ordering.{is_eq}
use Rattle.terms.specs.declared.leaf.Leaf.{Leaf}
use Rattle.terms.specs.Leaf.{leaf_cmp}
use Rattle.catalog.specs.declared.relation.SplitRelation.{SplitRelation}
use Rattle.meaning.specs.Whole.{FitsSchema, Relations}
use Rattle.store.specs.declared.commit.DeskKept.{DeskKept}
use Rattle.store.specs.declared.prepared.SiteKept.{SiteKept}
use Rattle.store.specs.Content.{Content, made_by}
use Rattle.protocol.specs.Desk.{Deed, is_moving}
use Rattle.protocol.specs.Language.{Name}
use Rattle.site.specs.Seat.{Seat, is_called}
use Rattle.desk.specs.Database.{Database, IsPlace, language}
use Rattle.desk.specs.Place.{Place}
use Rattle.desk.specs.State.{desk_of}
use Rattle.world.specs.declared.event.Entry as world
use Rattle.world.specs.Machines.{Machines}
use Rattle.world.specs.Runs.{IsRun, IsSerialRun}
use Rattle.history.specs.declared.entry.Entry.{Entry}
use Rattle.history.specs.Brought.{HaveHappened}
use Rattle.history.specs.DeskHistory.{DeskRecorded, DeskState}
use Rattle.history.specs.Merge.{Act, IsMerged}
use Rattle.history.specs.SiteHistory.{SiteRecorded}

-- a site's opening, its entries, and what it is now
pub record SitePast : Type 0 where
  pub opening : SiteKept
  pub entries : List Entry
  pub last : Seat

-- a site has the leaves that some catalogue puts there
abbrev pub HasLeaves : Database → Seat → Type 0
HasLeaves db seat = (leaf : Leaf) → IsPlace db (seat.name, leaf) → list_any (λ other. is_eq (leaf_cmp leaf other)) seat.leaves ≡ true

-- what the stores of the sites kept of a place at the opening
abbrev pub fragment_at : List SitePast → Place → Content
fragment_at [] place = fin.empty
fragment_at (past ∷ pasts) place = if is_called place.0 past.last then made_by past.opening.parts place.1 else fragment_at pasts place

-- the machines as they are now, with the catalogues that come later
abbrev pub machines_with : DeskState → List SitePast → List (List (List ℕ) × List SplitRelation) → Machines
machines_with desk pasts later = record { desk = desk.content; table = desk.table; seats = map (λ past. past.last) pasts; later = later; refused = [] }

-- the histories of a database's coordinator and of its sites, in the catalogue's order: each replays, and at the opening nothing was decided or in doubt
pub record AreRecorded (db : Database) (opening : DeskKept) (entries : List Entry) (last : DeskState) (pasts : List SitePast) : Type 0 where
  pub desk : DeskRecorded db opening entries last
  pub sites : AllByRecursion (λ (past : SitePast). SiteRecorded past.opening past.entries past.last) pasts
  pub names : map (λ past. past.last.name) pasts ≡ db.sites
  pub leaves : AllByRecursion (λ (past : SitePast). HasLeaves db past.last) pasts
  pub decided : opening.commits ≡ []
  pub prepared : AllByRecursion (λ (past : SitePast). past.opening.rows.prepared ≡ []) pasts

-- at the opening the fragments rebuilt whole relations, under the catalogue of this number
pub record Rebuilds (db : Database) (n : ℕ) (whole : Relations) (pasts : List SitePast) : Type 0 where
  pub fits : FitsSchema db.schemas whole
  pub content : (place : Place) → fragment_at pasts place ≡ db.content n place whole

-- where no catalogue comes later, nobody gives a relation another split
abbrev pub IsStill : Database → DeskState → List (List (List ℕ) × List SplitRelation) → Type 0
IsStill db last later = later ≡ [] → (t : Name) → is_moving ((desk_of db last.table).txn t) ≡ false

-- the law of every list of catalogues: such histories are a run of the machines, from their opening to what they are now, whichever catalogue came into force
abbrev pub WovenAreRuns : Database → Type 0
WovenAreRuns db = (whole : Relations) (opening : DeskKept) (entries : List Entry) (last : DeskState) (pasts : List SitePast) (later : List (List (List ℕ) × List SplitRelation)) (acts : List (Act Entry)) (happened : List world.Entry) →
    AreRecorded db opening entries last pasts → IsStill db last later → Rebuilds db opening.version whole pasts → IsMerged (λ (entry : Entry). entry.number) (entries ∷ map (λ past. past.entries) pasts) acts → HaveHappened db.sites [] acts happened →
    (past : List (Deed (language db))) × IsRun db whole (machines_with last pasts later) happened past

-- so they are serial
abbrev pub WovenAreSerial : Database → Type 0
WovenAreSerial db = (whole : Relations) (opening : DeskKept) (entries : List Entry) (last : DeskState) (pasts : List SitePast) (later : List (List (List ℕ) × List SplitRelation)) (acts : List (Act Entry)) (happened : List world.Entry) →
    AreRecorded db opening entries last pasts → IsStill db last later → Rebuilds db opening.version whole pasts → IsMerged (λ (entry : Entry). entry.number) (entries ∷ map (λ past. past.entries) pasts) acts → HaveHappened db.sites [] acts happened →
    IsSerialRun db whole (machines_with last pasts later) happened

-- A database comes up over stores that are given: what they kept of a run, from which it goes on.
use Rattle.std.specs.Prelude.{◌≡◌, ⊤, ℕ, List, [], ◌∷◌, ◌++◌, map}
use Rattle.std.specs.List.{AllByRecursion, flat_map}
use Rattle.meaning.specs.Whole.{FitsSchema, Relations}
use Rattle.catalog.specs.Catalogue.{Catalogue}
use Rattle.catalog.specs.FragmentLeaf.{schemas_of}
use Rattle.store.specs.declared.letter.Letter as letters
use Rattle.store.specs.DeskContent as desk_content
use Rattle.store.specs.DeskContent.{DeskContent}
use Rattle.store.specs.Frame.{LeavesStore}
use Rattle.store.specs.SiteContent.{SiteContent, BeginsLife}
use Rattle.protocol.specs.Client.{IsQuiet, ReachedLaw}
use Rattle.protocol.specs.Desk.{Deed, txn_restarted}
use Rattle.protocol.specs.Language.{Name}
use Rattle.protocol.specs.Letters.{letter_of}
use Rattle.protocol.specs.Site.{inquiries}
use Rattle.protocol.specs.Recovery.{RecoveryLaw}
use Rattle.protocol.specs.Serial.{committed, statements_of}
use Rattle.site.specs.declared.site.Site.{Site}
use Rattle.site.specs.Fault.{StopsStart}
use Rattle.site.specs.Locks.{leaves_in}
use Rattle.site.specs.Recovery.{Begins}
use Rattle.site.specs.State as site_state
use Rattle.site.specs.State.{AreHad}
use Rattle.desk.specs.declared.desk.Desk.{Desk as Coordinator}
use Rattle.desk.specs.declared.refusal.Refusal.TheVariants as refusals
use Rattle.desk.specs.CatalogueDatabase.{database, databases}
use Rattle.desk.specs.Database.{Database, language}
use Rattle.desk.specs.Recovery.{Rises}
use Rattle.desk.specs.Request.{IsOver}
use Rattle.desk.specs.State.{IsMemory, desk_of, volatile_of}
use Rattle.world.specs.declared.fault.Fault as faults
use Rattle.world.specs.declared.fault.Fault.TheVariants.{Desk, Site as OfSite}
use Rattle.world.specs.Client.{IsServed}
use Rattle.world.specs.Leaves.{known_leaves}
use Rattle.world.specs.Listed.{FitsList, StandsIn}
use Rattle.world.specs.ListServed.{IsListServed}
use Rattle.world.specs.Machines.{AreFit, Machines, world_of}
use Rattle.world.specs.Seated.{seats_in}
use Rattle.world.specs.Settled.{after_committed}
use Rattle.world.specs.Sites.{Seat}

-- the stores keep what those of these machines kept; what the machines had in memory doesn't matter
pub record AreKept (machines : Machines) (of_desk : DeskContent) (of_sites : List SiteContent) : Type 0 where
  pub desk : machines.desk ≡ of_desk
  pub sites : map (λ seat. seat.kept) machines.seats ≡ of_sites

-- each store has the leaves that the relations of a catalogue can have
abbrev pub HaveLeaves : Catalogue → List SiteContent → Type 0
HaveLeaves catalogue contents = AllByRecursion (λ kept. AreHad (known_leaves (schemas_of catalogue)) kept) contents

module _ {S : Type 0} (is_clean is_sound : S → Type 0) (kept : S → SiteContent) (refused : S → ℕ) (catalogue : Catalogue) where
  -- the site of this name has come up over a store: the next incarnation begins, in which its prepared rows stand
  pub record IsUp (name : List ℕ) (store : S) (site : Site S) : Type 0 where
    pub leaves_store : LeavesStore is_clean is_sound refused store site.store
    pub learnt : is_clean site.store → is_sound store
    pub called : site.volatile.name ≡ name
    pub leaves : leaves_in site.volatile.locks.items ≡ known_leaves (schemas_of catalogue)
    pub begins : is_clean site.store → AreHad (known_leaves (schemas_of catalogue)) (kept store) → Begins (kept site.store) (site_state.volatile_of site.volatile)
    pub life : is_clean site.store → BeginsLife (kept store) (kept site.store)

  -- so have the sites of these names
  abbrev pub AreUp : List (List ℕ) → List S → List (Site S) → Type 0
  AreUp [] [] [] = ⊤
  AreUp (name ∷ names) (store ∷ stores) (site ∷ sites) = IsUp name store site × AreUp names stores sites
  AreUp names stores sites = ⊥

-- the coordinator has come up over its store: the next incarnation begins, in which its commit rows stand
pub record IsDeskUp {D : Type 0} (is_clean is_sound : D → Type 0) (kept : D → DeskContent) (refused : D → ℕ) (store : D) (desk : Coordinator D) : Type 0 where
  pub leaves_store : LeavesStore is_clean is_sound refused store desk.store
  pub learnt : is_clean desk.store → is_sound store
  pub rises : (db : Database) → IsOver db desk.catalog.0 → is_clean desk.store → Rises db (kept desk.store) (volatile_of desk.volatile)
  pub life : is_clean desk.store → desk_content.BeginsLife (kept store) (kept desk.store)
  pub memory : IsMemory (volatile_of desk.volatile)

-- why a database doesn't come up: memory ran out, a store's medium has refused, or its rows are damaged, or an incarnation is the last, or the coordinator's store keeps the number of no catalogue that is given
abbrev pub StopsOpening : faults.Fault → Type 0
StopsOpening (Desk refusals.Memory) = ⊤
StopsOpening (Desk refusals.Full) = ⊤
StopsOpening (Desk refusals.Chain) = ⊤
StopsOpening (Desk (refusals.Store fault)) = ⊤
StopsOpening (OfSite fault) = StopsStart fault
StopsOpening fault = ⊥

-- a site has come up over what another one of its name kept
pub record Wakes (old new : Seat) : Type 0 where
  pub named : new.name ≡ old.name
  pub begins : Begins new.kept new.table
  pub life : BeginsLife old.kept new.kept

-- so have all
abbrev pub AllWake : List Seat → List Seat → Type 0
AllWake [] [] = ⊤
AllWake [] (new ∷ news) = ⊥
AllWake (old ∷ olds) [] = ⊥
AllWake (old ∷ olds) (new ∷ news) = Wakes old new × AllWake olds news

-- machines that have come up over what the stores of others kept
pub record ComeUp (db : Database) (old new : Machines) : Type 0 where
  pub fit : AreFit db new
  pub sites : AllWake old.seats new.seats
  pub rises : Rises db new.desk new.table
  pub life : desk_content.BeginsLife old.desk new.desk
  pub memory : IsMemory new.table

-- whoever was undecided is aborted by a restart
abbrev pub lost_by : (db : Database) → Machines → List (Deed (language db))
lost_by db machines = let desk = desk_of db machines.table in flat_map (λ t. (txn_restarted t (desk.txn t)).deeds) desk.known

-- no ticket stands at these sites, neither a visit's nor a prepared row's
abbrev pub HaveNoTicket : List Seat → Type 0
HaveNoTicket seats = AllByRecursion (λ seat. seat.table.tickets ≡ []) seats

-- nothing stands in memory: no transaction at the coordinator, and no ticket at any site
pub record NothingStands (machines : Machines) : Type 0 where
  pub txns : machines.table.txns ≡ []
  pub tickets : HaveNoTicket machines.seats

-- a database begins: it is served over these whole relations, nothing has happened yet, and all is quiet
pub record IsBeginning (db : Database) (whole : Relations) (machines : Machines) : Type 0 where
  pub fits : FitsSchema db.schemas whole
  pub served : IsServed db whole machines []
  pub quiet : IsQuiet (world_of db machines [] [])

-- Where nothing stands in memory, a database that is served begins anew, over the whole relations that its committed transactions have made
abbrev pub BeginsAnewLaw : Database → Type 0
BeginsAnewLaw db = (whole : Relations) (machines : Machines) (past : List (Deed (language db))) → IsServed db whole machines past → NothingStands machines → IsBeginning db (after_committed db past whole) machines

-- Machines that come up over what the stores of others kept go on from what those did: they are those of the same run after restarts
pub record ComingUpLaw (db : Database) : Type 0 where
  pub served : (whole : Relations) (old new : Machines) (past : List (Deed (language db))) → IsServed db whole old past → IsMemory old.table → ComeUp db old new → IsServed db whole new (past ++ lost_by db old)

-- as machines come up: the rows stand at the coordinator and at each site, and nothing else
pub record AreUpAgain (db : Database) (machines : Machines) : Type 0 where
  pub desk : Rises db machines.desk machines.table
  pub sites : AllByRecursion (λ seat. Begins seat.kept seat.table) machines.seats

-- A database goes on from what happened before: it is served, all is quiet, no ticket stands at any site, and nothing more has been stated or committed
pub record GoesOnFrom (db : Database) (whole : Relations) (past : List (Deed (language db))) (machines : Machines) : Type 0 where
  pub more : List (Deed (language db))
  pub served : IsServed db whole machines (past ++ more)
  pub quiet : IsQuiet (world_of db machines [] (past ++ more))
  pub unvisited : HaveNoTicket machines.seats
  pub unstated : (txn : Name) → statements_of (past ++ more) txn ≡ statements_of past txn
  pub uncommitted : committed (past ++ more) ≡ committed past

-- the letters that are put out, with an inquiry about each prepared row of each site behind them
abbrev pub Inquires : {S : Type 0} → (S → SiteContent) → List (Site S) → List letters.Letter → List letters.Letter → Type 0
Inquires kept sites before after = map letter_of after ≡ map letter_of before ++ flat_map (λ seat. inquiries seat.name (site_state.state_of seat.kept seat.table)) (seats_in kept sites)

-- machines that have come up recover: what was prepared comes to its end, and then all is quiet
abbrev pub Recovers : (db : Database) → Machines → Machines → Type 0
Recovers db before after = ReachedLaw (language db) → RecoveryLaw (language db) → (whole : Relations) (past : List (Deed (language db))) → AreUpAgain db before → IsServed db whole before past → GoesOnFrom db whole past after

-- What a database over given stores goes on from: whatever machines were served over them in an earlier run, or none yet over new ones. of_desk, of_sites: what the stores keep
abbrev pub GoesOnOver : (catalogue : Catalogue) → DeskContent → List SiteContent → Machines → Type 0
GoesOnOver catalogue of_desk of_sites machines = (whole : Relations) (old : Machines) (past : List (Deed (language (database catalogue)))) → HaveLeaves catalogue of_sites → IsServed (database catalogue) whole old past → IsMemory old.table → AreKept old of_desk of_sites → GoesOnFrom (database catalogue) whole past machines

-- So it begins anew over the whole relations that the committed transactions of that run have made
abbrev pub BeginsAnewOver : (catalogue : Catalogue) → DeskContent → List SiteContent → Machines → Type 0
BeginsAnewOver catalogue of_desk of_sites machines = (whole : Relations) (old : Machines) (past : List (Deed (language (database catalogue)))) → HaveLeaves catalogue of_sites → IsServed (database catalogue) whole old past → IsMemory old.table → AreKept old of_desk of_sites
    → IsBeginning (database catalogue) (after_committed (database catalogue) past whole) machines

-- ---- over a list of catalogues, whichever is in force
-- machines over a list that have come up over what the stores of others kept
pub record ListComeUp (db : Database) (old new : Machines) : Type 0 where
  pub fit : FitsList db new
  pub sites : AllWake old.seats new.seats
  pub rises : Rises db new.desk new.table
  pub life : desk_content.BeginsLife old.desk new.desk
  pub memory : IsMemory new.table

-- Machines over a list that come up over what the stores of others kept go on from what those did: they are those of the same run after restarts, under the catalogue whose number the coordinator's store keeps
abbrev pub ListComingUpLaw : Database → Type 0
ListComingUpLaw db = (whole : Relations) (old new : Machines) (past : List (Deed (language db))) → IsListServed db whole old past → IsMemory old.table → ListComeUp db old new → IsListServed db whole new (past ++ lost_by db old)

-- A database over a list goes on from what happened before: it is served, all is quiet, no ticket stands at any site, and nothing more has been stated or committed
pub record ListGoesOnFrom (db : Database) (whole : Relations) (past : List (Deed (language db))) (machines : Machines) : Type 0 where
  pub more : List (Deed (language db))
  pub served : IsListServed db whole machines (past ++ more)
  pub quiet : IsQuiet (world_of db machines [] (past ++ more))
  pub unvisited : HaveNoTicket machines.seats
  pub unstated : (txn : Name) → statements_of (past ++ more) txn ≡ statements_of past txn
  pub uncommitted : committed (past ++ more) ≡ committed past

-- machines over a list that have come up recover: what was prepared comes to its end, and then all is quiet
abbrev pub ListRecovers : (db : Database) → Machines → Machines → Type 0
ListRecovers db before after = (whole : Relations) (past : List (Deed (language db))) → AreUpAgain db before → IsListServed db whole before past → ListGoesOnFrom db whole past after

-- A database over a list begins: it is served over these whole relations, nothing has happened yet, and all is quiet
pub record IsListBeginning (db : Database) (whole : Relations) (machines : Machines) : Type 0 where
  pub fits : FitsSchema db.schemas whole
  pub served : IsListServed db whole machines []
  pub quiet : IsQuiet (world_of db machines [] [])

-- Where nothing stands in memory, a database over a list that is served begins anew, over the whole relations that its committed transactions have made, under the catalogue in force
abbrev pub ListBeginsAnewLaw : Database → Type 0
ListBeginsAnewLaw db = (whole : Relations) (machines : Machines) (past : List (Deed (language db))) → IsListServed db whole machines past → NothingStands machines → IsListBeginning db (after_committed db past whole) machines

-- What a database of a chain goes on from: whatever machines were served over its stores in an earlier run, under whichever catalogue. It begins anew over the whole relations that the committed transactions of that run have made. of_desk, of_sites: what the stores keep; desk: its coordinator, now
abbrev pub ListGoesOnOver : {D : Type 0} → (first : Catalogue) (rest : List Catalogue) → DeskContent → List SiteContent → Coordinator D → Machines → Type 0
ListGoesOnOver first rest of_desk of_sites desk machines = (whole : Relations) (old : Machines) (past : List (Deed (language (databases first rest)))) → HaveLeaves first of_sites → IsListServed (databases first rest) whole old past → IsMemory old.table → AreKept old of_desk of_sites
    → ListGoesOnFrom (databases first rest) whole past machines × IsListBeginning (databases first rest) (after_committed (databases first rest) past whole) machines × StandsIn (databases first rest) desk

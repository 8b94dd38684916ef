-- The stores and the sites of a database as it is opened.
use Rattle.std.specs.Prelude.{◌≡◌, ◌<◌, ◌+◌, ◌^◌, ⊤, ℕ, suc, List, [], ◌∷◌, None, map, length}
use Rattle.std.specs.FinMap as fin
use Rattle.std.specs.List.{AllByRecursion}
use Rattle.terms.specs.declared.leaf.Leaf.{Leaf}
use Rattle.meaning.specs.Whole.{FitsSchema, Relations, rows_of}
use Rattle.catalog.specs.Catalogue.{Catalogue}
use Rattle.catalog.specs.FragmentLeaf.{catalogue_leaves, schemas_of}
use Rattle.store.specs.declared.name.Ticket.{Ticket}
use Rattle.store.specs.declared.name.Txn.{Txn}
use Rattle.store.specs.DeskContent.{DeskContent}
use Rattle.store.specs.Frame.{LeavesStore}
use Rattle.store.specs.SiteContent.{SiteContent}
use Rattle.site.specs.Recovery.{Begins}
use Rattle.site.specs.State.{AreHad}
use Rattle.desk.specs.CatalogueDatabase.{database, databases}
use Rattle.desk.specs.declared.desk.Desk.{Desk}
use Rattle.desk.specs.State.{IsMemory}
use Rattle.world.specs.Client.{IsServed}
use Rattle.world.specs.Contents.{OfGiven}
use Rattle.world.specs.Filling.{filled}
use Rattle.world.specs.Leaves.{known_leaves}
use Rattle.world.specs.Machines.{Machines}
use Rattle.world.specs.Listed.{StandsIn}
use Rattle.world.specs.ListServed.{IsListServed}
use Rattle.world.specs.Recovery.{AreKept, HaveLeaves, IsBeginning, IsListBeginning}
use Rattle.world.specs.Sites.{Seat}

-- a site's store keeps no part and no prepared row, and an incarnation is left
pub record KeepsNothing (kept : SiteContent) : Type 0 where
  pub content : (leaf : Leaf) → kept.content leaf ≡ fin.empty
  pub prepared : (ticket : Ticket) → kept.prepared ticket ≡ None
  pub life : kept.life + 1 < 2 ^ 63

-- so does each store of a catalogue's database: each site's, which has the leaves that its relations can have, and the coordinator's, which keeps no commit row
pub record KeepNothing (catalogue : Catalogue) (of_desk : DeskContent) (of_sites : List SiteContent) : Type 0 where
  pub leaves : HaveLeaves catalogue of_sites
  pub sites : AllByRecursion KeepsNothing of_sites
  pub commits : (txn : Txn) → of_desk.commits txn ≡ None
  pub life : of_desk.life + 1 < 2 ^ 63

-- the stores that are given for a catalogue's database are new: they are sound, and keep nothing. of_desk and of_site: what stores keep
pub record AreNew {D S : Type 0} (desk_is_sound : D → Type 0) (of_desk : D → DeskContent) (site_is_sound : S → Type 0) (of_site : S → SiteContent) (catalogue : Catalogue) (desk : D) (sites : List S) : Type 0 where
  pub sound : OfGiven desk_is_sound site_is_sound desk sites
  pub keep : KeepNothing catalogue (of_desk desk) (map of_site sites)

-- a store that kept nothing keeps the parts that whole relations have at the site of this number, and nothing else
pub record IsFilled (catalogue : Catalogue) (whole : Relations) (place : ℕ) (old new : SiteContent) : Type 0 where
  pub has : (leaf : Leaf) → new.has leaf ≡ old.has leaf
  pub content : (leaf : Leaf) → new.content leaf ≡ filled whole place (catalogue_leaves catalogue) leaf fin.empty
  pub prepared : (ticket : Ticket) → new.prepared ticket ≡ None

module _ {S : Type 0} (is_clean is_sound : S → Type 0) (kept : S → SiteContent) (refused : S → ℕ) (catalogue : Catalogue) (whole : Relations) where
  -- what it leaves of a store that these parts are put into it
  pub record Fills (place : ℕ) (old new : S) : Type 0 where
    pub leaves_store : LeavesStore is_clean is_sound refused old new
    pub filled : is_clean new → is_sound old → AreHad (known_leaves (schemas_of catalogue)) (kept old) → KeepsNothing (kept old) → IsFilled catalogue whole place (kept old) (kept new)

  -- so of the stores of sites, numbered on from a first one
  abbrev pub AllFilled : ℕ → List S → List S → Type 0
  AllFilled place [] [] = ⊤
  AllFilled place [] (new ∷ news) = ⊥
  AllFilled place (old ∷ olds) [] = ⊥
  AllFilled place (old ∷ olds) (new ∷ news) = Fills place old new × AllFilled (suc place) olds news

-- a site has begun, and has no prepared row
pub record IsAtRest (seat : Seat) : Type 0 where
  pub begins : Begins seat.kept seat.table
  pub prepared : (ticket : Ticket) → seat.kept.prepared ticket ≡ None

-- a site of this number and name has started: it knows the leaves that relations can have, keeps the parts that whole relations have there, and no prepared row
pub record IsStarted (catalogue : Catalogue) (whole : Relations) (place : ℕ) (name : List ℕ) (seat : Seat) : Type 0 where
  pub called : seat.name ≡ name
  pub leaves : seat.leaves ≡ known_leaves (schemas_of catalogue)
  pub content : (leaf : Leaf) → seat.kept.content leaf ≡ filled whole place (catalogue_leaves catalogue) leaf fin.empty
  pub rests : IsAtRest seat

-- so have the sites of these names, numbered on from a first one
abbrev pub AllStarted : Catalogue → Relations → ℕ → List (List ℕ) → List Seat → Type 0
AllStarted catalogue whole place [] [] = ⊤
AllStarted catalogue whole place [] (seat ∷ seats) = ⊥
AllStarted catalogue whole place (name ∷ names) [] = ⊥
AllStarted catalogue whole place (name ∷ names) (seat ∷ seats) = IsStarted catalogue whole place name seat × AllStarted catalogue whole (suc place) names seats

-- no relation has a row
abbrev pub HasNoRows : Relations → Type 0
HasNoRows whole = (name : List ℕ) → rows_of whole name ≡ []

-- machines that keep what these stores keep were served over whole relations, and nothing has happened
pub record WereServed (catalogue : Catalogue) (of_desk : DeskContent) (of_sites : List SiteContent) (whole : Relations) : Type 0 where
  pub machines : Machines
  pub kept : AreKept machines of_desk of_sites
  pub memory : IsMemory machines.table
  pub served : IsServed (database catalogue) whole machines []

-- New stores of a catalogue's database are those of machines that were served over relations without rows
abbrev pub NewStoresLaw : Catalogue → Type 0
NewStoresLaw catalogue = (whole : Relations) (of_desk : DeskContent) (of_sites : List SiteContent) → FitsSchema (schemas_of catalogue) whole → HasNoRows whole → length of_sites ≡ length catalogue.sites → KeepNothing catalogue of_desk of_sites → WereServed catalogue of_desk of_sites whole

-- A database over new stores begins over relations without rows
abbrev pub BeginsWithoutRows : Catalogue → DeskContent → List SiteContent → Machines → Type 0
BeginsWithoutRows catalogue of_desk of_sites machines = (whole : Relations) → FitsSchema (schemas_of catalogue) whole → HasNoRows whole → KeepNothing catalogue of_desk of_sites → IsBeginning (database catalogue) whole machines

-- ---- over a list of catalogues
-- machines of a chain's database that keep what these stores keep were served over whole relations, and nothing has happened
pub record ListWereServed (first : Catalogue) (rest : List Catalogue) (of_desk : DeskContent) (of_sites : List SiteContent) (whole : Relations) : Type 0 where
  pub machines : Machines
  pub kept : AreKept machines of_desk of_sites
  pub memory : IsMemory machines.table
  pub served : IsListServed (databases first rest) whole machines []

-- New stores of a chain's database, whichever of its catalogues they say is in force, are those of machines that were served over relations without rows
abbrev pub ListNewStoresLaw : Catalogue → List Catalogue → Type 0
ListNewStoresLaw first rest = (whole : Relations) (of_desk : DeskContent) (of_sites : List SiteContent) → FitsSchema (schemas_of first) whole → HasNoRows whole → length of_sites ≡ length first.sites → KeepNothing first of_desk of_sites → ListWereServed first rest of_desk of_sites whole

-- A database of a chain over new stores begins over relations without rows. desk: its coordinator, now
abbrev pub ListBeginsWithoutRows : {D : Type 0} → (first : Catalogue) (rest : List Catalogue) → DeskContent → List SiteContent → Desk D → Machines → Type 0
ListBeginsWithoutRows first rest of_desk of_sites desk machines = (whole : Relations) → FitsSchema (schemas_of first) whole → HasNoRows whole → KeepNothing first of_desk of_sites → IsListBeginning (databases first rest) whole machines × StandsIn (databases first rest) desk

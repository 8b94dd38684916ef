-- What a database begins with.
use Rattle.std.specs.Prelude.{◌≡◌, List, [], ◌∷◌, None}
use Rattle.std.specs.FinMap as finite
use Rattle.meaning.specs.Whole.{Relations}
use Rattle.catalog.specs.Catalogue.{Catalogue}
use Rattle.catalog.specs.FragmentLeaf.{schemas_of}
use Rattle.store.specs.DeskContent.{DeskContent}
use Rattle.store.specs.SiteContent.{SiteContent}
use Rattle.protocol.specs.Desk.{Deed}
use Rattle.desk.specs.CatalogueDatabase.{database, databases}
use Rattle.desk.specs.Database.{language}
use Rattle.desk.specs.State.{IsMemory}
use Rattle.world.specs.Chain.{StandsLast}
use Rattle.world.specs.Client.{IsServed}
use Rattle.world.specs.ListServed.{IsListServed}
use Rattle.world.specs.Machines.{Machines}
use Rattle.world.specs.Recovery.{AreKept, HaveLeaves}
use Rattle.world.specs.Settled.{after_committed}
use Rattle.databases.specs.Client.{GoesOn, Seen}
use Rattle.databases.specs.ListClient.{GoesOnOver, unhappened}
use Rattle.lines.specs.PlayLoad.{emptied}

-- what stores kept as a database was opened over them: the coordinator's, and those of the sites
pub record Found : Type 0 where
  pub desk : DeskContent
  pub sites : List SiteContent

-- a database begins with relations without rows, or with what its stores kept
pub data Origin : Type 0 where
  New : Origin
  Kept : (found : Found) → Origin

-- what stores kept
abbrev pub IsKept : Origin → Type 0
IsKept origin = (found : Found) × (origin ≡ Kept found)

-- the relations of a catalogue, with no row
abbrev pub no_rows : Catalogue → Relations
no_rows catalogue = emptied (schemas_of catalogue) finite.empty

-- A run of this catalogue's database, wherever it was stopped, has left this in the stores. whole: what its committed transactions have made, one after another, of the relations
-- that it began with
pub record LeftBy (catalogue : Catalogue) (found : Found) (whole : Relations) : Type 0 where
  pub first : Relations
  pub machines : Machines
  pub past : List (Deed (language (database catalogue)))
  pub served : IsServed (database catalogue) first machines past
  pub memory : IsMemory machines.table
  pub kept : AreKept machines found.desk found.sites
  pub leaves : HaveLeaves catalogue found.sites
  pub is : whole ≡ after_committed (database catalogue) past first

-- the whole relations that a database begins with
abbrev pub BeginsWith : Catalogue → Origin → Relations → Type 0
BeginsWith catalogue New whole = whole ≡ no_rows catalogue
BeginsWith catalogue (Kept found) whole = LeftBy catalogue found whole

-- a database was opened: where its stores are clean it goes on from the relations that it begins with, and no transaction has begun
pub record IsBegun {B : Type 0} (seen : Seen B) (catalogue : Catalogue) (origin : Origin) (base : B) : Type 0 where
  pub idle : seen.current base ≡ None
  pub goes_on : (whole : Relations) → BeginsWith catalogue origin whole → seen.is_clean base → GoesOn seen catalogue whole [] base

-- a database that was opened, over what it may begin with
abbrev pub Begins : {B : Type 0} → Seen B → (Origin → Type 0) → Catalogue → B → Type 0
Begins seen IsOrigin catalogue base = (origin : Origin) × IsOrigin origin × IsBegun seen catalogue origin base

-- of these catalogues this is the last one, and in force as a database begins so
abbrev pub IsLastOf : List Catalogue → Origin → Catalogue → Type 0
IsLastOf catalogues New catalogue = catalogues ≡ catalogue ∷ []
IsLastOf catalogues (Kept found) catalogue = StandsLast found.desk.version catalogues catalogue

-- So a run of a database of these catalogues, whichever of them came into force, has left this in the stores
pub record LeftByOver (first : Catalogue) (rest : List Catalogue) (found : Found) (whole : Relations) : Type 0 where
  pub began : Relations
  pub machines : Machines
  pub past : List (Deed (language (databases first rest)))
  pub served : IsListServed (databases first rest) began machines past
  pub memory : IsMemory machines.table
  pub kept : AreKept machines found.desk found.sites
  pub leaves : HaveLeaves first found.sites
  pub is : whole ≡ after_committed (databases first rest) past began

-- the whole relations that a database of these catalogues begins with
abbrev pub BeginsWithOver : (first : Catalogue) (rest : List Catalogue) → Origin → Relations → Type 0
BeginsWithOver first rest New whole = whole ≡ no_rows first
BeginsWithOver first rest (Kept found) whole = LeftByOver first rest found whole

-- a database of these catalogues was opened, whichever of them is in force: where its stores are clean it goes on from the relations that it begins with, and no transaction has begun
pub record IsBegunOver {B : Type 0} (seen : Seen B) (first : Catalogue) (rest : List Catalogue) (origin : Origin) (base : B) : Type 0 where
  pub idle : seen.current base ≡ None
  pub goes_on : (whole : Relations) → BeginsWithOver first rest origin whole → seen.is_clean base → GoesOnOver seen (databases first rest) whole unhappened base

-- a database of these catalogues that was opened, over what it may begin with: over the last one, where that is in force, and over the list of them
pub record BeginsOver {B : Type 0} (seen : Seen B) (IsOrigin : Origin → Type 0) (catalogues : List Catalogue) (base : B) : Type 0 where
  pub origin : Origin
  pub is_origin : IsOrigin origin
  pub last : (catalogue : Catalogue) → IsLastOf catalogues origin catalogue → IsBegun seen catalogue origin base
  pub over : (first : Catalogue) (rest : List Catalogue) → catalogues ≡ first ∷ rest → IsBegunOver seen first rest origin base

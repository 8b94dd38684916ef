-- What a world is opened with.
use Rattle.std.specs.Prelude.{◌≡◌, ◌⊎◌, ℕ, List, [], ◌∷◌, map}
use Rattle.meaning.specs.Whole.{Relations}
use Rattle.catalog.specs.Catalogue.{Catalogue}
use Rattle.catalog.specs.Relation.{catalogue_of}
use Rattle.store.specs.declared.fault.StoreFault.{StoreFault}
use Rattle.desk.specs.CatalogueDatabase.{database, databases}
use Rattle.desk.specs.OfCatalogue.{from_number}
use Rattle.world.specs.Runs.{IsRun}
use Rattle.lines.specs.declared.fault.ProgramFault.{ProgramFault}
use Rattle.lines.specs.declared.fault.ProgramFault.TheVariants.{Memory, Store}
use Rattle.databases.specs.Schedule.{SeenWorld}

-- the world of this catalogue was opened over these whole relations: nothing has happened in it, and where its stores are clean, they are sound, and a run of no event leads to it, over the list that is this catalogue alone
pub record IsOpenedOver {W : Type 0} (seen : SeenWorld W) (catalogue : Catalogue) (whole : Relations) (world : W) : Type 0 where
  pub none : seen.entries world ≡ []
  pub catalog : seen.catalogue world ≡ catalogue
  pub single : (seen.machines world).later ≡ []
  pub sound : seen.is_clean world → seen.is_sound world
  pub stands : seen.is_clean world → seen.stands (database catalogue) world
  pub run : seen.is_clean world → IsRun (database catalogue) whole (seen.machines world) [] []

-- So over a chain of catalogues: those from one of them on are in force and come later. Where the stores are clean, the run is over the list of them, and the one in force is the one of its number.
pub record IsChainOpened {W : Type 0} (seen : SeenWorld W) (first : Catalogue) (rest : List Catalogue) (whole : Relations) (world : W) : Type 0 where
  pub none : seen.entries world ≡ []
  pub number : ℕ
  pub catalogs : seen.catalogue world ∷ map catalogue_of (seen.machines world).later ≡ from_number number (first ∷ rest)
  pub sound : seen.is_clean world → seen.is_sound world
  pub stands : seen.is_clean world → seen.stands (databases first rest) world
  pub run : seen.is_clean world → IsRun (databases first rest) whole (seen.machines world) [] []

-- what stops a program as a world is opened: memory ran out, or a store failed. Fails: why one may
abbrev pub StopsOpening : (StoreFault → Type 0) → ProgramFault → Type 0
StopsOpening Fails fault = (fault ≡ Memory) ⊎ ((why : StoreFault) × Fails why × (fault ≡ Store why))

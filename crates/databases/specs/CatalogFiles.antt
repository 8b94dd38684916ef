-- What the files of several catalogues give, one after another.
use Rattle.std.specs.Prelude.{◌≡◌, ◌⊎◌, ◌<◌, ⊤, ℕ, List, [], ◌∷◌, ◌++◌, length, map, IfErr, IfOk, IfSome, Option, Result, Ok, Err}
use Rattle.std.specs.Borrow.{Bor}
use Rattle.std.specs.Io.KnownBytes.{Keeps}
use Rattle.catalog.specs.declared.relation.SplitRelation.{SplitRelation}
use Rattle.catalog.specs.Catalogue.{Catalogue, IsValidCatalogue}
use Rattle.catalog.specs.Chain.{IsChain}
use Rattle.catalog.specs.Relation.{catalogue_of}
use Rattle.lines.specs.declared.catalog_file.CatalogFault.{CatalogFault}
use Rattle.lines.specs.declared.catalog_file.CatalogFault.TheVariants as catalog
use Rattle.lines.specs.declared.fault.ProgramFault.{ProgramFault}
use Rattle.lines.specs.declared.fault.ProgramFault.TheVariants.{Memory}
use Rattle.lines.specs.CatalogFile.{IsCatalogueFile, RefusesFile}
use Rattle.lines.specs.Input.{IsOfInput}
use Rattle.databases.specs.Client.{IsOfClient}
use Rattle.databases.specs.declared.catalog_files.ChainFault.{ChainFault}
use Rattle.databases.specs.declared.catalog_files.ChainFault.TheVariants.{Closed, Program, Refused, Unchained}
use Rattle.databases.specs.declared.catalog_files.Source.{Source}

-- the fault of a file that gives no catalogue, as one of several
abbrev pub fault_of_catalogue : CatalogFault → ChainFault
fault_of_catalogue (catalog.Program fault) = Program fault
fault_of_catalogue (catalog.Refused fault) = Refused fault

-- there is more than one
abbrev pub AreSeveral : {A : Type 0} → List A → Type 0
AreSeveral list = 1 < length list

-- why a database of a chain isn't opened: a fault may stop the program, or of several catalogues a store keeps the number of none
abbrev pub IsOfOpening : List Catalogue → ChainFault → Type 0
IsOfOpening catalogues (Program fault) = IsOfClient fault
IsOfOpening catalogues (Refused fault) = ⊥
IsOfOpening catalogues Unchained = AreSeveral catalogues
IsOfOpening catalogues Closed = ⊥

-- a fault that may come while catalogues are read, of which these come after the first: that they are no chain where there are some
abbrev pub IsOfCatalogues : {C : Type 0} → List (Source C) → ChainFault → Type 0
IsOfCatalogues next (Program fault) = ⊤
IsOfCatalogues next (Refused fault) = ⊤
IsOfCatalogues next Unchained = 0 < length next
IsOfCatalogues next Closed = ⊥

-- remaining: the bytes that a reader of a catalogue still gives, where they are known
module _ {C : Type 0} (remaining : C → Option (List ℕ)) where
  -- a source gives this catalogue
  pub record IsSourceOf (source : Source C) (catalogue : Catalogue) : Type 0 where
    pub reader : C
    pub opened : source.catalog ≡ Ok reader
    pub text : IfSome (remaining reader) (λ bytes. IsCatalogueFile bytes catalogue)
    pub valid : IsValidCatalogue catalogue

  -- the file of a source can't be opened or not be read
  abbrev pub IsUnread : Source C → ProgramFault → Type 0
  IsUnread source fault = IfOk source.catalog (λ reader. IfSome (remaining reader) (λ bytes. IsOfInput source.file fault)) × IfErr source.catalog (λ error. IsOfInput source.file fault)

  -- a source gives none: that, or its text is refused
  abbrev pub IsFaultOf : Source C → ChainFault → Type 0
  IsFaultOf source (Program fault) = IsUnread source fault
  IsFaultOf source (Refused fault) = (reader : C) × (source.catalog ≡ Ok reader) × IfSome (remaining reader) (λ bytes. RefusesFile bytes fault.relation fault.rule)
  IsFaultOf source Unchained = ⊥
  IsFaultOf source Closed = ⊥

  -- that ends it
  abbrev pub StopsAt : {T : Type 0} → Source C → Result T ChainFault → Type 0
  StopsAt source (Ok chain) = ⊥
  StopsAt source (Err fault) = IsFaultOf source fault

  -- What sources come to behind the catalogues that were read: the first one at fault ends it. Without one there is a chain, where they are one.
  abbrev pub GivesChain : List Catalogue → List (Source C) → Result (List (List (List ℕ) × List SplitRelation)) ChainFault → Type 0
  GivesChain read [] (Ok chain) = map catalogue_of chain ≡ read
  GivesChain read [] (Err (Program fault)) = fault ≡ Memory
  GivesChain read [] (Err (Refused fault)) = ⊥
  GivesChain read [] (Err Unchained) = ¬ (IsChain read)
  GivesChain read [] (Err Closed) = ⊥
  GivesChain read (source ∷ sources) result = StopsAt source result ⊎ ((catalogue : Catalogue) × IsSourceOf source catalogue × GivesChain (read ++ catalogue ∷ []) sources result)

  -- the first one, of these bytes, is none
  abbrev pub StopsAtFirst : {T : Type 0} → Bor (List ℕ) → List ℕ → Result T ChainFault → Type 0
  StopsAtFirst file bytes (Ok chain) = ⊥
  StopsAtFirst file bytes (Err (Program fault)) = IsOfInput file fault
  StopsAtFirst file bytes (Err (Refused fault)) = RefusesFile bytes fault.relation fault.rule
  StopsAtFirst file bytes (Err Unchained) = ⊥
  StopsAtFirst file bytes (Err Closed) = ⊥

  -- what a first catalogue, of these bytes, and sources come to
  abbrev pub GivesCatalogues : Bor (List ℕ) → List ℕ → List (Source C) → Result (List (List (List ℕ) × List SplitRelation)) ChainFault → Type 0
  GivesCatalogues file bytes sources result =
      StopsAtFirst file bytes result ⊎ ((catalogue : Catalogue) × IsCatalogueFile bytes catalogue × IsValidCatalogue catalogue × GivesChain (catalogue ∷ []) sources result)

  -- Something is done over the catalogues of files: they are looked at first, and where they are no chain nothing is written
  abbrev pub DoesOver : {T : Type 0} → Bor (List ℕ) → List ℕ → List (Source C) → (old new : Option (List ℕ)) → (List Catalogue → Result T ChainFault → Type 0) → Result T ChainFault → Type 0
  DoesOver file bytes sources old new Does (Ok done) = (chain : List (List (List ℕ) × List SplitRelation)) × GivesCatalogues file bytes sources (Ok chain) × Does (map catalogue_of chain) (Ok done)
  DoesOver file bytes sources old new Does (Err fault) =
      (GivesCatalogues file bytes sources (Err fault) × Keeps old new) ⊎ ((chain : List (List (List ℕ) × List SplitRelation)) × GivesCatalogues file bytes sources (Ok chain) × Does (map catalogue_of chain) (Err fault))

-- the file of a script can't be opened
abbrev pub IsUnopened : {T : Type 0} → Bor (List ℕ) → Result T ChainFault → Type 0
IsUnopened file (Ok done) = ⊥
IsUnopened file (Err (Program fault)) = IsOfInput file fault
IsUnopened file (Err (Refused fault)) = ⊥
IsUnopened file (Err Unchained) = ⊥
IsUnopened file (Err Closed) = ⊥

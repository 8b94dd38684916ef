-- Lemmas on the catalogues of files.
use Rattle.std.proofs.Common.{◌≡◌, ◌∷◌, ◌++◌, ℕ, Bor, List, [], Option, None, Some, Result, Ok, Err, IfErr, IfOk, IfSome, arith, inl, inr, map, refl, subst}
use Rattle.catalog.specs.declared.relation.SplitRelation.{SplitRelation}
use Rattle.catalog.specs.Catalogue.{Catalogue}
use Rattle.catalog.specs.Relation.{catalogue_of}
use Rattle.lines.specs.declared.catalog_file.CatalogFault.{CatalogFault}
use Rattle.lines.specs.declared.catalog_file.CatalogFault.TheVariants as catalog
use Rattle.lines.specs.declared.fault.ProgramFault.{ProgramFault}
use Rattle.lines.specs.declared.fault.ProgramFault.TheVariants.{Memory}
use Rattle.lines.specs.CatalogFile as file
use Rattle.lines.specs.Input.{IsOfInput}
use Rattle.databases.specs.declared.catalog_files.ChainFault.{ChainFault}
use Rattle.databases.specs.declared.catalog_files.ChainFault.TheVariants.{Closed, Program, Refused, Unchained}
use Rattle.databases.specs.declared.catalog_files.Source.{Source}
use Rattle.databases.specs.CatalogFiles.{DoesOver, GivesCatalogues, GivesChain, IsFaultOf, IsOfCatalogues, IsSourceOf, fault_of_catalogue, IsUnopened}
use Rattle.databases.proofs.SoloLemmas.{Keeps-same}

module _ {C : Type 0} (remaining : C → Option (List ℕ)) where
  -- memory may run out while a source is read
  no_memory : {E : Type 0} (file : Bor (List ℕ)) (given : Result C E) → IfOk given (λ reader. IfSome (remaining reader) (λ bytes. IsOfInput file Memory)) × IfErr given (λ error. IsOfInput file Memory)
  no_memory file (Err error) = (tt, inl refl)
  no_memory file (Ok reader) = (of_known (remaining reader), tt)
    where
      of_known : (known : Option (List ℕ)) → IfSome known (λ bytes. IsOfInput file Memory)
      of_known None = tt
      of_known (Some bytes) = inl refl

  -- and so at any time
  pub gives_memory : (read : List Catalogue) (sources : List (Source C)) → GivesChain remaining read sources (Err (Program Memory))
  gives_memory read [] = refl
  gives_memory read (source ∷ sources) = inl (no_memory source.file source.catalog)

  pub told_memory : (read : List Catalogue) (sources : List (Source C)) (result : Result (List (List (List ℕ) × List SplitRelation)) ChainFault) → result ≡ Err (Program Memory) → GivesChain remaining read sources result
  told_memory read sources result told = rw told (gives_memory read sources)

  -- the fault of a source that was opened
  pub opened_fault : (source : Source C) (reader : C) (fault : CatalogFault) → source.catalog ≡ Ok reader → IfSome (remaining reader) (λ bytes. file.IsFaultOf source.file bytes fault) → IsFaultOf remaining source (fault_of_catalogue fault)
  opened_fault source reader (catalog.Program fault) is told = (rw is told, rw is tt)
  opened_fault source reader (catalog.Refused fault) is told = (reader, is, told)

  -- a source that is at fault
  pub gives_fault : (read : List Catalogue) (source : Source C) (sources : List (Source C)) (fault : ChainFault) → IsFaultOf remaining source fault → GivesChain remaining read (source ∷ sources) (Err fault)
  gives_fault read source sources fault told = inl told

  -- a source that isn't
  pub gives_next : (read more : List Catalogue) (source : Source C) (sources : List (Source C)) (catalogue : Catalogue) (result : Result (List (List (List ℕ) × List SplitRelation)) ChainFault) → IsSourceOf remaining source catalogue → more ≡ read ++ catalogue ∷ [] → GivesChain remaining more sources result → GivesChain remaining read (source ∷ sources) result
  gives_next read more source sources catalogue result given is gives = inr (catalogue, given, subst (λ (read : List Catalogue). GivesChain remaining read sources result) is gives)

  -- where the catalogues are no chain nothing is written
  stopped : {T R E : Type 0} (known : Option (List ℕ)) (input : Result R E) (script_of : R → Option (List ℕ)) (file : Bor (List ℕ)) (sources : List (Source C)) (old : Option (List ℕ)) (Does : List ℕ → List Catalogue → Result T ChainFault → Type 0) (fault : ChainFault) → IfSome known (λ bytes. GivesCatalogues remaining file bytes sources (Err fault)) →
      IfSome known (λ bytes. IfOk input (λ reader. IfSome (script_of reader) (λ script. DoesOver remaining file bytes sources old old (Does script) (Err fault))))
  stopped None input script_of file sources old Does fault gives = tt
  stopped (Some bytes) (Err error) script_of file sources old Does fault gives = tt
  stopped (Some bytes) (Ok reader) script_of file sources old Does fault gives = over (script_of reader)
    where
      over : (script : Option (List ℕ)) → IfSome script (λ script. DoesOver remaining file bytes sources old old (Does script) (Err fault))
      over None = tt
      over (Some script) = inl (gives, Keeps-same old)

  pub told_stopped : {T R E : Type 0} (known : Option (List ℕ)) (input : Result R E) (script_of : R → Option (List ℕ)) (file : Bor (List ℕ)) (sources : List (Source C)) (old : Option (List ℕ)) (Does : List ℕ → List Catalogue → Result T ChainFault → Type 0) (fault : ChainFault) (result : Result T ChainFault) → result ≡ Err fault → IfSome known (λ bytes. GivesCatalogues remaining file bytes sources (Err fault)) →
      IfSome known (λ bytes. IfOk input (λ reader. IfSome (script_of reader) (λ script. DoesOver remaining file bytes sources old old (Does script) result)))
  told_stopped known input script_of file sources old Does fault result told gives = rw told (stopped known input script_of file sources old Does fault gives)

  -- so where the script can't be opened
  stopped_idle : {T R E : Type 0} (known : Option (List ℕ)) (input : Result R E) (file : Bor (List ℕ)) (sources : List (Source C)) (old : Option (List ℕ)) (Does : List Catalogue → Result T ChainFault → Type 0) (fault : ChainFault) → IfSome known (λ bytes. GivesCatalogues remaining file bytes sources (Err fault)) →
      IfErr input (λ error. IfSome known (λ bytes. DoesOver remaining file bytes sources old old Does (Err fault)))
  stopped_idle None (Err error) file sources old Does fault gives = tt
  stopped_idle (Some bytes) (Err error) file sources old Does fault gives = inl (gives, Keeps-same old)
  stopped_idle known (Ok reader) file sources old Does fault gives = tt

  pub told_idle : {T R E : Type 0} (known : Option (List ℕ)) (input : Result R E) (file : Bor (List ℕ)) (sources : List (Source C)) (old : Option (List ℕ)) (Does : List Catalogue → Result T ChainFault → Type 0) (fault : ChainFault) (result : Result T ChainFault) → result ≡ Err fault → IfSome known (λ bytes. GivesCatalogues remaining file bytes sources (Err fault)) →
      IfErr input (λ error. IfSome known (λ bytes. DoesOver remaining file bytes sources old old Does result))
  told_idle known input file sources old Does fault result told gives = rw told (stopped_idle known input file sources old Does fault gives)

  -- and where there is no script at all
  stopped_known : {T : Type 0} (known : Option (List ℕ)) (file : Bor (List ℕ)) (sources : List (Source C)) (old : Option (List ℕ)) (Does : List Catalogue → Result T ChainFault → Type 0) (fault : ChainFault) → IfSome known (λ bytes. GivesCatalogues remaining file bytes sources (Err fault)) → IfSome known (λ bytes. DoesOver remaining file bytes sources old old Does (Err fault))
  stopped_known None file sources old Does fault gives = tt
  stopped_known (Some bytes) file sources old Does fault gives = inl (gives, Keeps-same old)

  pub told_known : {T : Type 0} (known : Option (List ℕ)) (file : Bor (List ℕ)) (sources : List (Source C)) (old : Option (List ℕ)) (Does : List Catalogue → Result T ChainFault → Type 0) (fault : ChainFault) (result : Result T ChainFault) → result ≡ Err fault → IfSome known (λ bytes. GivesCatalogues remaining file bytes sources (Err fault)) → IfSome known (λ bytes. DoesOver remaining file bytes sources old old Does result)
  told_known known file sources old Does fault result told gives = rw told (stopped_known known file sources old Does fault gives)

  -- memory may run out before the first one is read
  pub first_memory : (known : Option (List ℕ)) (file : Bor (List ℕ)) (sources : List (Source C)) → IfSome known (λ bytes. GivesCatalogues remaining file bytes sources (Err (Program Memory)))
  first_memory None file sources = tt
  first_memory (Some bytes) file sources = inl (inl refl)

  -- what was done over a chain
  pub did : {T : Type 0} (bytes : List ℕ) (file : Bor (List ℕ)) (sources : List (Source C)) (chain : List (List (List ℕ) × List SplitRelation)) (old new : Option (List ℕ)) (Does : List Catalogue → Result T ChainFault → Type 0) (result : Result T ChainFault) → GivesCatalogues remaining file bytes sources (Ok chain) → Does (map catalogue_of chain) result → DoesOver remaining file bytes sources old new Does result
  did bytes file sources chain old new Does (Ok done) gives does = (chain, gives, does)
  did bytes file sources chain old new Does (Err fault) gives does = inr (chain, gives, does)

  -- so where the bytes of its first catalogue are known
  pub did_known : {T : Type 0} (known : Option (List ℕ)) (file : Bor (List ℕ)) (sources : List (Source C)) (chain : List (List (List ℕ) × List SplitRelation)) (old new : Option (List ℕ)) (Does : List Catalogue → Result T ChainFault → Type 0) (result : Result T ChainFault) → IfSome known (λ bytes. GivesCatalogues remaining file bytes sources (Ok chain)) → Does (map catalogue_of chain) result →
      IfSome known (λ bytes. DoesOver remaining file bytes sources old new Does result)
  did_known None file sources chain old new Does result gives does = tt
  did_known (Some bytes) file sources chain old new Does result gives does = did bytes file sources chain old new Does result gives does

  -- and those of a script
  pub did_script : {T : Type 0} (known script : Option (List ℕ)) (file : Bor (List ℕ)) (sources : List (Source C)) (chain : List (List (List ℕ) × List SplitRelation)) (old new : Option (List ℕ)) (Does : List ℕ → List Catalogue → Result T ChainFault → Type 0) (result : Result T ChainFault) → IfSome known (λ bytes. GivesCatalogues remaining file bytes sources (Ok chain)) →
      IfSome script (λ script. Does script (map catalogue_of chain) result) → IfSome known (λ bytes. IfSome script (λ script. DoesOver remaining file bytes sources old new (Does script) result))
  did_script None script file sources chain old new Does result gives does = tt
  did_script (Some bytes) None file sources chain old new Does result gives does = tt
  did_script (Some bytes) (Some script) file sources chain old new Does result gives does = did bytes file sources chain old new (Does script) result gives does

  -- and where it was opened
  pub did_input : {T R E : Type 0} (known : Option (List ℕ)) (input : Result R E) (script_of : R → Option (List ℕ)) (file : Bor (List ℕ)) (sources : List (Source C)) (chain : List (List (List ℕ) × List SplitRelation)) (old new : Option (List ℕ)) (Does : List ℕ → List Catalogue → Result T ChainFault → Type 0) (result : Result T ChainFault) → IfSome known (λ bytes. GivesCatalogues remaining file bytes sources (Ok chain)) →
      IfOk input (λ reader. IfSome (script_of reader) (λ script. Does script (map catalogue_of chain) result)) → IfSome known (λ bytes. IfOk input (λ reader. IfSome (script_of reader) (λ script. DoesOver remaining file bytes sources old new (Does script) result)))
  did_input None input script_of file sources chain old new Does result gives does = tt
  did_input (Some bytes) (Err error) script_of file sources chain old new Does result gives does = tt
  did_input (Some bytes) (Ok reader) script_of file sources chain old new Does result gives does = did_script (Some bytes) (script_of reader) file sources chain old new Does result gives does

  -- or not
  unopened : {R E : Type 0} (T : Type 0) (known : Option (List ℕ)) (input : Result R E) (file script : Bor (List ℕ)) (sources : List (Source C)) (chain : List (List (List ℕ) × List SplitRelation)) (old new : Option (List ℕ)) (fault : ProgramFault) → IfSome known (λ bytes. GivesCatalogues remaining file bytes sources (Ok chain)) →
      IfErr input (λ error. IsOfInput script fault) → IfErr input (λ error. IfSome known (λ bytes. DoesOver remaining {T = T} file bytes sources old new (λ catalogues. IsUnopened script) (Err (Program fault))))
  unopened T known (Ok reader) file script sources chain old new fault gives of = tt
  unopened T None (Err error) file script sources chain old new fault gives of = tt
  unopened T (Some bytes) (Err error) file script sources chain old new fault gives of = inr (chain, gives, of)

  pub told_unopened : {R E T : Type 0} (known : Option (List ℕ)) (input : Result R E) (file script : Bor (List ℕ)) (sources : List (Source C)) (chain : List (List (List ℕ) × List SplitRelation)) (old new : Option (List ℕ)) (fault : ProgramFault) (result : Result T ChainFault) → result ≡ Err (Program fault) → IfSome known (λ bytes. GivesCatalogues remaining file bytes sources (Ok chain)) →
      IfErr input (λ error. IsOfInput script fault) → IfErr input (λ error. IfSome known (λ bytes. DoesOver remaining file bytes sources old new (λ catalogues. IsUnopened script) result))
  told_unopened {T = T} known input file script sources chain old new fault result told gives of = rw told (unopened T known input file script sources chain old new fault gives of)

  -- no machine is lost while sources are read
  none_lost : (read : List Catalogue) (sources : List (Source C)) → GivesChain remaining read sources (Err Closed) → ⊥
  none_lost read [] gives = gives
  none_lost read (source ∷ sources) (inl stops) = stops
  none_lost read (source ∷ sources) (inr later) = none_lost (read ++ later.0 ∷ []) sources later.2

  -- one catalogue is a chain, so others come next where there is none
  of_next : (catalogue : Catalogue) (sources : List (Source C)) (fault : ChainFault) → GivesChain remaining (catalogue ∷ []) sources (Err fault) → IsOfCatalogues sources fault
  of_next catalogue sources (Program fault) gives = tt
  of_next catalogue sources (Refused fault) gives = tt
  of_next catalogue [] Unchained gives = absurd (gives tt)
  of_next catalogue (source ∷ sources) Unchained gives = omega arith
  of_next catalogue sources Closed gives = absurd (none_lost (catalogue ∷ []) sources gives)

  pub told_next : (catalogue : Catalogue) (sources : List (Source C)) (result : Result (List (List (List ℕ) × List SplitRelation)) ChainFault) → GivesChain remaining (catalogue ∷ []) sources result → IfErr result (IsOfCatalogues sources)
  told_next catalogue sources (Ok chain) gives = tt
  told_next catalogue sources (Err fault) gives = of_next catalogue sources fault gives

-- a first catalogue at fault is a fault of catalogues
pub of_first : {C : Type 0} (sources : List (Source C)) (fault : CatalogFault) → IsOfCatalogues sources (fault_of_catalogue fault)
of_first sources (catalog.Program fault) = tt
of_first sources (catalog.Refused fault) = tt

-- Lemmas on what a command over catalogues comes to.
use Rattle.std.proofs.Common.{◌≡◌, ℕ, Bool, List, Option, Some, None, Result, Ok, Err, IfErr, IfOk, IfSome, IsErrAnd, subst, sym}
use Rattle.databases.specs.declared.catalog_files.ChainFault.{ChainFault}
use Rattle.databases.specs.declared.catalog_files.ChainFault.TheVariants.{Closed, Program, Refused, Unchained}
use Rattle.databases.specs.declared.catalog_files.Source.{Source}
use Rattle.lines.specs.declared.outcome.Outcome.{Outcome}
use Rattle.databases.specs.CatalogFiles.{IsOfCatalogues}
use Rattle.databases.specs.Ending.{ComesTo, IsStopped, outcome_of_end, outcome_of_fault, outcome_of_script}

-- a command came to this end of a file
pub came_to_once : {End : Type 0} (known : Option (List ℕ)) (outcome_of : End → Outcome) (Ends : List ℕ → End → Type 0) (end : End) (outcome : Outcome) → outcome ≡ outcome_of end → IfSome known (λ bytes. Ends bytes end) → IfSome known (λ bytes. ComesTo outcome_of (Ends bytes) outcome)
came_to_once None outcome_of Ends end outcome is ended = tt
came_to_once (Some bytes) outcome_of Ends end outcome is ended = record { end = end; ended = ended; is = is }

-- a command came to this end of two files
pub came_to : {End R E : Type 0} (known : Option (List ℕ)) (input : Result R E) (remaining : R → Option (List ℕ)) (outcome_of : End → Outcome) (Ends : List ℕ → List ℕ → End → Type 0) (end : End) (outcome : Outcome) → outcome ≡ outcome_of end →
    IfSome known (λ bytes. IfOk input (λ reader. IfSome (remaining reader) (λ script. Ends bytes script end))) → IfSome known (λ bytes. IfOk input (λ reader. IfSome (remaining reader) (λ script. ComesTo outcome_of (Ends bytes script) outcome)))
came_to None input remaining outcome_of Ends end outcome is ended = tt
came_to (Some bytes) (Err error) remaining outcome_of Ends end outcome is ended = tt
came_to (Some bytes) (Ok reader) remaining outcome_of Ends end outcome is ended = came_to_once (remaining reader) outcome_of (Ends bytes) end outcome is ended

-- so where the second can't be opened
pub came_idle : {End R E : Type 0} (known : Option (List ℕ)) (input : Result R E) (outcome_of : End → Outcome) (Ends : List ℕ → End → Type 0) (end : End) (outcome : Outcome) → outcome ≡ outcome_of end →
    IfErr input (λ error. IfSome known (λ bytes. Ends bytes end)) → IfSome known (λ bytes. IfErr input (λ error. ComesTo outcome_of (Ends bytes) outcome))
came_idle None input outcome_of Ends end outcome is ended = tt
came_idle (Some bytes) (Ok reader) outcome_of Ends end outcome is ended = tt
came_idle (Some bytes) (Err error) outcome_of Ends end outcome is ended = record { end = end; ended = ended; is = is }

-- a script that did not end well is stopped
stopped_by : {C : Type 0} (next : List (Source C)) (fault : ChainFault) → IsOfCatalogues next fault → IsStopped next (outcome_of_fault fault)
stopped_by next (Program fault) of = tt
stopped_by next (Refused fault) of = tt
stopped_by next Unchained of = of
stopped_by next Closed of = of

pub stopped_script : {C : Type 0} (next : List (Source C)) (end : Result Bool ChainFault) (outcome : Outcome) → outcome ≡ outcome_of_script end → IsErrAnd end (IsOfCatalogues next) → IsStopped next outcome
stopped_script next (Ok any_refused) outcome is failed = absurd failed
stopped_script next (Err fault) outcome is failed = subst (IsStopped next) (sym is) (stopped_by next fault failed)

pub stopped_end : {C : Type 0} (next : List (Source C)) (end : Result Unit ChainFault) (outcome : Outcome) → outcome ≡ outcome_of_end end → IsErrAnd end (IsOfCatalogues next) → IsStopped next outcome
stopped_end next (Ok done) outcome is failed = absurd failed
stopped_end next (Err fault) outcome is failed = subst (IsStopped next) (sym is) (stopped_by next fault failed)

-- what follows where a file can't be opened
pub on_err : {R E : Type 0} (A C K : Type 0) (input : Result R E) → (A → C) → IfErr input (λ error. A × K) → IfErr input (λ error. C × K)
on_err A C K (Ok reader) follows so = tt
on_err A C K (Err error) follows so = (follows so.0, so.1)

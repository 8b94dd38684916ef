-- What a command over catalogues comes to.
use Rattle.std.specs.Prelude.{◌≡◌, ◌<◌, ℕ, Bool, true, false, List, length, Result, Ok, Err}
use Rattle.std.specs.Borrow.{Bor}
use Rattle.lines.specs.declared.outcome.Outcome.{Outcome}
use Rattle.lines.specs.declared.outcome.Outcome.TheVariants.{Done, Lost, SomeRefused, Refused, RefusedStatement, Stopped, Unchained}
use Rattle.lines.specs.declared.fault.ProgramFault.{ProgramFault}
use Rattle.databases.specs.declared.catalog_files.ChainFault.{ChainFault}
use Rattle.databases.specs.declared.catalog_files.ChainFault.TheVariants as chain
use Rattle.databases.specs.declared.catalog_files.Source.{Source}
use Rattle.lines.specs.Input.{IsOfInput}

-- what a fault of catalogues comes to
abbrev pub outcome_of_fault : ChainFault → Outcome
outcome_of_fault (chain.Program fault) = Stopped fault
outcome_of_fault (chain.Refused fault) = Refused fault
outcome_of_fault chain.Unchained = Unchained
outcome_of_fault chain.Closed = Lost

-- what the end of a script comes to, and that of a session or a schedule
abbrev pub outcome_of_script : Result Bool ChainFault → Outcome
outcome_of_script (Ok false) = Done
outcome_of_script (Ok true) = SomeRefused
outcome_of_script (Err fault) = outcome_of_fault fault

abbrev pub outcome_of_end : Result Unit ChainFault → Outcome
outcome_of_end (Ok done) = Done
outcome_of_end (Err fault) = outcome_of_fault fault

-- the outcome of a command that came to an end; outcome_of: what such an end comes to
pub record ComesTo {End : Type 0} (outcome_of : End → Outcome) (Ends : End → Type 0) (outcome : Outcome) : Type 0 where
  pub end : End
  pub ended : Ends end
  pub is : outcome ≡ outcome_of end

-- the outcome where this file can't be opened
pub record IsUnread (file : Bor (List ℕ)) (outcome : Outcome) : Type 0 where
  pub fault : ProgramFault
  pub of_file : IsOfInput file fault
  pub is : outcome ≡ Stopped fault

-- an outcome of a script that was stopped, or whose catalogues, the first one and those that come next, were refused
abbrev pub IsStopped : {C : Type 0} → List (Source C) → Outcome → Type 0
IsStopped next Done = ⊥
IsStopped next SomeRefused = ⊥
IsStopped next (Refused fault) = Unit
IsStopped next Unchained = 0 < length next
IsStopped next (RefusedStatement fault) = ⊥
IsStopped next Lost = ⊥
IsStopped next (Stopped fault) = Unit

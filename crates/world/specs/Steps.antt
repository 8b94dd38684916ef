-- One event of a world: what a step answers, and what stands after it.
use Rattle.std.specs.Prelude.{◌≡◌, ◌⊎◌, ◌++◌, ◌∷◌, [], ℕ, Bool, true, false, List, Result, Err, IfOk, IfErr, OnOk, OnErr}
use Rattle.meaning.specs.Whole.{Relations}
use Rattle.protocol.specs.Desk.{Deed}
use Rattle.desk.specs.declared.refusal.Refusal.TheVariants as refusals
use Rattle.desk.specs.Database.{Database, language}
use Rattle.world.specs.declared.event.Entry.{Entry}
use Rattle.world.specs.declared.event.Event as events
use Rattle.world.specs.declared.event.Event.TheVariants as event
use Rattle.world.specs.declared.fault.Fault as faults
use Rattle.world.specs.declared.fault.Fault.TheVariants as fault
use Rattle.world.specs.declared.machines.Machines as code
use Rattle.world.specs.declared.world.World as code_world
use Rattle.world.specs.Counted.{HaveRefused}
use Rattle.world.specs.EventApplied.{may_call}
use Rattle.world.specs.Events.{is_unsent}
use Rattle.world.specs.Frame.{CallsNoStore, StaysInForce, StaysOrFollows}
use Rattle.world.specs.Listed.{FitsList, IsListed, StandsIn}
use Rattle.world.specs.Machines.{Machines}
use Rattle.world.specs.Refused.{IsRefusedFor}
use Rattle.world.specs.Runs.{GoesOn, IsRun, IsSpared}

-- IsClean, IsSound: that no store of the machines failed on its own, and that each is sound; hold: what the machines hold; count: so, with how often the
-- media have refused. An event that happens has an entry, the last one, which is answered. Over each list of catalogues in which the machines stand, whichever comes into force, it is
-- accepted, the run goes on by just this event, the protocol's invariant holds in the world that it leads to, and the caller's flag is honoured (also no store is called unless it says so). By one
-- event at most one catalogue passes.
-- One that is refused changes nothing: no letter has the number or no site the name, exactly where that is told, or memory ran out, or the coordinator refuses the
-- call as the protocol does, or since a relation gets another split, or the letter's machine is at a limit with it, or a restart is of the last life, or a store refused.
pub record Steps {D S : Type 0} (IsClean IsSound : code.Machines D S → Type 0) (hold count : code.Machines D S → Machines) (what : events.Event) (answer : Result Entry faults.Fault) (old new : code_world.World D S) : Type 0 where
  pub clean : IsClean new.machines → IsClean old.machines
  pub sound : IsClean new.machines → IsSound old.machines → IsSound new.machines
  pub follows : StaysOrFollows old.machines new.machines
  pub entry : IfOk answer (λ entry. (entry.event ≡ what) × (new.entries.items ≡ old.entries.items ++ entry ∷ []))
  pub goes_on : (db : Database) (whole : Relations) (past : List (Deed (language db))) → IsListed db → StandsIn db old.machines.desk → IsClean new.machines → IsSound old.machines
      → IsRun db whole (hold old.machines) old.entries.items past → OnOk answer (GoesOn db whole (hold old.machines) (hold new.machines) old.entries.items new.entries.items past × StandsIn db new.machines.desk)
  pub spared : (db : Database) (past : List (Deed (language db))) → IsListed db → StandsIn db old.machines.desk → IsClean new.machines → IsSound old.machines
      → FitsList db (hold old.machines) → OnOk answer ((number : ℕ) (whether : Bool) → what ≡ event.Deliver number whether → IsSpared (HaveRefused (count old.machines).refused (count new.machines).refused) db (hold old.machines) (hold new.machines) old.entries.items new.entries.items past number whether)
  pub uncalled : may_call what ≡ false → CallsNoStore old.machines new.machines
  pub refused : (db : Database) → IsListed db → StandsIn db old.machines.desk → FitsList db (hold old.machines)
      → IfErr answer (IsRefusedFor (IsClean new.machines × IsSound old.machines) db (count old.machines) (count new.machines) old.entries.items what)
  pub unsent : answer ≡ Err fault.Unsent → is_unsent old.machines.desk.catalog.0 old.entries.items what ≡ true
  pub nowhere : is_unsent old.machines.desk.catalog.0 old.entries.items what ≡ true → (answer ≡ Err fault.Unsent) ⊎ (answer ≡ Err (fault.Desk refusals.Memory))
  pub err : IsClean new.machines → IsSound old.machines → OnErr answer (hold new.machines ≡ hold old.machines)
  pub stays : OnErr answer (StaysInForce old.machines new.machines)
  pub same : OnErr answer (new.entries.items ≡ old.entries.items)

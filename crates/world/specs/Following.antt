-- Events that happen to a world one after another.
use Rattle.std.specs.Prelude.{◌≡◌, ◌⊎◌, ⊤, ◌++◌, ◌∷◌, [], List, false}
use Rattle.desk.specs.Database.{Database}
use Rattle.world.specs.declared.event.Entry.{Entry}
use Rattle.world.specs.declared.event.Event as events
use Rattle.world.specs.declared.fault.Fault as faults
use Rattle.world.specs.Counted.{NoFewer}
use Rattle.world.specs.Fault.{is_memory}
use Rattle.world.specs.Machines.{Machines}
use Rattle.world.specs.Refused.{IsRefusedFor}

-- an event is refused, for no want of memory, and nothing but counts of refusals has changed
pub record PassesBy (db : Database) (before after : Machines) (entries more : List Entry) (what : events.Event) (told : faults.Fault) : Type 0 where
  pub apart : is_memory told ≡ false
  pub refused : IsRefusedFor ⊤ db before after entries what told
  pub same : record after { refused = before.refused } ≡ before
  pub none : more ≡ entries

-- an event has its entry, or it was refused and nothing has changed; of the machines how often the media have refused is told too
abbrev pub Happens : (db : Database) → events.Event → Machines → List Entry → Machines → List Entry → Type 0
Happens db what before entries after more = ((entry : Entry) × ((entry.event ≡ what) × (more ≡ entries ++ entry ∷ []))) ⊎ ((told : faults.Fault) × PassesBy db before after entries more what told)

-- events happen so, one after another
abbrev pub Follows : (db : Database) → List events.Event → Machines → List Entry → Machines → List Entry → Type 0
Follows db [] before entries after more = (after ≡ before) × (more ≡ entries)
Follows db (what ∷ rest) before entries after more = (between : Machines) × ((so_far : List Entry) × (Happens db what before entries between so_far × Follows db rest between so_far after more))

-- so, and what came then has changed nothing but counts of refusals
pub record FollowsAtLeast (db : Database) (what : List events.Event) (before : Machines) (entries : List Entry) (after : Machines) (more : List Entry) : Type 0 where
  pub there : Machines
  pub follows : Follows db what before entries there more
  pub same : record after { refused = there.refused } ≡ there
  pub counts : NoFewer there.refused after.refused

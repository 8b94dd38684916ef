-- What the coordinator's store in SQLite is to its callers.
use Rattle.sqlite.specs.Held.{Held, state}
use Rattle.sqlite.specs.Store.{Ghosts}
use Rattle.store.specs.DeskContent.{DeskContent}
use Rattle.sqlstore.specs.Decided.{decided_of}
use Rattle.sqlstore.specs.DeskSound.{IsDecided}

-- what is committed is as the store leaves it
abbrev pub IsSoundDesk : {S : Type 0} → Ghosts S → Held S → Type 0
IsSoundDesk g conn = IsDecided (state g conn).committed

-- what is committed
abbrev pub desk_kept : {S : Type 0} → Ghosts S → Held S → DeskContent
desk_kept g conn = decided_of (state g conn).committed

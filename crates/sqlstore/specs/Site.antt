-- What a site's store in SQLite is to its callers.
use Rattle.std.specs.Prelude.{List, IsTrue}
use Rattle.sqlite.specs.Held.{Held, state}
use Rattle.sqlite.specs.State.{HasCleanDisk}
use Rattle.sqlite.specs.Store.{Ghosts}
use Rattle.store.specs.SiteContent.{SiteContent}
use Rattle.terms.specs.declared.leaf.Leaf.{Leaf}
use Rattle.sqlstore.specs.Content.{kept_of}
use Rattle.sqlstore.specs.Sound.{IsStored}

-- the disk gave back what was written, and the connection is open
abbrev pub IsClean : {S : Type 0} → Ghosts S → Held S → Type 0
IsClean g conn = HasCleanDisk (state g conn) × IsTrue (state g conn).is_open

-- what is committed is as the store leaves it
abbrev pub IsSound : {S : Type 0} → Ghosts S → List Leaf → Held S → Type 0
IsSound g leaves conn = IsStored leaves (state g conn).committed

-- what is committed
abbrev pub kept_by : {S : Type 0} → Ghosts S → List Leaf → Held S → SiteContent
kept_by g leaves conn = kept_of leaves (state g conn).committed

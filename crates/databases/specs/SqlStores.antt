-- Stores in SQLite: those that have the leaves that their sites know, and new ones in memory.
use Rattle.std.specs.Prelude.{◌≡◌, List}
use Rattle.std.specs.List.{AllByRecursion}
use Rattle.sqlite.specs.Steps.{over_memory}
use Rattle.sqlite.specs.Store.{Ghosts}
use Rattle.sqlite_trees.specs.declared.memory.MemStore.{MemStore}
use Rattle.catalog.specs.Catalogue.{Catalogue}
use Rattle.catalog.specs.FragmentLeaf.{schemas_of}
use Rattle.sqlstore.specs.declared.desk.SqlDesk.{SqlDesk}
use Rattle.sqlstore.specs.declared.site.SqlSite.{SqlSite}
use Rattle.sqlstore.specs.Desk.{IsSoundDesk, desk_kept}
use Rattle.sqlstore.specs.DeskFresh.{KeepsNoCommit}
use Rattle.sqlstore.specs.Fresh.{KeepsNothing}
use Rattle.sqlstore.specs.Site.{IsSound, kept_by}
use Rattle.world.specs.Leaves.{known_leaves}

-- each store has the leaves that the relations of a catalogue can have
abbrev pub AreOfLeaves : {M : Type 0} {g : Ghosts M} → Catalogue → List (SqlSite M g) → Type 0
AreOfLeaves catalogue sites = AllByRecursion (λ site. site.leaves.items ≡ known_leaves (schemas_of catalogue)) sites

-- a store of a site is new: it has the leaves that the relations of a catalogue can have, and keeps nothing
pub record IsNewSite (catalogue : Catalogue) (site : SqlSite MemStore over_memory) : Type 0 where
  pub leaves : site.leaves.items ≡ known_leaves (schemas_of catalogue)
  pub sound : IsSound over_memory site.leaves.items site.conn
  pub nothing : KeepsNothing (kept_by over_memory site.leaves.items site.conn)

-- so are the stores of sites
abbrev pub AreNewSites : Catalogue → List (SqlSite MemStore over_memory) → Type 0
AreNewSites catalogue sites = AllByRecursion (IsNewSite catalogue) sites

-- the coordinator's store is new: it keeps no commit row
pub record IsNewDesk (desk : SqlDesk MemStore over_memory) : Type 0 where
  pub sound : IsSoundDesk over_memory desk.conn
  pub nothing : KeepsNoCommit (desk_kept over_memory desk.conn)

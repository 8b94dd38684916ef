-- What the coordinator's lists keep.
use Rattle.std.specs.Prelude.{◌≡◌, None}
use Rattle.std.specs.BTreeMap as tree
use Rattle.std.specs.Option.{option_map}
use Rattle.store.specs.declared.name.Txn.{Txn}
use Rattle.store.specs.declared.plain_desk.PlainDesk.{PlainDesk}
use Rattle.store.specs.DeskContent.{DeskContent, by_site}
use Rattle.store.specs.Name.{txn_cmp}

abbrev pub kept_of : PlainDesk → DeskContent
kept_of desk = record { commits = λ txn. option_map by_site (tree.get txn_cmp desk.commits txn); life = desk.life; version = desk.version }

-- no transaction has a commit row, no incarnation has begun, and the catalogue has its first version
pub record KeepsNothing (desk : PlainDesk) : Type 0 where
  pub commits : (txn : Txn) → (kept_of desk).commits txn ≡ None
  pub life : (kept_of desk).life ≡ 0
  pub version : (kept_of desk).version ≡ 1

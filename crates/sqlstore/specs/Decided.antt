-- What the tables of the coordinator mean.
use Rattle.std.specs.Prelude.{ℕ, pos, Bool, ◌&&◌, List, [], ◌∷◌, map, filter, unsigned_abs}
use Rattle.sqlite.specs.Effect.{Database}
use Rattle.sqlite.specs.Order.{Row}
use Rattle.store.specs.declared.commit.Voter.{Voter}
use Rattle.store.specs.declared.name.Txn.{Txn}
use Rattle.store.specs.DeskContent.{DeskContent, commit_row}
use Rattle.sqlstore.specs.Cells.{text_at, int_at, is_int}
use Rattle.sqlstore.specs.Content.{life_in}

-- whether a row is a transaction's
abbrev pub is_by : Txn → Row → Bool
is_by txn row = is_int (int_at row 1) (pos txn.life) && is_int (int_at row 2) (pos txn.number)

-- the voter that a row tells of
abbrev pub voter_in : Row → Voter
voter_in row = record { site = text_at row 3; ticket = record { life = unsigned_abs (int_at row 4); visit = unsigned_abs (int_at row 5) } }

-- the voters of a transaction
abbrev pub voters_by : List Row → Txn → List Voter
voters_by rows txn = map voter_in (filter (is_by txn) rows)

-- the catalogue's version: the first where no row says another
abbrev pub version_in : List Row → ℕ
version_in [] = 1
version_in (row ∷ rows) = unsigned_abs (int_at row 3)

-- what the coordinator's tables keep
abbrev pub decided_of : Database → DeskContent
decided_of db = record { commits = λ txn. commit_row (voters_by (db.trees 0) txn); life = life_in (db.trees 2); version = version_in (db.trees 2) }

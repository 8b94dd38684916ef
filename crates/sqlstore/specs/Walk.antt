-- A walk through all parts, in the order of their rows' numbers.
use Rattle.std.specs.Prelude.{◌≡◌, ℕ, Bool, true, if◌then◌else◌, List, [], ◌∷◌, ◌++◌, Option, Some, None, codes}
use Rattle.std.specs.List.{AllByRecursion}
use Rattle.sqlite.specs.Given.{HasGiven}
use Rattle.sqlite.specs.Held.{Held}
use Rattle.sqlite.specs.Order.{Row}
use Rattle.sqlite.specs.Store.{Ghosts}
use Rattle.sqlite.specs.Tree.{rowid}
use Rattle.sqlite.specs.View.{is_int}
use Rattle.sqlite_rules.specs.Lists.{Has}
use Rattle.store.specs.Content.{Changes}
use Rattle.terms.specs.declared.leaf.Leaf.{Leaf}
use Rattle.sqlstore.specs.Gathered.{ShowsAll}
use Rattle.sqlstore.specs.Listed.{with_rows}
use Rattle.sqlstore.specs.Numbered.{AreNumbered, Follows}
use Rattle.sqlstore.specs.Rows.{AreKeyed}
use Rattle.sqlstore.specs.Sound.{IsPart}

-- the query that shows them
abbrev pub parts_text : List ℕ
parts_text = codes "SELECT rowid, leaf, id, body FROM part ORDER BY rowid"

-- each row has a number of its own, and is a part of a site's leaf under its own key
pub record AreParts (leaves : List Leaf) (rows : List Row) : Type 0 where
  pub keyed : AreKeyed rows
  pub parts : (row : Row) → Has rows row → IsPart leaves row

-- a row has a number, and follows the row before it, if there is one
abbrev pub FollowsLast : Option Row → Row → Type 0
FollowsLast None row = is_int (rowid row) ≡ true
FollowsLast (Some before) row = Follows before row

-- the last of rows, if there is one
abbrev pub IsLast : List Row → Option Row → Type 0
IsLast rows None = rows ≡ []
IsLast rows (Some row) = (front : List Row) × (rows ≡ front ++ row ∷ [])

-- all rows were met, and were put into changes where they are kept
pub record HasWalked (leaves : List Leaf) (rows : List Row) (keeps : Bool) (old new : Changes) : Type 0 where
  pub met : List Row
  pub shows : ShowsAll rows met
  pub parts : AreParts leaves rows
  pub put : new ≡ (if keeps then with_rows leaves met old else old)

-- the walk has met these rows: each is a part, and follows the one before it; the last is at hand
pub record HasMet {S : Type 0} (g : Ghosts S) (leaves : List Leaf) (conn : Held S) (before : Option Row) (met : List Row) : Type 0 where
  pub given : HasGiven g parts_text [] conn met
  pub last : IsLast met before
  pub numbered : AreNumbered met
  pub parts : AllByRecursion (IsPart leaves) met

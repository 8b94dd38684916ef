-- What each round of `select::selected` keeps.
use Rattle.std.proofs.Common.{◌≡◌, ◌++◌, drop}
use Rattle.meaning.specs.Selected.{selected}
use Rattle.meaning.proofs.select.selected.Given as goal

-- the rows found and those selected of the rows that are left are those selected of all
abbrev pub invariant-loop-row : goal.invariant-loop-row
invariant-loop-row l = l.found.items ++ selected l.select (drop l.row-index l.rows) ≡ selected l.select l.rows

-- What each round of `select::add_qualified` keeps.
use Rattle.std.proofs.Common.{◌≡◌, ◌++◌, ◌∷◌, drop, map}
use Rattle.meaning.specs.Selected.{qualified}
use Rattle.meaning.proofs.select.add_qualified.Given as goal

-- the names so far and those of the columns that are left are all names
abbrev pub invariant-loop-column : goal.invariant-loop-column
invariant-loop-column l = l.names.items ++ map (λ column. l.source.name ++ 46 ∷ column) (drop l.column-index l.source.columns) ≡ l.fn.names.items ++ qualified l.source

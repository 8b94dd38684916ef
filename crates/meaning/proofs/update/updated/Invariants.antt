-- What each round of `update::updated` keeps.
use Rattle.std.proofs.Common.{◌≡◌, ◌++◌, drop}
use Rattle.std.specs.Option.{option_map}
use Rattle.meaning.specs.Updated.{updated}
use Rattle.meaning.proofs.update.updated.Given as goal

-- the changed rows and those that are left to change make the rows after the UPDATE
abbrev pub invariant-loop-row : goal.invariant-loop-row
invariant-loop-row l = option_map (λ others. l.changed.items ++ others) (updated l.update (drop l.row-index l.rows)) ≡ updated l.update l.rows

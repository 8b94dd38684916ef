-- The coordinator's history is there, and those of the sites that were looked at.
use Rattle.std.proofs.Common.{◌≡◌, ◌∷◌, map, take}
use Rattle.history.specs.declared.records.Past.{Past}
use Rattle.history.specs.Picks.{rows_of}
use Rattle.history.proofs.weave.histories.Given as goal

abbrev pub invariant-loop-past : goal.invariant-loop-past
invariant-loop-past l = rows_of l.rows.items ≡ l.fn.entries ∷ map (λ (past : Past). past.entries.items) (take l.past-index l.pasts)

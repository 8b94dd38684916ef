-- What each round of `overlay::make_all` keeps, and why it ends.
use Rattle.std.proofs.Common.{◌≡◌, ◌++◌, length, map}
use Rattle.store.specs.Change.{change_of}
use Rattle.site.specs.Overlay.{puts}
use Rattle.site.proofs.overlay.make_all.Given as goal

-- what is put, and what is left to put, are all
abbrev pub invariant-loop-rest : goal.invariant-loop-rest
invariant-loop-rest l = l.found.items ++ puts l.conds (map change_of l.rest.items) ≡ l.initial.found.items ++ puts l.conds (map change_of l.fn.changes.items)

abbrev pub decreases-loop-rest : goal.decreases-loop-rest
decreases-loop-rest l = length l.rest.items

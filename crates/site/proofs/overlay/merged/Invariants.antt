-- What each round of `overlay::merged` keeps, and why it ends.
use Rattle.std.proofs.Common.{◌+◌, length, map}
use Rattle.std.specs.List.Sorted.{IsStrictlySortedBy}
use Rattle.std.specs.Ordering.{int_cmp}
use Rattle.terms.specs.Row.{key_of}
use Rattle.store.specs.Change.{change_of}
use Rattle.site.proofs.Merging.{IsMerging}
use Rattle.site.proofs.overlay.merged.Given as goal

abbrev pub invariant-loop-part : goal.invariant-loop-part
invariant-loop-part l = IsStrictlySortedBy int_cmp (map key_of l.fn.kept.items) → IsMerging l.conds l.fn.kept.items (map change_of l.fn.changes.items) l.found.items l.kept.items (map change_of l.changes.items)

abbrev pub decreases-loop-part : goal.decreases-loop-part
decreases-loop-part l = length l.kept.items + length l.changes.items

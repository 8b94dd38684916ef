-- What each round of `settle` keeps.
use Rattle.std.proofs.Common.{◌≡◌}
use Rattle.terms.specs.declared.leaf.Leaf.{Leaf}
use Rattle.store.specs.Content.{made_by}
use Rattle.site.specs.Settled.{with_rows}
use Rattle.site.proofs.recovery.settle.Given as goal

-- the parts with the rows that are left are those with all rows
abbrev pub invariant-loop-row : goal.invariant-loop-row
invariant-loop-row l = (leaf : Leaf) → with_rows l.decided leaf l.row-iterator.rest.items (made_by l.parts leaf) ≡ with_rows l.fn.decided leaf l.fn.kept.rows.prepared (made_by l.fn.kept.parts leaf)

use Rattle.std.proofs.Common.{◌≡◌, ◌++◌, drop}
use Rattle.catalog.specs.Describes.{visible, visible_from}
use Rattle.catalog.proofs.frame.visible_columns.Given as goal

-- the columns so far and those that are left are all
abbrev pub invariant-loop-place : goal.invariant-loop-place
invariant-loop-place l = l.visible.items ++ visible_from l.place l.within (drop l.place l.columns) ≡ visible l.within l.columns

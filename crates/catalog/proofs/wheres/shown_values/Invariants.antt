use Rattle.std.proofs.Common.{◌≡◌, ◌++◌, drop}
use Rattle.catalog.specs.Inexact.{shown_from}
use Rattle.catalog.proofs.wheres.shown_values.Given as goal

-- what is shown so far and what is shown of the columns that are left is what is shown of all
abbrev pub invariant-loop-place : goal.invariant-loop-place
invariant-loop-place l = l.shown.items ++ shown_from l.place l.conds (drop l.place l.columns) (drop l.place l.values) ≡ shown_from 0 l.conds l.columns l.values

use Rattle.std.proofs.Common.{map, take}
use Rattle.std.specs.List.{AllByRecursion}
use Rattle.toml.specs.View.{view}
use Rattle.terms.specs.Cond.{IsCondOf}
use Rattle.reader.specs.Scope.{types}
use Rattle.catalog.specs.Describes.{Each, IsWhereOn}
use Rattle.catalog.proofs.wheres.conds_on.Given as goal

-- the conditions so far are those of the branches so far
abbrev pub invariant-loop-node : goal.invariant-loop-node
invariant-loop-node l = record {
  found : Each (IsWhereOn l.columns) (map view (take l.node-index l.nodes)) l.conds.items;
  fit : AllByRecursion (λ cs. AllByRecursion (IsCondOf (types l.columns)) cs) l.conds.items;
}

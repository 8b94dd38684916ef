-- What each round of `shelves::list_shelf` keeps.
use Rattle.std.proofs.Common.{◌≡◌, ◌++◌, filter}
use Rattle.terms.specs.Cond.{conds_hold}
use Rattle.store.specs.Shelves.{shelf_parts}
use Rattle.store.proofs.shelves.list_shelf.Given as goal

-- what is listed, and what is left to list, are all
abbrev pub invariant-loop-part : goal.invariant-loop-part
invariant-loop-part l = l.parts.items ++ filter (conds_hold l.conds) (shelf_parts l.part-iterator) ≡ filter (conds_hold l.conds) (shelf_parts l.shelf.entries)

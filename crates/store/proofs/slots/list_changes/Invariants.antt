-- What each round of `slots::list_changes` keeps.
use Rattle.std.proofs.Common.{◌≡◌, ◌++◌, map}
use Rattle.store.specs.Change.{by_key, change_of}
use Rattle.store.proofs.slots.list_changes.Given as goal

-- what is listed, and what is left to list, are all that are near
abbrev pub invariant-loop-slot : goal.invariant-loop-slot
invariant-loop-slot l = map change_of l.changes.items ++ by_key l.leaf l.slot-iterator ≡ by_key l.leaf l.initial.slot-iterator

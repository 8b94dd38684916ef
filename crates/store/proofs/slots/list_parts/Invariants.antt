-- What each round of `slots::list_parts` keeps.
use Rattle.std.proofs.Common.{◌≡◌, ◌++◌}
use Rattle.store.specs.Entries.{parts_of}
use Rattle.store.proofs.slots.list_parts.Given as goal

-- what is listed, and what is left to list, are all that are near
abbrev pub invariant-loop-slot : goal.invariant-loop-slot
invariant-loop-slot l = l.parts.items ++ parts_of l.leaf l.slot-iterator ≡ parts_of l.leaf l.initial.slot-iterator

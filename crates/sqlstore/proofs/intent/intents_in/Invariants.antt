-- What each round of `intent::intents_in` keeps.
use Rattle.std.proofs.Common.{◌≡◌, ◌++◌, map}
use Rattle.std.specs.List.{AllByRecursion}
use Rattle.sqlstore.specs.Intents.{HasBody, seen, wanted}
use Rattle.sqlstore.proofs.intent.intents_in.Given as goal

-- the intents so far, and those of the slots that are left, are those of all; each slot so far has a body
abbrev pub invariant-loop-slot : goal.invariant-loop-slot
invariant-loop-slot l = (map seen l.intents.items ++ map wanted l.slot-iterator ≡ map wanted l.slots.entries) × (AllByRecursion HasBody l.slot-iterator → AllByRecursion HasBody l.slots.entries)

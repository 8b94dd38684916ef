-- What each round of `slots::touch` keeps.
use Rattle.std.proofs.Common.{◌≡◌}
use Rattle.std.specs.List.{list_any}
use Rattle.std.specs.Map.{keys_of}
use Rattle.store.specs.Content.{is_of}
use Rattle.store.proofs.slots.touch.Given as goal

-- what is left touches the leaf as all that are near do
abbrev pub invariant-loop-slot : goal.invariant-loop-slot
invariant-loop-slot l = list_any (is_of l.leaf) (keys_of l.slot-iterator) ≡ list_any (is_of l.leaf) (keys_of l.initial.slot-iterator)

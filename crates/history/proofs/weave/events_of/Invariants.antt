-- The events of what was looked at are there.
use Rattle.std.proofs.Common.{◌≡◌, map}
use Rattle.world.specs.declared.event.Entry.{Entry}
use Rattle.history.proofs.weave.events_of.Given as goal

abbrev pub invariant-loop-entry : goal.invariant-loop-entry
invariant-loop-entry l = l.events.items ≡ map (λ (entry : Entry). entry.event) l.yielded

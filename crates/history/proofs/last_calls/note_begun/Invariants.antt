-- What is left to note is enough.
use Rattle.std.proofs.Common.{◌≡◌, drop}
use Rattle.store.specs.declared.name.Txn.{Txn}
use Rattle.history.specs.Standing.{known_call}
use Rattle.history.specs.Told.{begun_by, later}
use Rattle.history.proofs.last_calls.note_begun.Given as goal

abbrev pub invariant-loop-notice : goal.invariant-loop-notice
invariant-loop-notice l = (txn : Txn) → later (begun_by l.call (drop l.notice-index l.notices) txn) (known_call l.last txn) ≡ later (begun_by l.call l.notices txn) (known_call l.initial.last txn)

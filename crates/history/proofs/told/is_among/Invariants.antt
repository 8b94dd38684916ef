-- It is among the notices that are left, or among none.
use Rattle.std.proofs.Common.{drop}
use Rattle.history.specs.Standing.{IsAmong, known_call}
use Rattle.history.proofs.told.is_among.Given as goal

abbrev pub invariant-loop-notice : goal.invariant-loop-notice
invariant-loop-notice l = IsAmong l.schema.relations (known_call l.last) l.told l.notices → IsAmong l.schema.relations (known_call l.last) l.told (drop l.notice-index l.notices)

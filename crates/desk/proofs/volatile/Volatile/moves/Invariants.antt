-- What each round of `moves` keeps.
use Rattle.std.proofs.Common.{◌≡◌, ◌||◌, Some}
use Rattle.std.specs.List.{list_any}
use Rattle.desk.specs.Transition.{is_moving}
use Rattle.desk.proofs.volatile.Volatile.moves.Given as goal

-- whether anyone so far moves, or anyone of what is left, is whether anyone does
abbrev pub invariant-loop-txn : goal.invariant-loop-txn
invariant-loop-txn l = (l.moves || list_any (λ entry. is_moving (Some entry.1)) l.txn-iterator) ≡ list_any (λ entry. is_moving (Some entry.1)) l.self.standings.entries

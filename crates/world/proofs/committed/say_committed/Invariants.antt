-- What each round of `say_committed` keeps.
use Rattle.std.proofs.Common.{◌≡◌, ◌&&◌, drop}
use Rattle.std.specs.List.{list_any}
use Rattle.world.specs.Replies.{is_txn, is_commit}
use Rattle.world.proofs.committed.say_committed.Given as goal

-- one of the rest says so, if any does
abbrev pub invariant-loop-notice : goal.invariant-loop-notice
invariant-loop-notice l = list_any (λ notice. is_txn notice.txn l.txn && is_commit notice.reply) (drop l.notice-index l.notices) ≡ list_any (λ notice. is_txn notice.txn l.txn && is_commit notice.reply) l.notices

-- What each round of `add_answers` keeps.
use Rattle.std.proofs.Common.{◌≡◌, ◌++◌, [], drop, flat_map, if◌then◌else◌}
use Rattle.world.specs.Replies.{answer_of, is_txn}
use Rattle.world.proofs.committed.add_answers.Given as goal

-- the answers so far, and those of the rest
abbrev pub invariant-loop-notice : goal.invariant-loop-notice
invariant-loop-notice l = l.answers.items ++ flat_map (λ notice. if is_txn notice.txn l.txn then answer_of notice.reply else []) (drop l.notice-index l.notices) ≡ l.initial.answers.items ++ flat_map (λ notice. if is_txn notice.txn l.txn then answer_of notice.reply else []) l.notices

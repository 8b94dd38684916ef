-- What a session hears of its transaction.
use Rattle.std.specs.Prelude.{◌≡◌, Bool, true, false, IfOk, Option, Some, Result, Ok, Err}
use Rattle.desk.specs.declared.reply.Reply as replies
use Rattle.desk.specs.declared.reply.Reply.TheVariants as reply
use Rattle.wire.specs.declared.fault.CallFault.{CallFault}
use Rattle.wire.specs.declared.talk.Heard.{Heard}
use Rattle.wire.specs.Fault.{is_abort}

-- whether a reply is one to a call of a transaction that has begun, and tells of no abort
abbrev pub is_answered : replies.Reply → Bool
is_answered reply.Begun = false
is_answered (reply.Answer answer) = true
is_answered reply.Committed = true
is_answered reply.RolledBack = true
is_answered (reply.Aborted why) = false

-- whether a reply, if there is one, answers a statement
abbrev pub answers : Option replies.Reply → Bool
answers (Some (reply.Answer answer)) = true
answers other = false

-- what was heard, if anything was, is such a reply
abbrev pub IsAnswered : Result Heard CallFault → Type 0
IsAnswered result = IfOk result (λ heard. is_answered heard.reply ≡ true)

-- whether such a reply tells that the transaction has ended
abbrev pub is_last : replies.Reply → Bool
is_last reply.Committed = true
is_last reply.RolledBack = true
is_last other = false

-- whether what was heard tells that
abbrev pub tells_end : Result Heard CallFault → Bool
tells_end (Ok heard) = is_last heard.reply
tells_end (Err fault) = is_abort fault

-- whether a transaction is open after a reply; before: whether one was
abbrev pub open_after : Bool → replies.Reply → Bool
open_after before reply.Begun = true
open_after before (reply.Answer answer) = before
open_after before reply.Committed = false
open_after before reply.RolledBack = false
open_after before (reply.Aborted why) = false

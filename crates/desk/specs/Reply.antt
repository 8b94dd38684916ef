-- What replies tell the client of a transaction.
use Rattle.std.specs.Prelude.{Bool, true, false, List, [], ◌∷◌}
use Rattle.std.specs.List.{list_any}
use Rattle.meaning.specs.declared.answer.Answer as answers
use Rattle.desk.specs.declared.reply.Notice.{Notice}
use Rattle.desk.specs.declared.reply.Reply as replies
use Rattle.desk.specs.declared.reply.Reply.TheVariants.{Aborted, Answer, Begun, Committed, RolledBack}

-- whether a reply tells that a transaction has ended, that it was committed; whether it is a statement's answer
abbrev pub is_end : replies.Reply → Bool
is_end Begun = false
is_end (Answer answer) = false
is_end Committed = true
is_end RolledBack = true
is_end (Aborted why) = true

abbrev pub is_commit : replies.Reply → Bool
is_commit Begun = false
is_commit (Answer answer) = false
is_commit Committed = true
is_commit RolledBack = false
is_commit (Aborted why) = false

abbrev pub is_answer : replies.Reply → Bool
is_answer Begun = false
is_answer (Answer answer) = true
is_answer Committed = false
is_answer RolledBack = false
is_answer (Aborted why) = false

-- the answer in a reply
abbrev pub answer_of : replies.Reply → List answers.Answer
answer_of (Answer answer) = answer ∷ []
answer_of other = []

-- whether one of these notices does
abbrev pub tells : (replies.Reply → Bool) → List Notice → Bool
tells is notices = list_any (λ notice. is notice.reply) notices

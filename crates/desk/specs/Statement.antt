-- A statement begins, goes on and is answered.
use Rattle.std.specs.Prelude.{ℕ, Bool, List, [], ◌∷◌, map, Some}
use Rattle.meaning.specs.declared.answer.Answer.{Answer}
use Rattle.store.specs.declared.name.Txn.{Txn}
use Rattle.desk.specs.declared.fetches.Ask.{Ask}
use Rattle.desk.specs.declared.participant.Participant.{Participant}
use Rattle.desk.specs.declared.reply.Notice.{Notice}
use Rattle.desk.specs.declared.reply.Reply.TheVariants as reply
use Rattle.desk.specs.declared.transaction.Stage.{Stage}
use Rattle.desk.specs.declared.transaction.Undecided.{Undecided}
use Rattle.desk.specs.declared.transaction.Unsent.{Unsent}
use Rattle.desk.specs.Request.{notices}

-- the sites of its operations
abbrev pub ask_sites : List Ask → List (List ℕ)
ask_sites asks = map (λ ask. ask.site) asks

abbrev pub write_sites : List Unsent → List (List ℕ)
write_sites writes = map (λ unsent. unsent.site) writes

-- an undecided transaction of these participants that stands there
abbrev pub staged : List Participant → Stage → Bool → Undecided
staged participants stage moves = record { participants = participants; stage = stage; moves = moves }

-- what its client hears where these writes wait: the answer, if none does
abbrev pub answer_of : Txn → Answer → List Unsent → List Notice
answer_of txn answer [] = notices txn (Some (reply.Answer answer))
answer_of txn answer (first ∷ rest) = []

-- What a line of a script is answered by.
use Rattle.std.specs.Prelude.{ℕ, Bool, true, false, List, string_bytes}
use Rattle.lines.specs.declared.reply.Reply.{Reply}
use Rattle.lines.specs.declared.reply.Reply.TheVariants.{Answer, Refusal}

-- an answer, or a refusal, as it is printed
pub data Told : Type 0 where
  Answered : (text : List ℕ) → Told
  Refused : (text : List ℕ) → Told

abbrev pub told_by : Reply → Told
told_by (Answer text) = Answered (string_bytes text)
told_by (Refusal text) = Refused (string_bytes text)

abbrev pub text_of : Told → List ℕ
text_of (Answered text) = text
text_of (Refused text) = text

abbrev pub is_refusal : Told → Bool
is_refusal (Answered text) = false
is_refusal (Refused text) = true

-- What is printed of sessions at once.
use Rattle.std.specs.Prelude.{ℕ, List, [], ◌∷◌, ◌++◌, codes, Option, Some, None}
use Rattle.std.specs.Fmt.{decimal}
use Rattle.reader.specs.Refusal as reading
use Rattle.desk.specs.declared.reply.Reply.{Reply}
use Rattle.history.specs.declared.weave.WeaveFault.{WeaveFault}
use Rattle.history.specs.Woven.{weave_name, weave_number}
use Rattle.wire.specs.declared.fault.CallFault.{CallFault}
use Rattle.wire.specs.declared.fault.CallFault.TheVariants as call
use Rattle.wire.specs.Fault.{call_name, call_number}
use Rattle.databases.specs.PlayText.{reply_text, told, why_text}

-- the number that a refusal is printed with, which is the coordinator's where it has one
abbrev pub told_number : CallFault → ℕ
told_number call.NotAlone = 9
told_number call.NoNext = 10
told_number call.Chain = 11
told_number other = call_number other

-- why a command wasn't done
abbrev pub denied_text : CallFault → List ℕ
denied_text (call.Aborted why) = codes "aborted " ++ why_text why
denied_text (call.Read fault) = codes "refused read " ++ reading.fault_text fault
denied_text other = codes "refused " ++ decimal (told_number other) ++ codes " " ++ call_name other

-- a reply, in the lines of the session of this name
abbrev pub replied_lines : List ℕ → Reply → List ℕ
replied_lines name reply = told name (reply_text reply)

-- so why a command wasn't done
abbrev pub denied_lines : List ℕ → CallFault → List ℕ
denied_lines name fault = told name (denied_text fault)

-- whether what the machines did was one run of the protocol, or why not
abbrev pub verdict_text : Option WeaveFault → List ℕ
verdict_text None = codes "weave yes" ++ 10 ∷ []
verdict_text (Some fault) = codes "weave no " ++ decimal (weave_number fault) ++ codes " " ++ weave_name fault ++ 10 ∷ []

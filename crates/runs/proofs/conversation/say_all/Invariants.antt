use Rattle.std.proofs.Common.{map, string_bytes, take}
use Rattle.runs.specs.Conversation.{AreSaid}
use Rattle.runs.proofs.conversation.say_all.Given as goal

abbrev pub invariant-loop-command : goal.invariant-loop-command
invariant-loop-command g l = AreSaid l.name (map (λ command. command.now) (take l.command-index l.commands)) l.session.told (string_bytes l.printed)

use Rattle.std.proofs.Common.{◌≡◌, ◌++◌, map}
use Rattle.lines.specs.RunScript.{part_of, session_in}
use Rattle.lines.proofs.run_script.in_parts.Given as goal

abbrev pub invariant-loop-session : goal.invariant-loop-session
invariant-loop-session l = map part_of l.parts.items ++ map session_in l.session-iterator ≡ map session_in l.fn.sessions.entries

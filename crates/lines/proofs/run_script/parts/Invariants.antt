use Rattle.std.proofs.Common.{◌≡◌, None, map}
use Rattle.lines.specs.RunScript.{first_malformed, session_in, sessions_of}
use Rattle.lines.proofs.run_script.parts.Given as goal

abbrev pub invariant-loop-index : goal.invariant-loop-index
invariant-loop-index l = record {
  sessions : map session_in l.sessions.entries ≡ sessions_of (map (λ p. p.1.now) l.yielded);
  readable : first_malformed (map (λ p. p.1.now) l.yielded) ≡ None;
}

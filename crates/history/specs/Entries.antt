-- The entry of a call that was accepted.
use Rattle.std.specs.Prelude.{ℕ, None}
use Rattle.desk.specs.declared.reply.Out.{Out}
use Rattle.history.specs.declared.entry.Entry.{Entry}
use Rattle.history.specs.declared.entry.Input.{Input}

-- the machine put this out
abbrev pub accepted : ℕ → Input → Out → Entry
accepted number asked out = record { number = number; input = asked; kept = out.kept; letters = out.letters; replies = out.replies; fault = None }

-- What each round of `text::unquoted` keeps.
use Rattle.std.proofs.Common.{◌≡◌, length}
use Rattle.reader.specs.Reading.{unquoted}
use Rattle.reader.proofs.Quotes.{with_front}
use Rattle.reader.proofs.text.unquoted.Given as goal

abbrev pub invariant-loop-byte : goal.invariant-loop-byte
invariant-loop-byte l = with_front l.value.items (unquoted l.rest) ≡ unquoted l.bytes

abbrev pub decreases-loop-byte : goal.decreases-loop-byte
decreases-loop-byte l = length l.rest

-- What each round of `integer::magnitude` keeps.
use Rattle.std.proofs.Common.{◌≡◌, take}
use Rattle.reader.specs.Tokens.{magnitude_of_digits}
use Rattle.reader.proofs.integer.magnitude.Given as goal

abbrev pub invariant-loop-digit : goal.invariant-loop-digit
invariant-loop-digit l = l.magnitude ≡ magnitude_of_digits (take l.digit-index l.digits)

-- What each round of `starting::commits_again` keeps.
use Rattle.std.proofs.Common.{◌≡◌, ◌++◌, drop}
use Rattle.desk.specs.Recovery.{commits_again}
use Rattle.desk.proofs.recovery.commits_again.Given as goal

-- the letters so far, and those of the rest, are all
abbrev pub invariant-loop-row : goal.invariant-loop-row
invariant-loop-row l = l.letters.items ++ commits_again (drop l.row-index l.rows) ≡ commits_again l.rows

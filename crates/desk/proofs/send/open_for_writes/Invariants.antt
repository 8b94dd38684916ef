-- What each round of `open_for_writes` keeps.
use Rattle.std.proofs.Common.{◌≡◌, ◌++◌, drop}
use Rattle.desk.specs.Opening.{opens, visits}
use Rattle.desk.specs.Statement.{write_sites}
use Rattle.desk.proofs.send.open_for_writes.Given as goal

-- the participants and the letters so far, and those of the rest, are all
abbrev pub invariant-loop-participant : goal.invariant-loop-participant
invariant-loop-participant l = record {
  participants : l.going.participants.items ++ visits (write_sites l.writes) (drop l.participant-index l.participants) ≡ visits (write_sites l.writes) l.participants;
  letters : l.going.letters.items ++ opens l.txn (write_sites l.writes) (drop l.participant-index l.participants) ≡ opens l.txn (write_sites l.writes) l.participants;
}

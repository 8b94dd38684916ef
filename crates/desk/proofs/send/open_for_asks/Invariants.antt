-- What each round of `open_for_asks` keeps.
use Rattle.std.proofs.Common.{◌≡◌, ◌++◌, drop}
use Rattle.desk.specs.Opening.{opens, visits}
use Rattle.desk.specs.Statement.{ask_sites}
use Rattle.desk.proofs.send.open_for_asks.Given as goal

-- the participants and the letters so far, and those of the rest, are all
abbrev pub invariant-loop-participant : goal.invariant-loop-participant
invariant-loop-participant l = record {
  participants : l.going.participants.items ++ visits (ask_sites l.asks) (drop l.participant-index l.participants) ≡ visits (ask_sites l.asks) l.participants;
  letters : l.going.letters.items ++ opens l.txn (ask_sites l.asks) (drop l.participant-index l.participants) ≡ opens l.txn (ask_sites l.asks) l.participants;
}

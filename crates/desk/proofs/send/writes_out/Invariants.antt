-- What each round of `sending::writes_out` keeps.
use Rattle.std.proofs.Common.{◌≡◌, ◌++◌, drop}
use Rattle.desk.specs.Send.{AreShort, writes_go}
use Rattle.desk.proofs.send.writes_out.Given as goal

-- what went out so far, and what of the rest will, is what goes out of all
abbrev pub invariant-loop-unsent : goal.invariant-loop-unsent
invariant-loop-unsent l = record {
  letters : l.letters.items ++ (writes_go l.txn (drop l.unsent-index l.writes) l.participants).letters ≡ (writes_go l.fn.txn l.fn.writes l.fn.participants).letters;
  participants : (writes_go l.txn (drop l.unsent-index l.writes) l.participants).participants ≡ (writes_go l.fn.txn l.fn.writes l.fn.participants).participants;
  short : AreShort l.fn.participants → AreShort l.participants;
}

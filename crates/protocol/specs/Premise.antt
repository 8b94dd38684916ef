-- That the serial law speaks of runs of every kind: its premise is met where a transaction commits, and also where one aborts, restarts or is rolled back.
use Rattle.std.specs.Prelude.{◌≡◌, List, []}
use Rattle.protocol.specs.Language.{Lang, Name}
use Rattle.protocol.specs.Desk.{By_vote, By_restart, Deed, Committed, Aborted, Rolled_back}
use Rattle.protocol.specs.World.{World, Event, run}
use Rattle.protocol.specs.Serial.{AllExplained, IsOpening}
use Rattle.protocol.specs.Parts.{In, works}

-- a run whose evaluated statements are all explained, and in which a transaction that evaluated one came to this end
pub record ExplainedRun {L : Lang} (end : Name → Deed L) : Type 0 where
  pub whole : L.Whole
  pub opening : World L
  pub opens : IsOpening whole opening
  pub events : List (Event L)
  pub txn : Name
  pub evaluated : works (run events opening).past txn ≡ [] → ⊥
  pub ends : In (end txn) (run events opening).past
  pub explained : AllExplained (run events opening).past

-- the premise of the serial law is met by a run with each end: a commit, an abort by a vote No, an abort by a restart of the coordinator, a rollback
pub record PremiseIsMet (L : Lang) : Type 0 where
  pub committed : ExplainedRun {L = L} Committed
  pub aborted : ExplainedRun {L = L} (λ t. Aborted t By_vote)
  pub restarted : ExplainedRun {L = L} (λ t. Aborted t By_restart)
  pub rolled_back : ExplainedRun {L = L} Rolled_back

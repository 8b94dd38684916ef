-- What a client asks for, statements aside, evaluates nothing; so each statement that it evaluates is explained.
use Rattle.std.proofs.Common.{◌≡◌, refl, Bool, true, false, List, [], ◌∷◌, Option, None, if◌then◌else◌, ◌||◌, not}
use Rattle.protocol.specs.Language.{Lang, Name}
use Rattle.protocol.specs.Desk.{Choice, Commit_call, Give_up, Idle, Known, Reading, Rollback, Row, Stage, Txn, Undecided, Unknown, Voting, Writing, are_all_in, decides, on_commit_call, on_request, on_rollback, refusal, refusal_at, stays, voters_of, votes_go, By_store, ends_by, Committed, Aborted}
use Rattle.protocol.specs.Letter.{Vote}
use Rattle.protocol.specs.Serial.{AllExplained}

module _ {L : Lang} (t : Name) (choice : Choice L) where
  decided : (u : Undecided L) (kept : Bool) (voters : List (L.Site × Name)) → AllExplained (decides t u kept voters).deeds
  decided u kept [] = go (kept || not u.moves)
    where
      go : (b : Bool) → AllExplained (if b then record { txn = Unknown; letters = []; deeds = Committed t ∷ [] } else ends_by t u (Aborted t By_store)).deeds
      go true = (tt, tt)
      go false = (tt, tt)
  decided u true (v ∷ vs) = (tt, tt)
  decided u false (v ∷ vs) = (tt, tt)

  counted : (u : Undecided L) (votes : L.Site → Option Vote) (kept : Bool) → AllExplained (votes_go t u votes kept).deeds
  counted u votes kept = go (are_all_in u votes)
    where
      go : (b : Bool) → AllExplained (if b then decides t (record u { stage = Voting votes }) kept (voters_of u votes) else stays (Known (record u { stage = Voting votes }))).deeds
      go true = decided (record u { stage = Voting votes }) kept (voters_of u votes)
      go false = tt

  at_commit : (u : Undecided L) (stage : Stage L) → AllExplained (on_commit_call t u stage).deeds
  at_commit u Idle = (tt, counted u (λ a. None) true)
  at_commit u (Reading s asks) = tt
  at_commit u (Writing answer ws) = tt
  at_commit u (Voting votes) = tt

  at_rollback : (u : Undecided L) (stage : Stage L) → AllExplained (on_rollback t u stage).deeds
  at_rollback u Idle = (tt, tt)
  at_rollback u (Reading s asks) = (tt, tt)
  at_rollback u (Writing answer ws) = (tt, tt)
  at_rollback u (Voting votes) = tt

  pub commit_explained : (txn : Txn L) → AllExplained (on_request t choice Commit_call txn).deeds
  commit_explained Unknown = tt
  commit_explained (Known u) = at_commit u u.stage
  commit_explained (Row voters acked) = tt

  pub rollback_explained : (txn : Txn L) → AllExplained (on_request t choice Rollback txn).deeds
  rollback_explained Unknown = tt
  rollback_explained (Known u) = at_rollback u u.stage
  rollback_explained (Row voters acked) = tt

  pub give_up_explained : (txn : Txn L) → AllExplained (on_request t choice Give_up txn).deeds
  give_up_explained Unknown = tt
  give_up_explained (Known u) = (tt, tt)
  give_up_explained (Row voters acked) = tt

-- and a giving up is never refused
still : {L : Lang} (stage : Stage L) → refusal_at Give_up stage ≡ None
still Idle = refl
still (Reading s asks) = refl
still (Writing answer ws) = refl
still (Voting votes) = refl

pub give_up_accepted : {L : Lang} (txn : Txn L) → refusal Give_up txn ≡ None
give_up_accepted Unknown = refl
give_up_accepted (Known u) = still u.stage
give_up_accepted (Row voters acked) = refl

-- A refused request leaves all as it was, and one that isn't refused does what it asks for.
use Rattle.std.proofs.Common.{◌≡◌, refl, List, [], ◌∷◌, inl, inr, ◌⊎◌, Some, None}
use Rattle.protocol.specs.Language.{Lang, Name}
use Rattle.protocol.specs.Desk.{Stage, Idle, Reading, Writing, Voting, Undecided, Txn, Unknown, Known, Row, Choice, Deed, Request, State, Commit_call, Rollback, Give_up, Refusal, No_transaction, Busy, Ended, stays, states, on_state, on_commit_call, on_rollback, on_request, refusal_at, refusal}
use Rattle.protocol.specs.Refusing.{asked_for, IsDecided, IsTrueOf, RequestLaw}

module _ {L : Lang} where
  unknown_decided : IsDecided {L = L} Unknown
  unknown_decided u e = cc

  row_decided : (voters acked : List (L.Site × Name)) → IsDecided {L = L} (Row voters acked)
  row_decided voters acked u e = cc

  module _ (t : Name) (choice : Choice L) (u : Undecided L) where
    refused_state : (s : L.Statement) (stage : Stage L) (why : Refusal) → refusal_at (State s) stage ≡ Some why → on_state t u s choice stage ≡ stays (Known u)
    refused_state s Idle why e = cc
    refused_state s (Reading r asks) why e = refl
    refused_state s (Writing answer ws) why e = refl
    refused_state s (Voting votes) why e = refl

    refused_commit : (stage : Stage L) (why : Refusal) → refusal_at Commit_call stage ≡ Some why → on_commit_call t u stage ≡ stays (Known u)
    refused_commit Idle why e = cc
    refused_commit (Reading r asks) why e = refl
    refused_commit (Writing answer ws) why e = refl
    refused_commit (Voting votes) why e = refl

    refused_rollback : (stage : Stage L) (why : Refusal) → refusal_at Rollback stage ≡ Some why → on_rollback t u stage ≡ stays (Known u)
    refused_rollback Idle why e = cc
    refused_rollback (Reading r asks) why e = cc
    refused_rollback (Writing answer ws) why e = cc
    refused_rollback (Voting votes) why e = refl

    done_state : (s : L.Statement) (stage : Stage L) → refusal_at (State s) stage ≡ None → (more : List (Deed L)) × ((on_state t u s choice stage).deeds ≡ asked_for t (State s) ∷ more)
    done_state s Idle e = ((states t u s _ choice).deeds, refl)
    done_state s (Reading r asks) e = cc
    done_state s (Writing answer ws) e = cc
    done_state s (Voting votes) e = cc

    done_commit : (stage : Stage L) → refusal_at Commit_call stage ≡ None → (more : List (Deed L)) × ((on_commit_call t u stage).deeds ≡ asked_for t Commit_call ∷ more)
    done_commit Idle e = (_, refl)
    done_commit (Reading r asks) e = cc
    done_commit (Writing answer ws) e = cc
    done_commit (Voting votes) e = cc

    done_rollback : (stage : Stage L) → refusal_at Rollback stage ≡ None → (more : List (Deed L)) × ((on_rollback t u stage).deeds ≡ asked_for t Rollback ∷ more)
    done_rollback Idle e = ([], refl)
    done_rollback (Reading r asks) e = ([], refl)
    done_rollback (Writing answer ws) e = ([], refl)
    done_rollback (Voting votes) e = cc

  refused_is : (t : Name) (choice : Choice L) (request : Request L) (txn : Txn L) (why : Refusal) → refusal request txn ≡ Some why → on_request t choice request txn ≡ stays txn
  refused_is t choice (State s) (Known u) why e = refused_state t choice u s u.stage why e
  refused_is t choice Commit_call (Known u) why e = refused_commit t choice u u.stage why e
  refused_is t choice Rollback (Known u) why e = refused_rollback t choice u u.stage why e
  refused_is t choice Give_up (Known u) why e = cc
  refused_is t choice (State s) Unknown why e = refl
  refused_is t choice Commit_call Unknown why e = refl
  refused_is t choice Rollback Unknown why e = refl
  refused_is t choice Give_up Unknown why e = refl
  refused_is t choice (State s) (Row voters acked) why e = refl
  refused_is t choice Commit_call (Row voters acked) why e = refl
  refused_is t choice Rollback (Row voters acked) why e = refl
  refused_is t choice Give_up (Row voters acked) why e = refl

  done_is : (t : Name) (choice : Choice L) (request : Request L) (txn : Txn L) → refusal request txn ≡ None →
      ((more : List (Deed L)) × ((on_request t choice request txn).deeds ≡ asked_for t request ∷ more)) ⊎ ((request ≡ Give_up) × IsDecided txn)
  done_is t choice (State s) (Known u) e = inl (done_state t choice u s u.stage e)
  done_is t choice Commit_call (Known u) e = inl (done_commit t choice u u.stage e)
  done_is t choice Rollback (Known u) e = inl (done_rollback t choice u u.stage e)
  done_is t choice Give_up (Known u) e = inl ([], refl)
  done_is t choice (State s) Unknown e = cc
  done_is t choice Commit_call Unknown e = cc
  done_is t choice Rollback Unknown e = cc
  done_is t choice Give_up Unknown e = inr (refl, unknown_decided)
  done_is t choice (State s) (Row voters acked) e = cc
  done_is t choice Commit_call (Row voters acked) e = cc
  done_is t choice Rollback (Row voters acked) e = cc
  done_is t choice Give_up (Row voters acked) e = inr (refl, row_decided voters acked)

  -- the word of an undecided transaction, by its stage
  word_at : (u : Undecided L) (request : Request L) (stage : Stage L) → u.stage ≡ stage → (why : Refusal) → refusal_at request stage ≡ Some why → IsTrueOf why (Known u)
  word_at u (State s) Idle f why e = cc
  word_at u (State s) (Reading r asks) f Busy e = (u, refl, rw f refl)
  word_at u (State s) (Reading r asks) f No_transaction e = cc
  word_at u (State s) (Reading r asks) f Ended e = cc
  word_at u (State s) (Writing answer ws) f Busy e = (u, refl, rw f refl)
  word_at u (State s) (Writing answer ws) f No_transaction e = cc
  word_at u (State s) (Writing answer ws) f Ended e = cc
  word_at u (State s) (Voting votes) f Ended e = (u, refl, rw f refl)
  word_at u (State s) (Voting votes) f No_transaction e = cc
  word_at u (State s) (Voting votes) f Busy e = cc
  word_at u Commit_call Idle f why e = cc
  word_at u Commit_call (Reading r asks) f Busy e = (u, refl, rw f refl)
  word_at u Commit_call (Reading r asks) f No_transaction e = cc
  word_at u Commit_call (Reading r asks) f Ended e = cc
  word_at u Commit_call (Writing answer ws) f Busy e = (u, refl, rw f refl)
  word_at u Commit_call (Writing answer ws) f No_transaction e = cc
  word_at u Commit_call (Writing answer ws) f Ended e = cc
  word_at u Commit_call (Voting votes) f Ended e = (u, refl, rw f refl)
  word_at u Commit_call (Voting votes) f No_transaction e = cc
  word_at u Commit_call (Voting votes) f Busy e = cc
  word_at u Rollback (Voting votes) f Ended e = (u, refl, rw f refl)
  word_at u Rollback (Voting votes) f No_transaction e = cc
  word_at u Rollback (Voting votes) f Busy e = cc
  word_at u Rollback Idle f why e = cc
  word_at u Rollback (Reading r asks) f why e = cc
  word_at u Rollback (Writing answer ws) f why e = cc
  word_at u Give_up stage f why e = cc

  word_is : (request : Request L) (txn : Txn L) (why : Refusal) → refusal request txn ≡ Some why → IsTrueOf why txn
  word_is request (Known u) why e = word_at u request u.stage refl why e
  word_is request Unknown No_transaction e = unknown_decided
  word_is request (Row voters acked) No_transaction e = row_decided voters acked
  word_is (State s) Unknown Busy e = cc
  word_is Commit_call Unknown Busy e = cc
  word_is Rollback Unknown Busy e = cc
  word_is Give_up Unknown Busy e = cc
  word_is (State s) Unknown Ended e = cc
  word_is Commit_call Unknown Ended e = cc
  word_is Rollback Unknown Ended e = cc
  word_is Give_up Unknown Ended e = cc
  word_is (State s) (Row voters acked) Busy e = cc
  word_is Commit_call (Row voters acked) Busy e = cc
  word_is Rollback (Row voters acked) Busy e = cc
  word_is Give_up (Row voters acked) Busy e = cc
  word_is (State s) (Row voters acked) Ended e = cc
  word_is Commit_call (Row voters acked) Ended e = cc
  word_is Rollback (Row voters acked) Ended e = cc
  word_is Give_up (Row voters acked) Ended e = cc

  give_up_is : (txn : Txn L) → refusal Give_up txn ≡ None
  give_up_is Unknown = refl
  give_up_is (Known u) = refl
  give_up_is (Row voters acked) = refl

pub request_law : {L : Lang} → RequestLaw L
request_law = record { refused = refused_is; done = done_is; word = word_is; give_up = give_up_is }

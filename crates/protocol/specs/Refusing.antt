-- A client's request does what it asks for, or is refused and does nothing.
use Rattle.std.specs.Prelude.{◌≡◌, ◌⊎◌, true, false, Bool, List, ◌∷◌, Some, None}
use Rattle.protocol.specs.Language.{Lang, Name}
use Rattle.protocol.specs.Desk.{Stage, Reading, Writing, Undecided, Txn, Known, Choice, Deed, Stated, Phased, Aborted, Given_up, Rolled_back, Request, State, Commit_call, Rollback, Give_up, Refusal, No_transaction, Busy, Ended, stays, on_request, refusal}
use Rattle.protocol.specs.Parts.{is_voting}

module _ {L : Lang} where
  -- the deed that a request asks for
  abbrev pub asked_for : Name → Request L → Deed L
  asked_for t (State s) = Stated t s
  asked_for t Commit_call = Phased t
  asked_for t Rollback = Rolled_back t
  asked_for t Give_up = Aborted t Given_up

  -- whether a statement was accepted that isn't answered yet
  abbrev pub is_at_work : Stage L → Bool
  is_at_work (Reading s asks) = true
  is_at_work (Writing answer unsent) = true
  is_at_work stage = false

  -- no transaction is undecided there
  abbrev pub IsDecided : Txn L → Type 0
  IsDecided txn = (u : Undecided L) → txn ≡ Known u → ⊥

  -- what the word of a refusal says of the transaction
  abbrev pub IsTrueOf : Refusal → Txn L → Type 0
  IsTrueOf No_transaction txn = IsDecided txn
  IsTrueOf Busy txn = (u : Undecided L) × (txn ≡ Known u) × (is_at_work u.stage ≡ true)
  IsTrueOf Ended txn = (u : Undecided L) × (txn ≡ Known u) × (is_voting u.stage ≡ true)

-- refusals and turns fit: of each request of each transaction
pub record RequestLaw (L : Lang) : Type 0 where
  -- a refused request leaves all as it was, and puts nothing out
  pub refused : (t : Name) (choice : Choice L) (request : Request L) (txn : Txn L) (why : Refusal) → refusal request txn ≡ Some why → on_request t choice request txn ≡ stays txn
  -- one that isn't refused does first what it asks for, unless it gives up where nothing is undecided
  pub done : (t : Name) (choice : Choice L) (request : Request L) (txn : Txn L) → refusal request txn ≡ None →
      ((more : List (Deed L)) × ((on_request t choice request txn).deeds ≡ asked_for t request ∷ more)) ⊎ ((request ≡ Give_up) × IsDecided txn)
  -- the word of a refusal is true
  pub word : (request : Request L) (txn : Txn L) (why : Refusal) → refusal request txn ≡ Some why → IsTrueOf why txn
  -- a transaction can always be given up
  pub give_up : (txn : Txn L) → refusal Give_up txn ≡ None

-- Which steps of a transaction call the coordinator's store.
use Rattle.std.specs.Prelude.{◌≡◌, ◌≢◌, ◌⊎◌, true, false, List, [], ◌∷◌, ◌++◌, Option, Some, is_none}
use Rattle.std.specs.List.{list_any}
use Rattle.protocol.specs.Desk.{Stage, Voting, Undecided, Txn, Known, Row, are_acked, are_all_in, is_named, is_pair, voters_of}
use Rattle.protocol.specs.Language.{Lang, Name, put}
use Rattle.protocol.specs.Letter.{Vote, No, Body, Voted, Ack}

-- by these votes the transaction is decided, and the store has something to keep: each visited site has voted, and one of them YES, or a relation gets another split
pub record Decides {L : Lang} (u : Undecided L) (votes : L.Site → Option Vote) : Type 0 where
  pub all_in : are_all_in u votes ≡ true
  pub keeps : (voters_of u votes ≢ []) ⊎ (u.moves ≡ true)

-- so it is with a vote that isn't NO, the first one of its site
abbrev pub DecidesWith : {L : Lang} → Undecided L → L.Site → (L.Site → Option Vote) → Vote → Type 0
DecidesWith u a votes No = ⊥
DecidesWith {L} u a votes vote = (is_none (votes a) ≡ true) × Decides u (put L.same_site a (Some vote) votes)

-- only in the first phase
abbrev pub DecidesAt : {L : Lang} → Undecided L → L.Site → Vote → Stage L → Type 0
DecidesAt u a vote (Voting votes) = DecidesWith u a votes vote
DecidesAt u a vote stage = ⊥

-- an acknowledgement is the last one: it is of a voter who has not acknowledged yet, and with it each voter has
pub record IsLastAck (L : Lang) (voters acked : List (L.Site × Name)) (v : L.Site × Name) : Type 0 where
  pub voter : list_any (is_pair L v.0 v.1) voters ≡ true
  pub first : list_any (is_pair L v.0 v.1) acked ≡ false
  pub last : are_acked L voters (acked ++ v ∷ []) ≡ true

-- the store is called to keep what a transaction that a vote decides leaves, and to drop that of one whose last acknowledgement comes
abbrev pub CallsStore : {L : Lang} → L.Site → Body L → Txn L → Type 0
CallsStore a (Voted k vote) (Known u) = (is_named (u.ticket a) k ≡ true) × DecidesAt u a vote u.stage
CallsStore {L} a (Ack k) (Row voters acked) = IsLastAck L voters acked (a, k)
CallsStore a body txn = ⊥

-- What the protocol's steps keep: how many operations were sent, and that what is decided stays so.
use Rattle.std.proofs.Common.{◌≡◌, refl, ℕ, Bool, true, false, not, ◌&&◌, List, [], ◌∷◌, ◌++◌, Option, Some, None, is_none, is_some, ◌||◌}
use Rattle.std.specs.List.{list_any}
use Rattle.std.specs.Option.{option_map}
use Rattle.store.specs.declared.name.Ticket.{Ticket}
use Rattle.store.specs.declared.reply.Reply.{Reply}
use Rattle.store.specs.declared.reply.Reply.TheVariants as reply
use Rattle.protocol.specs.Desk as desk
use Rattle.protocol.specs.Language.{Lang, Name, same}
use Rattle.protocol.specs.Letters.{name_of, vote_of}
use Rattle.protocol.specs.Letter as letter
use Rattle.protocol.proofs.Basics.{either}
use Rattle.desk.specs.declared.transaction.TxnState.{TxnState}
use Rattle.desk.specs.declared.transaction.TxnState.TheVariants as standing
use Rattle.desk.specs.Database.{Database, language, replied}
use Rattle.desk.specs.Participants.{participant_in}
use Rattle.desk.specs.Transaction.{txn_of, undecided_of}
use Rattle.desk.specs.Receive.{goes_on, may_send}

module _ {L : Lang} where
  abbrev IsShort : desk.Txn L → Type 0
  IsShort x = desk.is_short_txn x ≡ true

  abbrev IsShut : desk.Txn L → Type 0
  IsShut x = desk.is_undecided x ≡ false

  short_ends : (t : Name) (u : desk.Undecided L) (d : desk.Deed L) → IsShort (desk.ends_by t u d).txn
  short_ends t u d = refl

  short_decides : (t : Name) (u : desk.Undecided L) (kept : Bool) (voters : List (L.Site × Name)) → IsShort (desk.decides t u kept voters).txn
  short_decides t u kept [] = either (λ (turn : desk.Transition L). IsShort turn.txn) (kept || not u.moves) _ _ refl refl
  short_decides t u kept (v ∷ vs) = either (λ (turn : desk.Transition L). IsShort turn.txn) kept _ _ refl refl

  short_votes : (t : Name) (u : desk.Undecided L) (votes : L.Site → Option letter.Vote) (kept : Bool) → IsShort (desk.Known u) → IsShort (desk.votes_go t u votes kept).txn
  short_votes t u votes kept short =
      either (λ (turn : desk.Transition L). IsShort turn.txn) (desk.are_all_in u votes) _ _ (short_decides t (record u { stage = desk.Voting votes }) kept (desk.voters_of u votes)) short

  short_commit : (t : Name) (u : desk.Undecided L) → IsShort (desk.Known u) → (st : desk.Stage L) → IsShort (desk.on_commit_call t u st).txn
  short_commit t u short desk.Idle = short_votes t u (λ a. None) true short
  short_commit t u short (desk.Reading s asks) = short
  short_commit t u short (desk.Writing answer ws) = short
  short_commit t u short (desk.Voting votes) = short

  short_rollback : (t : Name) (u : desk.Undecided L) → IsShort (desk.Known u) → (st : desk.Stage L) → IsShort (desk.on_rollback t u st).txn
  short_rollback t u short desk.Idle = refl
  short_rollback t u short (desk.Reading s asks) = refl
  short_rollback t u short (desk.Writing answer ws) = refl
  short_rollback t u short (desk.Voting votes) = short

  short_refusal : (t : Name) (u : desk.Undecided L) → IsShort (desk.Known u) → (st : desk.Stage L) → IsShort (desk.on_refused t u st).txn
  short_refusal t u short desk.Idle = refl
  short_refusal t u short (desk.Reading s asks) = refl
  short_refusal t u short (desk.Writing answer ws) = refl
  short_refusal t u short (desk.Voting votes) = short

  short_counts : (t : Name) (u : desk.Undecided L) (a : L.Site) (votes : L.Site → Option letter.Vote) (kept : Bool) → IsShort (desk.Known u) → (v : letter.Vote) → IsShort (desk.counts t u a votes kept v).txn
  short_counts t u a votes kept short letter.Yes = short_votes t u _ kept short
  short_counts t u a votes kept short letter.No = refl
  short_counts t u a votes kept short letter.Read = short_votes t u _ kept short

  short_vote : (t : Name) (u : desk.Undecided L) (a : L.Site) (kept : Bool) (v : letter.Vote) → IsShort (desk.Known u) → (st : desk.Stage L) → IsShort (desk.on_vote t u a kept v st).txn
  short_vote t u a kept v short desk.Idle = short
  short_vote t u a kept v short (desk.Reading s asks) = short
  short_vote t u a kept v short (desk.Writing answer ws) = short
  short_vote t u a kept v short (desk.Voting votes) = either (λ (turn : desk.Transition L). IsShort turn.txn) (is_none (votes a)) _ _ (short_counts t u a votes kept short v) short

  -- ---- requests of clients, statements aside
  pub short_called : (t : Name) (choice : desk.Choice L) (x : desk.Txn L) → IsShort x → IsShort (desk.on_request t choice desk.Commit_call x).txn
  short_called t choice desk.Unknown short = refl
  short_called t choice (desk.Known u) short = short_commit t u short u.stage
  short_called t choice (desk.Row voters acked) short = refl

  pub short_rolled_back : (t : Name) (choice : desk.Choice L) (x : desk.Txn L) → IsShort x → IsShort (desk.on_request t choice desk.Rollback x).txn
  short_rolled_back t choice desk.Unknown short = refl
  short_rolled_back t choice (desk.Known u) short = short_rollback t u short u.stage
  short_rolled_back t choice (desk.Row voters acked) short = refl

  pub short_given_up : (t : Name) (choice : desk.Choice L) (x : desk.Txn L) → IsShort x → IsShort (desk.on_request t choice desk.Give_up x).txn
  short_given_up t choice desk.Unknown short = refl
  short_given_up t choice (desk.Known u) short = refl
  short_given_up t choice (desk.Row voters acked) short = refl

  -- what is decided, or unknown, isn't undecided again
  pub shut_request : (t : Name) (choice : desk.Choice L) (request : desk.Request L) (x : desk.Txn L) → IsShut x → IsShut (desk.on_request t choice request x).txn
  shut_request t choice (desk.State s) desk.Unknown shut = refl
  shut_request t choice desk.Commit_call desk.Unknown shut = refl
  shut_request t choice desk.Rollback desk.Unknown shut = refl
  shut_request t choice desk.Give_up desk.Unknown shut = refl
  shut_request t choice (desk.State s) (desk.Row voters acked) shut = refl
  shut_request t choice desk.Commit_call (desk.Row voters acked) shut = refl
  shut_request t choice desk.Rollback (desk.Row voters acked) shut = refl
  shut_request t choice desk.Give_up (desk.Row voters acked) shut = refl
  shut_request t choice request (desk.Known u) shut = cc

-- ---- letters of sites by which no statement goes on
abbrev goes_on_not : Option Name → Reply → Bool
goes_on_not first (reply.Ticket k) = is_some first
goes_on_not first (reply.Rows rows) = false
goes_on_not first (reply.Refused refusal) = true
goes_on_not first (reply.Voted voted) = true
goes_on_not first (reply.Ack k) = true
goes_on_not first (reply.Inquire k) = true

module _ (db : Database) (t : Name) (a : List ℕ) (kept : Bool) (choice : desk.Choice (language db)) where
  abbrev came : Reply → desk.Txn (language db) → desk.Transition (language db)
  came said x = desk.on_desk_letter {L = language db} t a kept choice (replied db a said) x

  shut_ack : (voters acked : List (List ℕ × Name)) (v : List ℕ × Name) → IsShut {L = language db} (desk.on_ack {L = language db} voters acked v kept).txn
  shut_ack voters acked v =
      either (λ (turn : desk.Transition (language db)). IsShut turn.txn) (list_any (desk.is_pair (language db) v.0 v.1) voters && not (list_any (desk.is_pair (language db) v.0 v.1) acked)) _ _
      (either (λ (turn : desk.Transition (language db)). IsShut turn.txn) (desk.are_acked (language db) voters (acked ++ v ∷ [])) _ _ (either (λ (turn : desk.Transition (language db)). IsShut turn.txn) kept _ _ refl refl) refl)
      refl

  pub shut_came : (said : Reply) (x : desk.Txn (language db)) → IsShut x → IsShut (came said x).txn
  shut_came said (desk.Known u) shut = cc
  shut_came (reply.Ticket k) desk.Unknown shut = refl
  shut_came (reply.Rows rows) desk.Unknown shut = refl
  shut_came (reply.Refused refusal) desk.Unknown shut = refl
  shut_came (reply.Voted voted) desk.Unknown shut = refl
  shut_came (reply.Ack k) desk.Unknown shut = refl
  shut_came (reply.Inquire k) desk.Unknown shut = refl
  shut_came (reply.Ticket k) (desk.Row voters acked) shut = refl
  shut_came (reply.Rows rows) (desk.Row voters acked) shut = refl
  shut_came (reply.Refused refusal) (desk.Row voters acked) shut = refl
  shut_came (reply.Voted voted) (desk.Row voters acked) shut = refl
  shut_came (reply.Ack k) (desk.Row voters acked) shut = shut_ack voters acked (a, name_of k)
  shut_came (reply.Inquire k) (desk.Row voters acked) shut = refl

  -- what isn't undecided counts no operations
  short_shut : (x : desk.Txn (language db)) → IsShut x → IsShort x
  short_shut desk.Unknown shut = refl
  short_shut (desk.Known u) shut = cc
  short_shut (desk.Row voters acked) shut = refl

  short_open : (u : desk.Undecided (language db)) → IsShort (desk.Known u) → (said : Reply) → goes_on_not (u.ticket a) said ≡ true → IsShort (came said (desk.Known u)).txn
  short_open u short (reply.Ticket k) another = short_ticket (u.ticket a) another
    where
      short_ticket : (o : Option Name) → is_some o ≡ true → IsShort (desk.on_ticket {L = language db} t u a (name_of k) choice o).txn
      short_ticket None e = cc
      short_ticket (Some j) e = either (λ (turn : desk.Transition (language db)). IsShort turn.txn) (same j (name_of k)) _ _ short short
  short_open u short (reply.Rows rows) another = cc
  short_open u short (reply.Refused refusal) another = either (λ (turn : desk.Transition (language db)). IsShort turn.txn) (desk.is_named (u.ticket a) (name_of refusal.ticket)) _ _ (short_refusal t u short u.stage) short
  short_open u short (reply.Voted voted) another = either (λ (turn : desk.Transition (language db)). IsShort turn.txn) (desk.is_named (u.ticket a) (name_of voted.ticket)) _ _ (short_vote t u a kept (vote_of voted.vote) short u.stage) short
  short_open u short (reply.Ack k) another = short
  short_open u short (reply.Inquire k) another = short

  pub short_came : (o : Option TxnState) (said : Reply) → may_send o a said ≡ false → IsShort (txn_of db o) → IsShort (came said (txn_of db o)).txn
  short_came None said none short = short_shut (came said (txn_of db None)).txn (shut_came said (txn_of db None) refl)
  short_came (Some (standing.Committed c)) said none short = short_shut (came said (txn_of db (Some (standing.Committed c)))).txn (shut_came said (txn_of db (Some (standing.Committed c))) refl)
  short_came (Some (standing.Undecided u)) said none short = short_open (undecided_of db u) short said (rests (participant_in a u.participants).ticket said none)
    where
      rests : (first : Option Ticket) (r : Reply) → goes_on first r ≡ false → goes_on_not (option_map name_of first) r ≡ true
      rests None (reply.Ticket k) e = cc
      rests (Some j) (reply.Ticket k) e = refl
      rests first (reply.Rows rows) e = cc
      rests first (reply.Refused refusal) e = refl
      rests first (reply.Voted voted) e = refl
      rests first (reply.Ack k) e = refl
      rests first (reply.Inquire k) e = refl

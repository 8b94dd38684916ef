-- The operations of a statement go out to the tickets that have come.
use Rattle.std.specs.Prelude.{ℕ, suc, ◌^◌, ◌<◌, ◌≤◌, Bool, List, [], ◌∷◌, map, Option, Some, None, is_none, is_some, ◌&&◌}
use Rattle.std.specs.List.{AllByRecursion}
use Rattle.store.specs.declared.letter.Letter.{Letter}
use Rattle.store.specs.declared.name.Ticket.{Ticket}
use Rattle.store.specs.declared.name.Txn.{Txn}
use Rattle.store.specs.declared.order.Order.{Order}
use Rattle.store.specs.declared.order.Order.TheVariants as order
use Rattle.protocol.specs.Letters.{leaf_of}
use Rattle.desk.specs.declared.fetches.Ask.{Ask}
use Rattle.desk.specs.declared.participant.Participant.{Participant}
use Rattle.desk.specs.declared.transaction.Unsent.{Unsent}
use Rattle.desk.specs.Database.{Database, IsPlace}
use Rattle.desk.specs.Orders.{ordered}
use Rattle.desk.specs.Participants.{changed_at, participant_in}

-- what is left to send or to wait for, the participants after it, and the letters
pub record Sent (A : Type 0) : Type 0 where
  pub left : List A
  pub participants : List Participant
  pub letters : List Letter

-- so many operations were sent to a site
abbrev pub with_count : ℕ → Participant → Participant
with_count count participant = record participant { sent = count }

abbrev pub counted : List ℕ → ℕ → List Participant → List Participant
counted site count participants = map (changed_at site (with_count count)) participants

-- the number of the next operation to a site
abbrev pub next_number : List ℕ → List Participant → ℕ
next_number site participants = suc (participant_in site participants).sent

-- one more was sent there
abbrev pub one_more : List ℕ → List Participant → List Participant
one_more site participants = counted site (next_number site participants) participants

-- the orders of operations
abbrev pub fetch_order : Ask → Ticket → ℕ → Order
fetch_order ask ticket number = order.Fetch (record { ticket = ticket; op = number; leaf = ask.leaf; conds = ask.conds })

abbrev pub write_order : Unsent → Ticket → ℕ → Order
write_order unsent ticket number = order.Intend (record { ticket = ticket; op = number; write = unsent.write })

-- a fetch that was sent
abbrev pub numbered : Ask → ℕ → Ask
numbered ask number = record ask { number = Some number }

-- a fetch goes out where it hasn't yet and its site has given a ticket
abbrev pub ask_goes : Txn → Ask → Option ℕ → Option Ticket → List Participant → (List Participant → Sent Ask) → Sent Ask
ask_goes txn ask None (Some ticket) participants rest =
    let number = next_number ask.site participants in
    let after = rest (one_more ask.site participants) in
    record { left = numbered ask number ∷ after.left; participants = after.participants; letters = ordered txn ask.site (fetch_order ask ticket number) ∷ after.letters }
ask_goes txn ask number ticket participants rest =
    let after = rest participants in
    record { left = ask ∷ after.left; participants = after.participants; letters = after.letters }

-- fetches go out in order
abbrev pub asks_go : Txn → List Ask → List Participant → Sent Ask
asks_go txn [] participants = record { left = []; participants = participants; letters = [] }
asks_go txn (ask ∷ asks) participants = ask_goes txn ask ask.number (participant_in ask.site participants).ticket participants (asks_go txn asks)

-- whether a fetch goes out now
abbrev pub goes_now : List Participant → Ask → Bool
goes_now participants ask = is_none ask.number && is_some (participant_in ask.site participants).ticket

-- whether a write waits for a ticket
abbrev pub waits_in : List Participant → Unsent → Bool
waits_in participants unsent = is_none (participant_in unsent.site participants).ticket

-- a write goes out where its site has given a ticket
abbrev pub write_goes : Txn → Unsent → Option Ticket → List Participant → (List Participant → Sent Unsent) → Sent Unsent
write_goes txn unsent (Some ticket) participants rest =
    let after = rest (one_more unsent.site participants) in
    record { left = after.left; participants = after.participants; letters = ordered txn unsent.site (write_order unsent ticket (next_number unsent.site participants)) ∷ after.letters }
write_goes txn unsent None participants rest =
    let after = rest participants in
    record { left = unsent ∷ after.left; participants = after.participants; letters = after.letters }

-- writes go out in order
abbrev pub writes_go : Txn → List Unsent → List Participant → Sent Unsent
writes_go txn [] participants = record { left = []; participants = participants; letters = [] }
writes_go txn (unsent ∷ rest) participants = write_goes txn unsent (participant_in unsent.site participants).ticket participants (writes_go txn rest)

-- each fetch, and each write, is of a leaf at its site
abbrev pub AsksAtHome : Database → List Ask → Type 0
AsksAtHome db asks = AllByRecursion (λ ask. IsPlace db (ask.site, ask.leaf)) asks

abbrev pub UnsentAtHome : Database → List Unsent → Type 0
UnsentAtHome db writes = AllByRecursion (λ unsent. IsPlace db (unsent.site, leaf_of unsent.write)) writes

-- each site was sent as many operations at most as the limit allows
abbrev pub AreShort : List Participant → Type 0
AreShort participants = (site : List ℕ) → (participant_in site participants).sent < 2 ^ 63

-- some site was sent more
pub record IsPast (participants : List Participant) : Type 0 where
  pub site : List ℕ
  pub past : 2 ^ 63 ≤ (participant_in site participants).sent

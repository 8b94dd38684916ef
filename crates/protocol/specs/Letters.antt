-- Letters and names as the protocol has them.
use Rattle.std.specs.Prelude.{ℕ, List, [], ◌∷◌, Option, Some, None, Bool, true, false, not}
use Rattle.terms.specs.declared.leaf.Leaf.{Leaf}
use Rattle.terms.specs.declared.write.Write.{Write}
use Rattle.terms.specs.declared.write.Write.TheVariants as writes
use Rattle.terms.specs.Row.{key_of}
use Rattle.store.specs.declared.letter.Body as bodies
use Rattle.store.specs.declared.letter.Body.TheVariants.{Order, Reply}
use Rattle.store.specs.declared.letter.Letter as letters
use Rattle.store.specs.declared.name.Ticket as tickets
use Rattle.store.specs.declared.name.Txn as txns
use Rattle.store.specs.declared.order.Order as orders
use Rattle.store.specs.declared.order.Order.TheVariants as order
use Rattle.store.specs.declared.reply.Reply as replies
use Rattle.store.specs.declared.reply.Reply.TheVariants as reply
use Rattle.store.specs.declared.reply.Reason as reasons
use Rattle.store.specs.declared.reply.Reason.TheVariants as reason
use Rattle.store.specs.declared.reply.Vote as votes
use Rattle.store.specs.declared.reply.Vote.TheVariants as vote
use Rattle.protocol.specs.Language.{Name}
use Rattle.protocol.specs.Letter.{Body, Letter, Vote, Reason}
use Rattle.protocol.specs.Letter as protocol
use Rattle.protocol.specs.Local.{local, AtKey}

-- a ticket's name, and the ticket of a name
abbrev pub name_of : tickets.Ticket → Name
name_of ticket = record { life = ticket.life; number = ticket.visit }

abbrev pub ticket_of : Name → tickets.Ticket
ticket_of name = record { life = name.life; visit = name.number }

-- a transaction's name
abbrev pub txn_name : txns.Txn → Name
txn_name txn = record { life = txn.life; number = txn.number }

-- the leaf of a write
abbrev pub leaf_of : Write → Leaf
leaf_of (writes.Put leaf part) = leaf
leaf_of (writes.Del leaf key) = leaf

-- what a write lets stand, and where
abbrev pub at_key : Write → AtKey
at_key (writes.Put leaf part) = (key_of part, Some part)
at_key (writes.Del leaf key) = (key, None)

abbrev pub order_body : orders.Order → Body local
order_body order.Open = protocol.Open
order_body (order.Fetch fetch) = protocol.Fetch (name_of fetch.ticket) fetch.op fetch.leaf fetch.conds
order_body (order.Intend intention) = protocol.Write (name_of intention.ticket) intention.op (leaf_of intention.write) (at_key intention.write)
order_body (order.Prepare prepare) = protocol.Prepare (name_of prepare.ticket) prepare.count
order_body (order.Commit ticket) = protocol.Commit (name_of ticket)
order_body (order.Abort ticket) = protocol.Abort (name_of ticket)

abbrev pub vote_of : votes.Vote → Vote
vote_of vote.Yes = protocol.Yes
vote_of vote.No = protocol.No
vote_of vote.Read = protocol.Read

abbrev pub reason_of : reasons.Reason → Reason
reason_of reason.Lock = protocol.Lock
reason_of reason.Full = protocol.Full
reason_of reason.Gone = protocol.Gone

abbrev pub reply_body : replies.Reply → Body local
reply_body (reply.Ticket ticket) = protocol.Ticket (name_of ticket)
reply_body (reply.Rows rows) = protocol.Rows (name_of rows.ticket) rows.op rows.parts
reply_body (reply.Refused refusal) = protocol.Refused (name_of refusal.ticket) (reason_of refusal.reason)
reply_body (reply.Voted voted) = protocol.Voted (name_of voted.ticket) (vote_of voted.vote)
reply_body (reply.Ack ticket) = protocol.Ack (name_of ticket)
reply_body (reply.Inquire ticket) = protocol.Inquire (name_of ticket)

abbrev pub body_of : bodies.Body → Body local
body_of (Order order) = order_body order
body_of (Reply reply) = reply_body reply

-- a letter as the protocol has it
abbrev pub letter_of : letters.Letter → Letter local
letter_of letter = record { site = letter.site; txn = txn_name letter.txn; body = body_of letter.body }

-- the bodies that a reply makes, if there is one
abbrev pub said_by : Option replies.Reply → List (Body local)
said_by None = []
said_by (Some reply) = reply_body reply ∷ []

-- whether a vote is NO
abbrev pub is_no : votes.Vote → Bool
is_no vote.Yes = false
is_no vote.No = true
is_no vote.Read = false

-- whether the step's store call was kept, where it was answered: only a vote NO may come of a call that wasn't
abbrev pub kept_by : Option replies.Reply → Bool
kept_by None = true
kept_by (Some (reply.Ticket ticket)) = true
kept_by (Some (reply.Rows rows)) = true
kept_by (Some (reply.Refused refusal)) = true
kept_by (Some (reply.Voted voted)) = not (is_no voted.vote)
kept_by (Some (reply.Ack ticket)) = true
kept_by (Some (reply.Inquire ticket)) = true

-- the letter of a reply, if there is one
abbrev pub letters_of : List ℕ → txns.Txn → Option replies.Reply → List letters.Letter
letters_of site txn None = []
letters_of site txn (Some reply) = record { site = site; txn = txn; body = Reply reply } ∷ []

-- whether the step's store call was kept, by the letters that were answered
abbrev pub kept_body : bodies.Body → Bool
kept_body (Order order) = true
kept_body (Reply reply) = kept_by (Some reply)

abbrev pub kept_in : List letters.Letter → Bool
kept_in [] = true
kept_in (letter ∷ letters) = kept_body letter.body

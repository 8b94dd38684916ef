-- The text of a letter.
use Rattle.std.specs.Prelude.{ℕ, List, [], ◌∷◌, ◌++◌, length, codes}
use Rattle.std.specs.Fmt.{decimal}
use Rattle.terms.specs.declared.cond.Cond.{Cond}
use Rattle.terms.specs.declared.write.Write.{Write}
use Rattle.terms.specs.declared.write.Write.TheVariants.{Put, Del}
use Rattle.terms.specs.Leaf.{leaf_text}
use Rattle.terms.specs.Print.{values_text, conds_text}
use Rattle.std.specs.Fmt.{signed_decimal}
use Rattle.store.specs.declared.letter.Body.{Body}
use Rattle.store.specs.declared.letter.Body.TheVariants.{Order, Reply}
use Rattle.store.specs.declared.letter.Letter.{Letter}
use Rattle.store.specs.declared.name.Ticket.{Ticket}
use Rattle.store.specs.declared.order.Order.{Order as OrderType}
use Rattle.store.specs.declared.order.Order.TheVariants.{Open, Fetch, Intend, Prepare, Commit, Abort}
use Rattle.store.specs.declared.reply.Reply.{Reply as ReplyType}
use Rattle.store.specs.declared.reply.Reply.TheVariants as replies
use Rattle.store.specs.Name.{ticket_text}
use Rattle.store.specs.Reply.{reason_name, vote_name}

-- a transaction's name and a ticket
abbrev pub visit_text : List ℕ → Ticket → List ℕ
visit_text txn ticket = txn ++ codes " " ++ ticket_text ticket

-- the same with the number of an operation, or how many were done
abbrev pub numbered_text : List ℕ → Ticket → ℕ → List ℕ
numbered_text txn ticket number = visit_text txn ticket ++ codes " " ++ decimal number

-- nothing without conditions
abbrev pub where_text : List (List ℕ) → List Cond → List ℕ
where_text columns [] = []
where_text columns (cond ∷ conds) = codes " where " ++ conds_text columns (cond ∷ conds)

-- a write, behind its transaction, ticket and number
abbrev pub write_text : List ℕ → Write → List ℕ
write_text operation (Put leaf part) = codes "Put " ++ operation ++ codes " " ++ leaf_text leaf ++ codes " " ++ values_text part
write_text operation (Del leaf key) = codes "Del " ++ operation ++ codes " " ++ leaf_text leaf ++ codes " " ++ signed_decimal key

-- an order about a transaction of this name; the leaf that it names has columns of these names
abbrev pub order_text : List ℕ → List (List ℕ) → OrderType → List ℕ
order_text txn columns Open = codes "Open " ++ txn
order_text txn columns (Fetch fetch) = codes "Fetch " ++ numbered_text txn fetch.ticket fetch.op ++ codes " " ++ leaf_text fetch.leaf ++ where_text columns fetch.conds
order_text txn columns (Intend intention) = write_text (numbered_text txn intention.ticket intention.op) intention.write
order_text txn columns (Prepare prepare) = codes "Prepare " ++ numbered_text txn prepare.ticket prepare.count
order_text txn columns (Commit ticket) = codes "Commit " ++ visit_text txn ticket
order_text txn columns (Abort ticket) = codes "Abort " ++ visit_text txn ticket

-- a reply about a transaction of this name
abbrev pub reply_text : List ℕ → ReplyType → List ℕ
reply_text txn (replies.Ticket ticket) = codes "Ticket " ++ visit_text txn ticket
reply_text txn (replies.Rows rows) = codes "Rows " ++ numbered_text txn rows.ticket rows.op ++ codes " " ++ decimal (length rows.parts)
reply_text txn (replies.Refused refusal) = codes "Refused " ++ visit_text txn refusal.ticket ++ codes " " ++ reason_name refusal.reason
reply_text txn (replies.Voted voted) = codes "Vote " ++ visit_text txn voted.ticket ++ codes " " ++ vote_name voted.vote
reply_text txn (replies.Ack ticket) = codes "Ack " ++ visit_text txn ticket
reply_text txn (replies.Inquire ticket) = codes "Inquire " ++ visit_text txn ticket

-- who writes to whom, and what
abbrev pub body_text : List ℕ → List ℕ → List (List ℕ) → Body → List ℕ
body_text site txn columns (Order order) = codes "desk>" ++ site ++ codes " " ++ order_text txn columns order
body_text site txn columns (Reply reply) = site ++ codes ">desk " ++ reply_text txn reply

abbrev pub letter_text : List ℕ → List (List ℕ) → Letter → List ℕ
letter_text txn columns letter = body_text letter.site txn columns letter.body

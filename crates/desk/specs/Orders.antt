-- What is said to each site.
use Rattle.std.specs.Prelude.{ℕ, Bool, true, false, ◌&&◌, List, Option, Some, None, if◌then◌else◌}
use Rattle.std.specs.List.{filter_map}
use Rattle.std.specs.Option.{option_map}
use Rattle.store.specs.declared.letter.Body.TheVariants as body
use Rattle.store.specs.declared.letter.Letter.{Letter}
use Rattle.store.specs.declared.name.Ticket.{Ticket}
use Rattle.store.specs.declared.name.Txn.{Txn}
use Rattle.store.specs.declared.order.Order.{Order}
use Rattle.store.specs.declared.order.Order.TheVariants as order
use Rattle.store.specs.declared.reply.Vote.{Vote}
use Rattle.store.specs.declared.reply.Vote.TheVariants.{Yes, No, Read}
use Rattle.desk.specs.declared.send.Broadcast.{Broadcast}
use Rattle.desk.specs.declared.send.Broadcast.TheVariants as word
use Rattle.desk.specs.declared.participant.Participant.{Participant}
use Rattle.desk.specs.declared.transaction.Stage.{Stage}
use Rattle.desk.specs.declared.transaction.Stage.TheVariants as stage

-- who voted No or Read has let go by itself
abbrev pub may_hold : Option Vote → Bool
may_hold None = true
may_hold (Some Yes) = true
may_hold (Some No) = false
may_hold (Some Read) = false

-- the word to the sites of a transaction that ends without a commit
abbrev pub abort_broadcast : Stage → Broadcast
abort_broadcast stage.Idle = word.Abort
abort_broadcast (stage.Reading reading) = word.Abort
abort_broadcast (stage.Writing writing) = word.Abort
abort_broadcast stage.Voting = word.AbortVoting

-- whether a word is for a site
abbrev pub is_for : Broadcast → Participant → Bool
is_for word.Prepare participant = participant.visited
is_for word.Abort participant = participant.visited
is_for word.AbortVoting participant = participant.visited && may_hold participant.vote

-- the order of a word to a visit, to which so many operations were sent
abbrev pub order_of : Broadcast → ℕ → Ticket → Order
order_of word.Prepare sent ticket = order.Prepare (record { ticket = ticket; count = sent })
order_of word.Abort sent ticket = order.Abort ticket
order_of word.AbortVoting sent ticket = order.Abort ticket

-- the order to a site, if there is one
abbrev pub order_at : Broadcast → Participant → Option Order
order_at word participant = if is_for word participant then option_map (order_of word participant.sent) participant.ticket else None

-- an order's letter
abbrev pub ordered : Txn → List ℕ → Order → Letter
ordered txn site order = record { site = site; txn = txn; body = body.Order order }

-- the letters to the sites, in their order
abbrev pub broadcast_letters : Txn → Broadcast → List Participant → List Letter
broadcast_letters txn word participants = filter_map (λ participant. option_map (ordered txn participant.site) (order_at word participant)) participants

-- whether the first phase has begun
abbrev pub is_voting : Stage → Bool
is_voting stage.Idle = false
is_voting (stage.Reading reading) = false
is_voting (stage.Writing writing) = false
is_voting stage.Voting = true

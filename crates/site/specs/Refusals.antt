-- When a site refuses a letter.
use Rattle.std.specs.Prelude.{◌≡◌, ◌⊎◌, ◌≤◌, ◌+◌, ◌^◌, true, false, List, None}
use Rattle.store.specs.declared.letter.Body as bodies
use Rattle.store.specs.declared.letter.Body.TheVariants as body
use Rattle.store.specs.declared.letter.Letter.{Letter}
use Rattle.store.specs.declared.order.Order as orders
use Rattle.store.specs.declared.order.Order.TheVariants.{Open, Fetch, Intend, Prepare, Commit, Abort}
use Rattle.store.specs.SiteContent.{SiteContent}
use Rattle.site.specs.declared.locks.Locks.{Locks}
use Rattle.protocol.specs.Letters.{leaf_of, at_key, txn_name, body_of}
use Rattle.protocol.specs.Site.{is_within, on_letter, site_after}
use Rattle.site.specs.Locks.{place_in}
use Rattle.site.specs.State.{VolatileState, is_row, state_of}
use Rattle.site.specs.Verdict.{ballot, read_verdict, write_verdict}
use Rattle.site.specs.declared.verdict.Ballot.TheVariants.{Keeps}
use Rattle.site.specs.declared.verdict.Verdict.TheVariants.{Go}

-- an operation on a leaf that isn't one of these
abbrev pub IsElsewhere : List Locks → orders.Order → Type 0
IsElsewhere locks Open = ⊥
IsElsewhere locks (Fetch fetch) = place_in fetch.leaf locks ≡ None
IsElsewhere locks (Intend intention) = place_in (leaf_of intention.write) locks ≡ None
IsElsewhere locks (Prepare prepare) = ⊥
IsElsewhere locks (Commit ticket) = ⊥
IsElsewhere locks (Abort ticket) = ⊥

-- what would be done leads past a limit: a visit more than 1,024, or a number of 64 bits that has 2^63 in it
abbrev pub IsBeyond : VolatileState → orders.Order → Type 0
IsBeyond table Open = (1024 ≤ table.active) ⊎ (2 ^ 63 ≤ table.number + 1)
IsBeyond table (Fetch fetch) = (read_verdict fetch.ticket fetch.op (table.locks fetch.leaf) (table.standing fetch.ticket) ≡ Go) × (2 ^ 63 ≤ fetch.op)
IsBeyond table (Intend intention) = (write_verdict intention.ticket intention.op (leaf_of intention.write) (at_key intention.write) (table.locks (leaf_of intention.write)) (table.standing intention.ticket) ≡ Go) × (2 ^ 63 ≤ intention.op)
IsBeyond table (Prepare prepare) = ⊥
IsBeyond table (Commit ticket) = ⊥
IsBeyond table (Abort ticket) = ⊥

-- a visit is to be prepared that has done what was sent, and intends something: the store is to keep that
abbrev pub IsToKeep : VolatileState → orders.Order → Type 0
IsToKeep table Open = ⊥
IsToKeep table (Fetch fetch) = ⊥
IsToKeep table (Intend intention) = ⊥
IsToKeep table (Prepare prepare) = ballot prepare.count (table.standing prepare.ticket) ≡ Keeps
IsToKeep table (Commit ticket) = ⊥
IsToKeep table (Abort ticket) = ⊥

-- the step calls the store, and waits for it: a Fetch looks for rows, a Commit or an Abort ends a prepared row. A Prepare whose row isn't kept is a vote NO
abbrev pub CallsStore : VolatileState → orders.Order → Type 0
CallsStore table Open = ⊥
CallsStore table (Fetch fetch) = read_verdict fetch.ticket fetch.op (table.locks fetch.leaf) (table.standing fetch.ticket) ≡ Go
CallsStore table (Intend intention) = ⊥
CallsStore table (Prepare prepare) = ⊥
CallsStore table (Commit ticket) = is_row (table.standing ticket) ≡ true
CallsStore table (Abort ticket) = is_row (table.standing ticket) ≡ true

-- the same of a letter's body
abbrev pub AsksElsewhere : List Locks → bodies.Body → Type 0
AsksElsewhere locks (body.Order order) = IsElsewhere locks order
AsksElsewhere locks (body.Reply reply) = ⊥

abbrev pub AsksBeyond : VolatileState → bodies.Body → Type 0
AsksBeyond table (body.Order order) = IsBeyond table order
AsksBeyond table (body.Reply reply) = ⊥

abbrev pub AsksToKeep : VolatileState → bodies.Body → Type 0
AsksToKeep table (body.Order order) = IsToKeep table order
AsksToKeep table (body.Reply reply) = ⊥

abbrev pub AsksStore : VolatileState → bodies.Body → Type 0
AsksStore table (body.Order order) = CallsStore table order
AsksStore table (body.Reply reply) = ⊥

-- the step that the table says of a letter, its store call kept, leads past the limits
abbrev pub IsPastLimits : SiteContent → VolatileState → Letter → Type 0
IsPastLimits kept table letter = is_within (site_after (state_of kept table) (on_letter (state_of kept table) (txn_name letter.txn) true (body_of letter.body))) ≡ false

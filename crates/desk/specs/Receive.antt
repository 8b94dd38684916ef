-- Which letters of sites may have operations sent.
use Rattle.std.specs.Prelude.{ℕ, nat_eq, Bool, true, false, ◌&&◌, not, List, Option, Some, None, is_none}
use Rattle.std.specs.Cmp.Lexicographic.{pointwise}
use Rattle.std.specs.List.{list_any}
use Rattle.store.specs.declared.letter.Body as bodies
use Rattle.store.specs.declared.letter.Body.TheVariants as body
use Rattle.store.specs.declared.letter.Letter as letters
use Rattle.store.specs.declared.name.Ticket.{Ticket}
use Rattle.store.specs.declared.reply.Reply as replies
use Rattle.store.specs.declared.reply.Reply.TheVariants as reply
use Rattle.desk.specs.declared.transaction.TxnState as standings
use Rattle.desk.specs.declared.transaction.TxnState.TheVariants as standing
use Rattle.desk.specs.Participants.{participant_in}

-- whether a statement goes on by what a site says that has given this ticket so far: by its first one, or by rows
abbrev pub goes_on : Option Ticket → replies.Reply → Bool
goes_on first (reply.Ticket ticket) = is_none first
goes_on first (reply.Rows rows) = true
goes_on first (reply.Refused refusal) = false
goes_on first (reply.Voted voted) = false
goes_on first (reply.Ack ticket) = false
goes_on first (reply.Inquire ticket) = false

-- only an undecided transaction has a statement
abbrev pub may_send : Option standings.TxnState → List ℕ → replies.Reply → Bool
may_send None site said = false
may_send (Some (standing.Undecided undecided)) site said = goes_on (participant_in site undecided.participants).ticket said
may_send (Some (standing.Committed committed)) site said = false

-- whether a letter is passed over: it is of none of these sites, or no site's
abbrev pub is_reply : bodies.Body → Bool
is_reply (body.Order order) = false
is_reply (body.Reply said) = true

abbrev pub is_strange : List (List ℕ) → letters.Letter → Bool
is_strange sites letter = not (is_reply letter.body && list_any (λ site. pointwise nat_eq site letter.site) sites)

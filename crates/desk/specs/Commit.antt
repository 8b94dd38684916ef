-- Which votes count.
use Rattle.std.specs.Prelude.{ℕ, Bool, true, false, ◌&&◌, ◌||◌, not, List, [], ◌∷◌, map, Option, Some, None, is_none}
use Rattle.std.specs.List.{list_all}
use Rattle.store.specs.declared.commit.Voter.{Voter}
use Rattle.store.specs.declared.name.Ticket.{Ticket}
use Rattle.store.specs.declared.reply.Vote.{Vote}
use Rattle.store.specs.declared.reply.Vote.TheVariants.{Yes, No, Read}
use Rattle.store.specs.declared.reply.Voted.{Voted}
use Rattle.protocol.specs.Letters.{is_no}
use Rattle.desk.specs.declared.participant.Participant.{Participant}
use Rattle.desk.specs.declared.transaction.Stage.TheVariants as stage
use Rattle.desk.specs.declared.transaction.Stage.{Stage}
use Rattle.desk.specs.declared.transaction.TxnState.{TxnState}
use Rattle.desk.specs.declared.transaction.TxnState.TheVariants as standing
use Rattle.desk.specs.declared.transaction.Undecided.{Undecided}
use Rattle.desk.specs.declared.transition.After.{After}
use Rattle.desk.specs.declared.transition.After.TheVariants.{Ends, Becomes}
use Rattle.desk.specs.Orders.{is_voting}
use Rattle.desk.specs.Participants.{changed_at, is_at, is_in_beside, participant_in, with_vote}
use Rattle.desk.specs.Acknowledge.{is_ticket}

-- whether this is the ticket that a site gave first
abbrev pub is_first : Ticket → Option Ticket → Bool
is_first ticket None = false
is_first ticket (Some first) = is_ticket first ticket

-- whether a site's vote under this ticket is still to come
abbrev pub awaits_vote : Ticket → Participant → Bool
awaits_vote ticket participant = is_first ticket participant.ticket && is_none participant.vote

-- whether a vote counts: in the first phase, the first one of its site, under the site's first ticket
abbrev pub counts_vote : Undecided → List ℕ → Ticket → Bool
counts_vote undecided site ticket = is_voting undecided.stage && awaits_vote ticket (participant_in site undecided.participants)

-- what a committed transaction becomes: a commit row, if it has voters
abbrev pub committed_by : List Voter → After
committed_by [] = Ends
committed_by (voter ∷ voters) = Becomes (standing.Committed (record { voters = voter ∷ voters; acked = [] }))

-- whether the transaction stands between two statements
abbrev pub is_idle : Stage → Bool
is_idle stage.Idle = true
is_idle (stage.Reading reading) = false
is_idle (stage.Writing writing) = false
is_idle stage.Voting = false

-- whether a vote counts by which its transaction isn't decided yet: it isn't NO, and another one is still to come
abbrev pub leaves_open : Undecided → List ℕ → Voted → Bool
leaves_open undecided site voted = counts_vote undecided site voted.ticket && (not (is_no voted.vote) && not (list_all (is_in_beside site) undecided.participants))

abbrev pub is_early : Option TxnState → List ℕ → Voted → Bool
is_early None site voted = false
is_early (Some (standing.Undecided undecided)) site voted = leaves_open undecided site voted
is_early (Some (standing.Committed committed)) site voted = false

-- whether a vote was READ
abbrev pub is_read : Option Vote → Bool
is_read None = false
is_read (Some Yes) = false
is_read (Some No) = false
is_read (Some Read) = true

-- whether a site isn't visited, has voted READ, or is this one
abbrev pub has_read_beside : List ℕ → Participant → Bool
has_read_beside site participant = is_at site participant || (not participant.visited || is_read participant.vote)

-- whether a transaction that gives no relation another split has only READ votes, with this one
abbrev pub only_reads : Undecided → List ℕ → Vote → Bool
only_reads undecided site vote = not undecided.moves && (is_read (Some vote) && list_all (has_read_beside site) undecided.participants)

-- the vote is counted
abbrev pub with_counted : List ℕ → Vote → Undecided → Undecided
with_counted site vote undecided = record undecided { participants = map (changed_at site (with_vote (Some vote))) undecided.participants }

-- Who is to commit, and who has acknowledged.
use Rattle.std.specs.Prelude.{◌≡◌, ℕ, suc, nat_eq, Bool, true, false, ◌&&◌, not, List, [], ◌∷◌, ◌++◌, map, Option, Some, None, if◌then◌else◌}
use Rattle.std.specs.Cmp.Lexicographic.{pointwise}
use Rattle.std.specs.FinMap as keyed
use Rattle.std.specs.List.{filter_map, list_all, list_any}
use Rattle.std.specs.Option.{option_map}
use Rattle.std.specs.Ordering.{is_eq}
use Rattle.store.specs.declared.commit.Voter.{Voter}
use Rattle.store.specs.declared.letter.Letter.{Letter}
use Rattle.store.specs.declared.name.Ticket.{Ticket}
use Rattle.store.specs.declared.name.Txn.{Txn}
use Rattle.store.specs.declared.order.Order.TheVariants as order
use Rattle.store.specs.declared.reply.Vote.{Vote}
use Rattle.store.specs.declared.reply.Vote.TheVariants.{Yes, No, Read}
use Rattle.store.specs.DeskContent.{DeskContent, Voters, by_site, is_txn}
use Rattle.store.specs.Name.{ticket_cmp}
use Rattle.desk.specs.declared.participant.Participant.{Participant}
use Rattle.desk.specs.declared.transaction.Committed.{Committed}
use Rattle.desk.specs.declared.transaction.TxnState.{TxnState}
use Rattle.desk.specs.declared.transaction.TxnState.TheVariants as standing
use Rattle.desk.specs.Orders.{ordered}

-- whether a vote was YES
abbrev pub is_yes : Option Vote → Bool
is_yes None = false
is_yes (Some Yes) = true
is_yes (Some No) = false
is_yes (Some Read) = false

-- a ticket at a site
abbrev pub voter_with : List ℕ → Ticket → Voter
voter_with site ticket = record { site = site; ticket = ticket }

-- the voter at a visited site that voted YES
abbrev pub voter_at : Participant → Option Voter
voter_at participant = if participant.visited && is_yes participant.vote then option_map (voter_with participant.site) participant.ticket else None

-- the voters, in the order of their sites
abbrev pub voters_among : List Participant → List Voter
voters_among participants = filter_map voter_at participants

-- the voters of a commit row, in the order of these sites
abbrev pub listed : List (List ℕ) → Voters → List Voter
listed sites voters = filter_map (λ site. option_map (voter_with site) (keyed.get voters site)) sites

-- a list of voters is that of a commit row, in the order of these sites
abbrev pub AreInOrder : List (List ℕ) → List Voter → Type 0
AreInOrder sites voters = listed sites (by_site voters) ≡ voters

-- a Commit to each voter
abbrev pub commit_letters : Txn → List Voter → List Letter
commit_letters txn voters = map (λ voter. ordered txn voter.site (order.Commit voter.ticket)) voters

-- whether it is this ticket
abbrev pub is_ticket : Ticket → Ticket → Bool
is_ticket one other = is_eq (ticket_cmp one other)

-- whether it is this ticket of this site
abbrev pub is_voter : List ℕ → Ticket → Voter → Bool
is_voter site ticket voter = pointwise nat_eq voter.site site && is_ticket voter.ticket ticket

-- whether it is among these
abbrev pub has_voter : List Voter → List ℕ → Ticket → Bool
has_voter voters site ticket = list_any (is_voter site ticket) voters

-- whether a voter has not acknowledged yet
abbrev pub is_new_ack : List Voter → List Voter → List ℕ → Ticket → Bool
is_new_ack voters acked site ticket = has_voter voters site ticket && not (has_voter acked site ticket)

-- whether each voter has acknowledged
abbrev pub are_acked : List Voter → List Voter → Bool
are_acked voters acked = list_all (λ voter. has_voter acked voter.site voter.ticket) voters

-- the voters that the store is to keep
abbrev pub kept_voters : Option TxnState → Option Voters
kept_voters None = None
kept_voters (Some (standing.Undecided undecided)) = None
kept_voters (Some (standing.Committed committed)) = Some (by_site committed.voters)

-- the store keeps these voters of a transaction, or no longer any, and, where the next catalogue comes into force, its number; nothing else has changed
pub record Keeps (txn : Txn) (voters : Option Voters) (raised : Bool) (old new : DeskContent) : Type 0 where
  pub commits : (other : Txn) → new.commits other ≡ (if is_txn txn other then voters else old.commits other)
  pub life : new.life ≡ old.life
  pub version : new.version ≡ (if raised then suc old.version else old.version)

-- a voter has acknowledged
abbrev pub with_ack : Committed → List ℕ → Ticket → Committed
with_ack committed site ticket = record committed { acked = committed.acked ++ voter_with site ticket ∷ [] }

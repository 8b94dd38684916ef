-- The voters of a transaction as they are kept.
use Rattle.std.specs.Prelude.{◌≡◌, ℕ, ℤ, pos, List, map, string_bytes}
use Rattle.std.specs.List.{AllByRecursion}
use Rattle.std.specs.Str.{IsUtf8}
use Rattle.store.specs.declared.commit.Voter.{Voter}
use Rattle.store.specs.declared.name.Txn.{Txn}
use Rattle.sqlstore.specs.declared.decision.Decision.{Decision}
use Rattle.sqlstore.specs.declared.vote.Vote.{Vote}

-- a site's name, and a ticket's incarnation and number
abbrev pub VoteCells : Type 0
VoteCells = List ℕ × (ℤ × ℤ)

abbrev pub vote_cells : Vote → VoteCells
vote_cells vote = (string_bytes vote.site, (vote.ticket.life, vote.ticket.visit))

-- those of a voter
abbrev pub voter_cells : Voter → VoteCells
voter_cells voter = (voter.site, (pos voter.ticket.life, pos voter.ticket.visit))

-- a site's name is a text
abbrev pub IsNamed : Voter → Type 0
IsNamed voter = IsUtf8 voter.site

-- a vote for each voter
abbrev pub AreVotes : List Vote → List Voter → Type 0
AreVotes votes voters = (map vote_cells votes ≡ map voter_cells voters) × AllByRecursion IsNamed voters

-- what is put into the tables for a transaction with these voters
pub record IsDecisionOf (txn : Txn) (voters : List Voter) (version : ℕ) (decision : Decision) : Type 0 where
  pub life : decision.txn.life ≡ pos txn.life
  pub number : decision.txn.visit ≡ pos txn.number
  pub votes : AreVotes decision.votes.items voters
  pub version_is : decision.version ≡ pos version

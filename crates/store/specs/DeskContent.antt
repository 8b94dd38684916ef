-- What the coordinator's store keeps, and what its calls make of it.
use Rattle.std.specs.Prelude.{◌≡◌, ℕ, ◌+◌, List, [], ◌∷◌, map, nat_eq, Bool, Option, Some, None, if◌then◌else◌}
use Rattle.std.specs.Cmp.Lexicographic.{pointwise, slice_cmp}
use Rattle.std.specs.FinMap as keyed
use Rattle.std.specs.List.{IsDistinct}
use Rattle.std.specs.List.Sorted.{IsStrictlySortedBy}
use Rattle.std.specs.Option.{option_map}
use Rattle.std.specs.Ordering.{is_eq, nat_cmp}
use Rattle.store.specs.declared.commit.CommitRow.{CommitRow}
use Rattle.store.specs.declared.commit.DeskKept.{DeskKept}
use Rattle.store.specs.declared.commit.Voter.{Voter}
use Rattle.store.specs.declared.name.Ticket.{Ticket}
use Rattle.store.specs.declared.name.Txn.{Txn}
use Rattle.store.specs.Name.{txn_cmp}

-- the voters of a commit row: the ticket of each site that voted YES
abbrev pub Voters : Type 0
Voters = keyed.FinMap (slice_cmp nat_cmp) Ticket

-- those of a list, in whatever order
abbrev pub by_site : List Voter → Voters
by_site voters = keyed.from_entries (map (λ voter. (voter.site, voter.ticket)) voters)

-- the voters of each transaction that has a commit row, the incarnation, and the catalogue's version
pub record DeskContent : Type 0 where
  pub commits : Txn → Option Voters
  pub life : ℕ
  pub version : ℕ

-- whether two transactions are the same
abbrev pub is_txn : Txn → Txn → Bool
is_txn one other = is_eq (txn_cmp one other)

-- each site once
abbrev pub AreVoters : List Voter → Type 0
AreVoters voters = IsDistinct (pointwise nat_eq) (map (λ voter. voter.site) voters)

-- the commit row that voters make: none where there are none
abbrev pub commit_row : List Voter → Option Voters
commit_row [] = None
commit_row (voter ∷ voters) = Some (by_site (voter ∷ voters))

-- nothing has changed
pub record IsUnchanged (old new : DeskContent) : Type 0 where
  pub commits : (txn : Txn) → new.commits txn ≡ old.commits txn
  pub life : new.life ≡ old.life
  pub version : new.version ≡ old.version

-- the transaction has the commit row that these voters make, and the catalogue of this version is in force
pub record KeepsCommit (txn : Txn) (voters : List Voter) (in_force : ℕ) (old new : DeskContent) : Type 0 where
  pub commits : (other : Txn) → new.commits other ≡ (if is_txn txn other then commit_row voters else old.commits other)
  pub life : new.life ≡ old.life
  pub version : new.version ≡ in_force

-- the transaction's commit row is gone
pub record DropsCommit (txn : Txn) (old new : DeskContent) : Type 0 where
  pub commits : (other : Txn) → new.commits other ≡ (if is_txn txn other then None else old.commits other)
  pub life : new.life ≡ old.life
  pub version : new.version ≡ old.version

-- the next incarnation begins
pub record BeginsLife (old new : DeskContent) : Type 0 where
  pub commits : (txn : Txn) → new.commits txn ≡ old.commits txn
  pub life : new.life ≡ old.life + 1
  pub version : new.version ≡ old.version

-- the voters of a transaction in a list of commit rows
abbrev pub voters_in : Txn → List CommitRow → Option (List Voter)
voters_in txn [] = None
voters_in txn (row ∷ rows) = if is_txn txn row.txn then Some row.voters else voters_in txn rows

-- a listing of all that is kept; the voters of a row stand in any order
pub record Lists (kept : DeskContent) (all : DeskKept) : Type 0 where
  pub rows : (txn : Txn) → option_map by_site (voters_in txn all.commits) ≡ kept.commits txn
  pub ascend : IsStrictlySortedBy txn_cmp (map (λ row. row.txn) all.commits)
  pub incarnation : all.life ≡ kept.life
  pub catalogue : all.version ≡ kept.version

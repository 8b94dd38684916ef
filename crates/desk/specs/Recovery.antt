-- A life of the coordinator begins: what the rows that its store keeps make of its memory, and what a restart puts out.
use Rattle.std.specs.Prelude.{◌≡◌, ◌⊎◌, ◌≤◌, ◌+◌, ◌^◌, ⊤, ℕ, nat_eq, Bool, true, false, ◌&&◌, nat_le, List, [], ◌∷◌, map, Option, Some, None}
use Rattle.std.specs.BTreeMap.{insert_entry}
use Rattle.std.specs.Cmp.Lexicographic.{pointwise}
use Rattle.std.specs.List.{AllByRecursion, filter_map, find, flat_map, list_all, list_any}
use Rattle.std.specs.List.Sorted.{IsStrictlySortedBy}
use Rattle.std.specs.Option.{option_map}
use Rattle.store.specs.declared.commit.CommitRow.{CommitRow}
use Rattle.store.specs.declared.commit.DeskKept.{DeskKept}
use Rattle.store.specs.declared.commit.Voter.{Voter}
use Rattle.store.specs.declared.fault.StoreFault.TheVariants as store_faults
use Rattle.store.specs.declared.letter.Letter.{Letter}
use Rattle.store.specs.declared.name.Txn.{Txn}
use Rattle.store.specs.DeskContent.{DeskContent, Lists, Voters, by_site, voters_in}
use Rattle.store.specs.Name.{txn_cmp}
use Rattle.protocol.specs.Desk as protocol
use Rattle.desk.specs.declared.refusal.Refusal as refusals
use Rattle.desk.specs.declared.refusal.Refusal.TheVariants as refusal
use Rattle.desk.specs.declared.reply.Notice.{Notice}
use Rattle.desk.specs.declared.reply.Reply.TheVariants as reply
use Rattle.desk.specs.declared.reply.Why.TheVariants as why
use Rattle.desk.specs.declared.transaction.TxnState.{TxnState}
use Rattle.desk.specs.declared.transaction.TxnState.TheVariants as standing
use Rattle.desk.specs.Database.{Database, sent}
use Rattle.desk.specs.State.{Fits, VolatileState, desk_of, notice_of}
use Rattle.desk.specs.Transition.{told}
use Rattle.desk.specs.Acknowledge.{AreInOrder, commit_letters, listed}

-- a decided transaction of which no acknowledgement has come
abbrev pub row_standing : CommitRow → TxnState
row_standing row = standing.Committed (record { voters = row.voters; acked = [] })

-- what stands where the store keeps these voters, and nothing else is known; they stand in the order of these sites
abbrev pub resting : List (List ℕ) → Option Voters → Option TxnState
resting sites None = None
resting sites (Some voters) = Some (standing.Committed (record { voters = listed sites voters; acked = [] }))

-- whether it is the voter of a site
abbrev pub is_of : List ℕ → Voter → Bool
is_of site voter = pointwise nat_eq voter.site site

-- voters in the order of these sites, in a row and in each row
abbrev pub in_order : List (List ℕ) → List Voter → List Voter
in_order sites voters = filter_map (λ site. find (is_of site) voters) sites

abbrev pub row_in_order : List (List ℕ) → CommitRow → CommitRow
row_in_order sites row = record row { voters = in_order sites row.voters }

-- whether each voter of a row, and of each row, is at one of these sites
abbrev pub are_at : List (List ℕ) → List Voter → Bool
are_at sites voters = list_all (λ voter. list_any (λ site. pointwise nat_eq site voter.site) sites) voters

abbrev pub rows_are_at : List (List ℕ) → List CommitRow → Bool
rows_are_at sites rows = list_all (λ row. are_at sites row.voters) rows

-- each row stands
abbrev pub stood_by : List CommitRow → List (Txn × TxnState) → List (Txn × TxnState)
stood_by [] entries = entries
stood_by (row ∷ rows) entries = stood_by rows (insert_entry txn_cmp entries row.txn (row_standing row))

-- whether the transactions of these rows were begun, in this life or before
abbrev pub are_begun : ℕ → List CommitRow → Bool
are_begun life rows = list_all (λ row. nat_le row.txn.life life) rows

-- whether rows can be those of a coordinator of these sites
abbrev pub may_stand : ℕ → List (List ℕ) → List CommitRow → Bool
may_stand life sites rows = are_begun life rows && rows_are_at sites rows

-- a Commit to each voter of each row
abbrev pub commits_again : List CommitRow → List Letter
commits_again rows = flat_map (λ row. commit_letters row.txn row.voters) rows

-- a restart aborts who is undecided
abbrev pub with_lost : Txn → TxnState → List Notice → List Notice
with_lost txn (standing.Undecided undecided) notices = record { txn = txn; reply = reply.Aborted why.Restart } ∷ notices
with_lost txn (standing.Committed committed) notices = notices

-- so each of these
abbrev pub lost_among : List (Txn × TxnState) → List Notice
lost_among [] = []
lost_among (entry ∷ entries) = with_lost entry.0 entry.1 (lost_among entries)

-- what is kept can be no coordinator's of these sites: a row is of a transaction that was not begun, or has a voter elsewhere
pub record IsStrange (sites : List (List ℕ)) (kept : DeskContent) : Type 0 where
  pub all : DeskKept
  pub lists : Lists kept all
  pub strange : may_stand all.life sites all.commits ≡ false

-- the letters are a Commit to each voter that the store keeps, by transaction, and of a transaction in the order of these sites
pub record SendsAgain (sites : List (List ℕ)) (kept : DeskContent) (written : List Letter) : Type 0 where
  pub rows : List CommitRow
  pub voters : (txn : Txn) → option_map by_site (voters_in txn rows) ≡ kept.commits txn
  pub in_order : AllByRecursion (λ row. AreInOrder sites row.voters) rows
  pub ascend : IsStrictlySortedBy txn_cmp (map (λ row. row.txn) rows)
  pub letters : written ≡ commits_again rows

-- a life begins: the rows stand, by transaction, and nothing else
pub record Rises (db : Database) (kept : DeskContent) (table : VolatileState) : Type 0 where
  pub fits : Fits db kept table
  pub within : protocol.is_desk_within (desk_of db table) ≡ true
  pub stands : (txn : Txn) → table.standing txn ≡ resting db.sites (kept.commits txn)
  pub undecided : table.undecided ≡ 0
  pub number : table.number ≡ 0

-- a restart: the state is the protocol's, and so are the letters and the replies; the letters are in the order of the transactions
pub record Restarts (db : Database) (before : VolatileState) (kept : DeskContent) (after : VolatileState) (written : List Letter) (notices : List Notice) : Type 0 where
  pub fits : Fits db kept after
  pub within : protocol.is_desk_within (desk_of db after) ≡ true
  pub state : desk_of db after ≡ protocol.desk_restarted (desk_of db before)
  pub version : after.version ≡ before.version
  pub letters : map (sent db) written ≡ flat_map (λ t. (protocol.txn_restarted t ((desk_of db before).txn t)).letters) (desk_of db before).known
  pub again : SendsAgain db.sites kept written
  pub replies : map notice_of notices ≡ filter_map (told db) (flat_map (λ t. (protocol.txn_restarted t ((desk_of db before).txn t)).deeds) (desk_of db before).known)

-- Why the coordinator of these sites doesn't restart: memory ran out, its last life has begun, its store refused or wasn't to be called (kept is false), or the
-- rows that it keeps can be no coordinator's. Sound: that the store is clean now and was sound; Refused: that the medium has refused meanwhile
abbrev pub DeskRestartTells : (Sound Refused : Type 0) → Bool → List (List ℕ) → DeskContent → refusals.Refusal → Type 0
DeskRestartTells Sound Refused kept sites content refusal.Memory = ⊤
DeskRestartTells Sound Refused kept sites content refusal.Full = Sound → 2 ^ 63 ≤ content.life + 1
DeskRestartTells Sound Refused kept sites content (refusal.Store store_faults.Refused) = (kept ≡ false) ⊎ Refused
DeskRestartTells Sound Refused kept sites content (refusal.Store store_faults.Damaged) = Sound → IsStrange sites content
DeskRestartTells Sound Refused kept sites content other = ⊥

-- The coordinator's state: what its store keeps, and what it has in memory.
use Rattle.std.specs.Prelude.{◌≡◌, ℕ, suc, ◌^◌, ◌<◌, ◌≤◌, ◌⊎◌, Bool, true, false, List, [], ◌∷◌, map, length, filter, Option, Some, None, is_some}
use Rattle.std.specs.BTreeMap.{is_at}
use Rattle.std.specs.List.{filter_map, list_any}
use Rattle.std.specs.List.Sorted.{IsStrictlySortedBy}
use Rattle.std.specs.Map.{lookup, keys_of, remove_entry, set_value}
use Rattle.store.specs.declared.letter.Letter.{Letter}
use Rattle.store.specs.declared.name.Txn.{Txn}
use Rattle.store.specs.DeskContent.{DeskContent}
use Rattle.store.specs.Name.{txn_cmp}
use Rattle.catalog.specs.Chain.{IsNext}
use Rattle.protocol.specs.Desk as protocol
use Rattle.protocol.specs.Language.{Name}
use Rattle.protocol.specs.Letters.{txn_name}
use Rattle.protocol.specs.Parts.{In}
use Rattle.protocol.specs.World.{version_after}
use Rattle.desk.specs.declared.volatile.Volatile.{Volatile}
use Rattle.desk.specs.declared.reply.Notice.{Notice}
use Rattle.desk.specs.declared.transaction.TxnState.{TxnState}
use Rattle.desk.specs.declared.transaction.TxnState.TheVariants as standing
use Rattle.desk.specs.declared.transition.After.{After}
use Rattle.desk.specs.declared.transition.After.TheVariants.{Stays, Ends, Becomes}
use Rattle.desk.specs.Database.{Database, language, sent}
use Rattle.desk.specs.Planned.{IsPlanned}
use Rattle.desk.specs.Participants.{sites_of}
use Rattle.desk.specs.Transaction.{txn_of}
use Rattle.desk.specs.Stepped.{IsAtHome}
use Rattle.desk.specs.Transition.{is_moving, told}
use Rattle.desk.specs.Acknowledge.{AreInOrder, kept_voters}

-- what is in memory, read transaction by transaction
pub record VolatileState : Type 0 where
  pub standing : Txn → Option TxnState
  pub txns : List Txn
  pub undecided : ℕ
  pub life : ℕ
  pub number : ℕ
  -- the catalogue's version that the store has loaded
  pub version : ℕ

abbrev pub volatile_from : List (Txn × TxnState) → ℕ → ℕ → ℕ → ℕ → VolatileState
volatile_from entries undecided life number version = record { standing = λ txn. lookup (is_at (txn_cmp txn)) entries; txns = keys_of entries; undecided = undecided; life = life; number = number; version = version }

abbrev pub volatile_of : Volatile → VolatileState
volatile_of volatile = volatile_from volatile.standings.entries volatile.undecided volatile.life volatile.number volatile.version

-- what is in memory is a coordinator's: what stands there, in the order of the transactions
pub record IsMemory (table : VolatileState) : Type 0 where
  pub entries : List (Txn × TxnState)
  pub is : table ≡ volatile_from entries table.undecided table.life table.number table.version
  pub ascend : IsStrictlySortedBy txn_cmp (keys_of entries)

-- the transaction of a name
abbrev pub txn_at : Name → Txn
txn_at name = record { life = name.life; number = name.number }

-- the state that the protocol sees
abbrev pub desk_of : (db : Database) → VolatileState → protocol.Desk (language db)
desk_of db table = record {
  txn = λ name. txn_of db (table.standing (txn_at name));
  known = map txn_name table.txns;
  life = table.life;
  number = table.number;
}

-- whether an undecided transaction stands there
abbrev pub is_open : Option TxnState → Bool
is_open None = false
is_open (Some (standing.Undecided undecided)) = true
is_open (Some (standing.Committed committed)) = false

-- whether what stands there is undecided no longer
abbrev pub closes : After → Bool
closes Stays = false
closes Ends = true
closes (Becomes (standing.Undecided undecided)) = false
closes (Becomes (standing.Committed committed)) = true

-- an undecided transaction has to do with the sites of the database, what its statement still sends is of leaves at their sites,
-- and a plan whose rows are waited for is the statement's under the catalogue in force; the voters of a decided one stand in the order of the sites
abbrev pub IsIn : Database → ℕ → TxnState → Type 0
IsIn db n (standing.Undecided undecided) = (sites_of undecided.participants ≡ db.sites) × IsAtHome db undecided.stage × IsPlanned db n undecided.stage
IsIn db n (standing.Committed committed) = AreInOrder db.sites committed.voters

-- so after a step
abbrev pub IsInAfter : Database → ℕ → After → Type 0
IsInAfter db n Stays = Unit
IsInAfter db n Ends = Unit
IsInAfter db n (Becomes standing) = IsIn db n standing

-- a transaction was begun in an earlier life, or in this one
abbrev pub IsBegun : VolatileState → Txn → Type 0
IsBegun table txn = (txn.life < table.life) ⊎ ((txn.life ≡ table.life) × (txn.number ≤ table.number))

-- how many transactions are undecided
abbrev pub open_among : (Txn → Option TxnState) → List Txn → ℕ
open_among standing txns = length (filter (λ txn. is_open (standing txn)) txns)

-- whether any transaction that is undecided gives a relation another split
abbrev pub anyone_moves : VolatileState → Bool
anyone_moves table = list_any (λ txn. is_moving (table.standing txn)) table.txns

-- a transaction that gives a relation another split: nothing else stands, and there is a next catalogue, which splits one relation otherwise
pub record IsMoving (db : Database) (table : VolatileState) (txn : Txn) : Type 0 where
  pub alone : (other : Txn) → is_some (table.standing other) ≡ true → other ≡ txn
  pub next : (name : List ℕ) × IsNext (db.catalogue table.version) (db.catalogue (suc table.version)) name

-- what is in memory fits what the store keeps
pub record Fits (db : Database) (kept : DeskContent) (table : VolatileState) : Type 0 where
  -- the voters of decided transactions are those of the store's rows
  pub rows : (txn : Txn) → kept_voters (table.standing txn) ≡ kept.commits txn
  pub life : table.life ≡ kept.life
  -- the version remembered is the store's
  pub version : table.version ≡ kept.version
  -- the list has the transactions behind which something stands
  pub listed : (txn : Txn) → is_some (table.standing txn) ≡ true → In txn table.txns
  pub lives : (txn : Txn) → In txn table.txns → is_some (table.standing txn) ≡ true
  -- they were begun
  pub begun : (txn : Txn) → is_some (table.standing txn) ≡ true → IsBegun table txn
  -- each has to do with the sites of the database, and with the catalogue in force
  pub sites : (txn : Txn) (standing : TxnState) → table.standing txn ≡ Some standing → IsIn db table.version standing
  -- who gives a relation another split does so alone
  pub moving : (txn : Txn) → is_moving (table.standing txn) ≡ true → IsMoving db table txn
  -- so many are undecided
  pub counted : table.undecided ≡ open_among table.standing table.txns
  -- the limits are kept
  pub short : (txn : Txn) → protocol.is_short_txn (txn_of db (table.standing txn)) ≡ true
  pub few : table.undecided ≤ 256
  pub low : (table.life < 2 ^ 63) × (table.number < 2 ^ 63)

-- what stands behind transactions after a step of one of them
abbrev pub settled : Txn → After → List (Txn × TxnState) → List (Txn × TxnState)
settled txn Stays entries = entries
settled txn Ends entries = remove_entry (is_at (txn_cmp txn)) entries
settled txn (Becomes standing) entries = set_value (is_at (txn_cmp txn)) entries standing

-- whom a reply is for, and the reply
abbrev pub notice_of : Notice → Name × Rattle.desk.specs.declared.reply.Reply.Reply
notice_of notice = (txn_name notice.txn, notice.reply)

-- a step of a transaction: the state after it is the protocol's, and so are the letters and the replies
pub record Steps (db : Database) (before : VolatileState) (kept : DeskContent) (after : VolatileState) (txn : Txn) (wanted : protocol.Transition (language db)) (written : List Letter) (notices : List Notice) : Type 0 where
  pub fits : Fits db kept after
  pub within : protocol.is_desk_within (desk_of db after) ≡ true
  pub state : desk_of db after ≡ protocol.desk_after (desk_of db before) (txn_name txn) wanted.txn
  pub version : after.version ≡ version_after before.version ((desk_of db before).txn (txn_name txn)) (txn_name txn) wanted.deeds
  pub letters : map (sent db) written ≡ wanted.letters
  pub replies : map notice_of notices ≡ filter_map (told db) wanted.deeds

-- a transaction begins, moves: one that is to give a relation another split; the state after it is the protocol's, and its client hears that it has begun
pub record Begins (db : Database) (moves : Bool) (before : VolatileState) (kept : DeskContent) (after : VolatileState) (written : List Letter) (notices : List Notice) : Type 0 where
  pub fits : Fits db kept after
  pub within : protocol.is_desk_within (desk_of db after) ≡ true
  pub state : desk_of db after ≡ protocol.began_as moves (desk_of db before)
  pub version : after.version ≡ before.version
  pub letters : written ≡ []
  pub replies : map notice_of notices ≡ filter_map (told db) (protocol.Began (protocol.next_txn (desk_of db before)) ∷ [])

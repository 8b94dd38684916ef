-- A site's state: what its store keeps, and what it has in memory.
use Rattle.std.specs.Prelude.{◌≡◌, ℕ, ◌<◌, ◌≤◌, ◌^◌, ◌⊎◌, Bool, true, false, List, filter, length, map, Option, Some, None, is_some}
use Rattle.std.specs.BTreeMap.{is_at}
use Rattle.std.specs.FinMap as fin
use Rattle.std.specs.List.Sorted.{IsStrictlySortedBy}
use Rattle.std.specs.Map.{lookup, keys_of}
use Rattle.std.specs.Option.{option_map}
use Rattle.terms.specs.declared.leaf.Leaf.{Leaf}
use Rattle.store.specs.declared.name.Ticket.{Ticket}
use Rattle.store.specs.declared.name.Txn.{Txn}
use Rattle.store.specs.declared.prepared.Prepared.{Prepared as Row}
use Rattle.store.specs.Content.{Changes}
use Rattle.store.specs.Name.{ticket_cmp}
use Rattle.store.specs.SiteContent.{SiteContent}
use Rattle.protocol.specs.Parts.{In}
use Rattle.store.specs.declared.reply.Reply.{Reply}
use Rattle.protocol.specs.Site.{SiteState, Status, Dead, Active, Prepared, Act, has_exclusive, is_short, is_within, site_after, said, on_letter}
use Rattle.protocol.specs.World.{addressed}
use Rattle.store.specs.declared.letter.Letter.{Letter}
use Rattle.site.specs.declared.locks.Locks.{Locks}
use Rattle.site.specs.declared.volatile.Volatile.{Volatile}
use Rattle.site.specs.declared.tickets.TicketState as standings
use Rattle.site.specs.declared.tickets.TicketState.TheVariants as standing
use Rattle.protocol.specs.Local.{local}
use Rattle.protocol.specs.Letters.{name_of, ticket_of, txn_name, said_by, body_of, letter_of, kept_in}
use Rattle.site.specs.Locks.{reads, writes, is_foreign, leaves_in, locks_in}

-- what is in memory, read ticket by ticket and leaf by leaf
pub record VolatileState : Type 0 where
  pub standing : Ticket → Option standings.TicketState
  pub tickets : List Ticket
  pub leaves : List Leaf
  pub locks : Leaf → Locks
  pub active : ℕ
  pub life : ℕ
  pub number : ℕ

abbrev pub volatile_from : List (Ticket × standings.TicketState) → List Locks → ℕ → ℕ → ℕ → VolatileState
volatile_from entries locks active life number = record { standing = λ ticket. lookup (is_at (ticket_cmp ticket)) entries; tickets = keys_of entries; leaves = leaves_in locks; locks = λ leaf. locks_in leaf locks; active = active; life = life; number = number }

abbrev pub volatile_of : Volatile → VolatileState
volatile_of volatile = volatile_from volatile.standings volatile.locks.items volatile.active volatile.life volatile.number

-- what stands behind a ticket without a prepared row: a visit, with its locks and the leaves that are foreign to it, or nothing
abbrev pub visiting : (Leaf → Locks) → Ticket → Option standings.TicketState → Status local
visiting locks ticket None = Dead
visiting locks ticket (Some (standing.Prepared txn)) = Dead
visiting locks ticket (Some (standing.Active visit)) = Active (record {
  done = visit.done;
  changes = visit.changes;
  shared = λ leaf. reads ticket (locks leaf);
  foreign = λ leaf. is_foreign ticket (locks leaf);
})

-- what stands behind a ticket
abbrev pub stands : VolatileState → Ticket → Option Row → Status local
stands table ticket (Some row) = Prepared (txn_name row.txn) row.changes
stands table ticket None = visiting table.locks ticket (table.standing ticket)

-- the state that the store and the memory make together
abbrev pub state_of : SiteContent → VolatileState → SiteState local
state_of kept table = record {
  kept = kept.content;
  status = λ name. stands table (ticket_of name) (kept.prepared (ticket_of name));
  known = map name_of table.tickets;
  life = table.life;
  number = table.number;
}

-- the transaction of a prepared standing
abbrev pub txn_in : Option standings.TicketState → Option Txn
txn_in None = None
txn_in (Some (standing.Active visit)) = None
txn_in (Some (standing.Prepared txn)) = Some txn

-- whether a visit stands there
abbrev pub is_visit : Option standings.TicketState → Bool
is_visit None = false
is_visit (Some (standing.Active visit)) = true
is_visit (Some (standing.Prepared txn)) = false

-- whether a prepared row stands there
abbrev pub is_row : Option standings.TicketState → Bool
is_row None = false
is_row (Some (standing.Active visit)) = false
is_row (Some (standing.Prepared txn)) = true

-- what a visit intends
abbrev pub changes_of : Option standings.TicketState → Changes
changes_of None = fin.empty
changes_of (Some (standing.Active visit)) = visit.changes
changes_of (Some (standing.Prepared txn)) = fin.empty

abbrev pub changes_at : VolatileState → Ticket → Changes
changes_at table ticket = changes_of (table.standing ticket)

-- a ticket was drawn in an earlier life, or in this one
abbrev pub IsDrawn : VolatileState → Ticket → Type 0
IsDrawn table ticket = (ticket.life < table.life) ⊎ ((ticket.life ≡ table.life) × (ticket.visit ≤ table.number))

-- how many tickets have visits
abbrev pub visits_among : (Ticket → Option standings.TicketState) → List Ticket → ℕ
visits_among standing tickets = length (filter (λ ticket. is_visit (standing ticket)) tickets)

-- the store has these leaves
abbrev pub AreHad : List Leaf → SiteContent → Type 0
AreHad leaves kept = (leaf : Leaf) → In leaf leaves → kept.has leaf ≡ true

-- what is in memory fits what the store keeps
pub record Fits (kept : SiteContent) (table : VolatileState) : Type 0 where
  -- the prepared tickets are those of the store's rows
  pub prepared : (ticket : Ticket) → txn_in (table.standing ticket) ≡ option_map (λ row. row.txn) (kept.prepared ticket)
  pub life : table.life ≡ kept.life
  -- the site's leaves are the store's
  pub had : AreHad table.leaves kept
  -- the list has the tickets behind which something stands
  pub listed : (ticket : Ticket) → is_some (table.standing ticket) ≡ true → In ticket table.tickets
  pub lives : (ticket : Ticket) → In ticket table.tickets → is_some (table.standing ticket) ≡ true
  -- each of them once, and the oldest first
  pub ascend : IsStrictlySortedBy ticket_cmp table.tickets
  -- readers are visits; a writer is who has intentions on the leaf
  pub readers : (leaf : Leaf) (ticket : Ticket) → reads ticket (table.locks leaf) ≡ true → is_visit (table.standing ticket) ≡ true
  pub writers : (leaf : Leaf) (ticket : Ticket) → writes ticket (table.locks leaf) ≡ has_exclusive leaf (stands table ticket (kept.prepared ticket))
  -- tickets were drawn, those of visits in this life
  pub drawn : (ticket : Ticket) → is_some (table.standing ticket) ≡ true → IsDrawn table ticket
  pub fresh : (ticket : Ticket) → is_visit (table.standing ticket) ≡ true → (ticket.life ≡ table.life) × (ticket.visit ≤ table.number)
  pub released : (leaf : Leaf) → (table.locks leaf).released ≤ table.number
  -- the visits are counted, and the limits are kept
  pub counted : table.active ≡ visits_among table.standing table.tickets
  pub few : table.active ≤ 1024
  pub short : (ticket : Ticket) → is_short (stands table ticket (kept.prepared ticket)) ≡ true
  pub low : (table.life < 2 ^ 63) × (table.number < 2 ^ 63)

-- a step of the machine: what the act makes of the state, and what it says
pub record Steps (old : SiteContent) (before : VolatileState) (new : SiteContent) (after : VolatileState) (act : Act local) (reply : Option Reply) : Type 0 where
  pub fits : Fits new after
  pub state : state_of new after ≡ site_after (state_of old before) act
  pub says : said (state_of old before) act ≡ said_by reply

-- what the table says of a letter
abbrev pub act_on : SiteContent → VolatileState → Letter → List Letter → Act local
act_on old before letter letters = on_letter (state_of old before) (txn_name letter.txn) (kept_in letters) (body_of letter.body)

-- a letter comes: the state is the table's, and so is what is answered
pub record Takes (old : SiteContent) (before : VolatileState) (new : SiteContent) (after : VolatileState) (letter : Letter) (letters : List Letter) : Type 0 where
  pub fits : Fits new after
  pub state : state_of new after ≡ site_after (state_of old before) (act_on old before letter letters)
  pub says : map letter_of letters ≡ addressed letter.site (txn_name letter.txn) (said (state_of old before) (act_on old before letter letters))

-- a state whose memory fits the store is within the protocol's limits: 1,024 visits, and numbers below 2^63
abbrev pub FitIsWithin : Type 0
FitIsWithin = (kept : SiteContent) (table : VolatileState) → Fits kept table → is_within (state_of kept table) ≡ true

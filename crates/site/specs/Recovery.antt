-- A life of a site begins: what the rows that its store keeps make of its memory.
use Rattle.std.specs.Prelude.{◌≡◌, ℕ, Bool, true, false, ◌&&◌, ◌||◌, not, nat_le, List, [], ◌∷◌, map, Option, Some, None, is_none, if◌then◌else◌}
use Rattle.std.specs.BTreeMap.{insert_entry}
use Rattle.std.specs.List.{list_all}
use Rattle.terms.specs.declared.leaf.Leaf.{Leaf}
use Rattle.store.specs.declared.name.Ticket.{Ticket}
use Rattle.store.specs.declared.prepared.Prepared.{Prepared as Row}
use Rattle.store.specs.declared.prepared.PreparedRow.{PreparedRow}
use Rattle.store.specs.declared.prepared.SiteRows.{SiteRows}
use Rattle.store.specs.Content.{Changes, touches, are_within}
use Rattle.store.specs.Name.{ticket_cmp}
use Rattle.store.specs.SiteContent.{SiteContent, ListsRows}
use Rattle.protocol.specs.Site.{SiteState, Status, Dead, Prepared, site_restarted}
use Rattle.site.specs.declared.locks.Locks.{Locks}
use Rattle.site.specs.declared.tickets.TicketState as standings
use Rattle.site.specs.declared.tickets.TicketState.TheVariants as standing
use Rattle.protocol.specs.Letters.{name_of, ticket_of, txn_name}
use Rattle.protocol.specs.Local.{local}
use Rattle.site.specs.Locks.{free, with_writer}
use Rattle.site.specs.State.{VolatileState, Fits, state_of}

-- the ticket has the exclusive lock on a leaf that its changes touch
abbrev pub grants : Ticket → Changes → Locks → Locks
grants ticket changes locks = if touches locks.leaf changes then with_writer ticket locks else locks

-- so for each row
abbrev pub granted : List PreparedRow → List Locks → List Locks
granted [] locks = locks
granted (row ∷ rows) locks = granted rows (map (grants row.ticket row.prepared.changes) locks)

-- each row stands
abbrev pub stood_by : List PreparedRow → List (Ticket × standings.TicketState) → List (Ticket × standings.TicketState)
stood_by [] entries = entries
stood_by (row ∷ rows) entries = stood_by rows (insert_entry ticket_cmp entries row.ticket (standing.Prepared row.prepared.txn))

-- whether these changes touch nothing that another writes
abbrev pub is_open : Changes → Locks → Bool
is_open changes locks = is_none locks.writer || not (touches locks.leaf changes)

-- whether a row can be a site's: a ticket that was drawn, changes of its leaves alone, and no other row's leaf
abbrev pub may_stand : List Leaf → ℕ → PreparedRow → List Locks → Bool
may_stand leaves life row locks = nat_le row.ticket.life life && (are_within leaves row.prepared.changes && list_all (is_open row.prepared.changes) locks)

abbrev pub all_may_stand : List Leaf → ℕ → List PreparedRow → List Locks → Bool
all_may_stand leaves life [] locks = true
all_may_stand leaves life (row ∷ rows) locks = may_stand leaves life row locks && all_may_stand leaves life rows (map (grants row.ticket row.prepared.changes) locks)

-- what is kept can be no site's that has these leaves
pub record IsStrange (leaves : List Leaf) (kept : SiteContent) : Type 0 where
  pub all : SiteRows
  pub lists : ListsRows kept all
  pub strange : all_may_stand leaves all.life all.prepared (map free leaves) ≡ false

-- what stands behind a ticket where there are no visits
abbrev pub resting : Option Row → Status local
resting None = Dead
resting (Some row) = Prepared (txn_name row.txn) row.changes

-- the state of a site without visits that has drawn no ticket in this life; the rows' tickets are these
abbrev pub at_rest : SiteContent → List Ticket → SiteState local
at_rest kept tickets = record {
  kept = kept.content;
  status = λ name. resting (kept.prepared (ticket_of name));
  known = map name_of tickets;
  life = kept.life;
  number = 0;
}

-- a life begins: the rows stand, by ticket, and nothing else
pub record Begins (kept : SiteContent) (table : VolatileState) : Type 0 where
  pub fits : Fits kept table
  pub state : state_of kept table ≡ at_rest kept table.tickets
  pub active : table.active ≡ 0

-- a restart: the state is the protocol's
pub record Restarts (old : SiteContent) (before : VolatileState) (new : SiteContent) (after : VolatileState) : Type 0 where
  pub fits : Fits new after
  pub state : state_of new after ≡ site_restarted (state_of old before)

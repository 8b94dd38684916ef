-- What a site's store keeps, and what its calls make of it.
use Rattle.std.specs.Prelude.{◌≡◌, ◌≢◌, ℕ, ◌+◌, List, [], ◌∷◌, map, Bool, true, Option, Some, None, IsSome, if◌then◌else◌}
use Rattle.std.specs.FinMap as fin
use Rattle.std.specs.List.Sorted.{IsStrictlySortedBy}
use Rattle.std.specs.Ordering.{is_eq}
use Rattle.terms.specs.declared.leaf.Leaf.{Leaf}
use Rattle.store.specs.declared.name.Ticket.{Ticket}
use Rattle.store.specs.declared.prepared.Prepared.{Prepared}
use Rattle.store.specs.declared.prepared.PreparedRow.{PreparedRow}
use Rattle.store.specs.declared.prepared.SiteKept.{SiteKept}
use Rattle.store.specs.declared.prepared.SiteRows.{SiteRows}
use Rattle.store.specs.declared.slot.Slot.{Slot}
use Rattle.store.specs.Content.{Content, Changes, changed, made_by}
use Rattle.store.specs.Name.{ticket_cmp}

-- which leaves the store has, the content of each, the row of each ticket that is prepared, and the incarnation
pub record SiteContent : Type 0 where
  pub has : Leaf → Bool
  pub content : Leaf → Content
  pub prepared : Ticket → Option Prepared
  pub life : ℕ

-- whether two tickets are the same
abbrev pub is_ticket : Ticket → Ticket → Bool
is_ticket one other = is_eq (ticket_cmp one other)

-- nothing has changed
pub record IsUnchanged (old new : SiteContent) : Type 0 where
  pub has : (leaf : Leaf) → new.has leaf ≡ old.has leaf
  pub content : (leaf : Leaf) → new.content leaf ≡ old.content leaf
  pub prepared : (ticket : Ticket) → new.prepared ticket ≡ old.prepared ticket
  pub life : new.life ≡ old.life

-- what may be kept of a ticket: it has no row yet, and something is changed, of leaves that the store has alone
pub record MayPrepare (ticket : Ticket) (changes : Changes) (kept : SiteContent) : Type 0 where
  pub new : kept.prepared ticket ≡ None
  pub some : changes ≢ fin.empty
  pub within : (slot : Slot) → IsSome (fin.get changes slot) → kept.has slot.leaf ≡ true

-- the ticket is prepared with this row
pub record Prepares (ticket : Ticket) (row : Prepared) (old new : SiteContent) : Type 0 where
  pub has : (leaf : Leaf) → new.has leaf ≡ old.has leaf
  pub content : (leaf : Leaf) → new.content leaf ≡ old.content leaf
  pub prepared : (other : Ticket) → new.prepared other ≡ (if is_ticket ticket other then Some row else old.prepared other)
  pub life : new.life ≡ old.life

-- the changes are made, and the ticket's row is gone
pub record Applies (ticket : Ticket) (changes : Changes) (old new : SiteContent) : Type 0 where
  pub has : (leaf : Leaf) → new.has leaf ≡ old.has leaf
  pub content : (leaf : Leaf) → new.content leaf ≡ changed leaf changes (old.content leaf)
  pub prepared : (other : Ticket) → new.prepared other ≡ (if is_ticket ticket other then None else old.prepared other)
  pub life : new.life ≡ old.life

-- the ticket's row is gone
pub record Discards (ticket : Ticket) (old new : SiteContent) : Type 0 where
  pub has : (leaf : Leaf) → new.has leaf ≡ old.has leaf
  pub content : (leaf : Leaf) → new.content leaf ≡ old.content leaf
  pub prepared : (other : Ticket) → new.prepared other ≡ (if is_ticket ticket other then None else old.prepared other)
  pub life : new.life ≡ old.life

-- the next incarnation begins
pub record BeginsLife (old new : SiteContent) : Type 0 where
  pub has : (leaf : Leaf) → new.has leaf ≡ old.has leaf
  pub content : (leaf : Leaf) → new.content leaf ≡ old.content leaf
  pub prepared : (ticket : Ticket) → new.prepared ticket ≡ old.prepared ticket
  pub life : new.life ≡ old.life + 1

-- the row of a ticket in a list of rows
abbrev pub row_of : Ticket → List PreparedRow → Option Prepared
row_of ticket [] = None
row_of ticket (row ∷ rows) = if is_ticket ticket row.ticket then Some row.prepared else row_of ticket rows

-- a listing of what is kept beside the fragments
pub record ListsRows (kept : SiteContent) (all : SiteRows) : Type 0 where
  pub rows : (ticket : Ticket) → row_of ticket all.prepared ≡ kept.prepared ticket
  pub ascend : IsStrictlySortedBy ticket_cmp (map (λ row. row.ticket) all.prepared)
  pub incarnation : all.life ≡ kept.life

-- a listing of all that is kept
pub record Lists (kept : SiteContent) (all : SiteKept) : Type 0 where
  pub fragments : (leaf : Leaf) → made_by all.parts leaf ≡ kept.content leaf
  pub rows : ListsRows kept all.rows

-- What the tables of a site mean.
use Rattle.std.specs.Prelude.{◌≡◌, ℕ, ℤ, pos, Bool, true, false, ◌&&◌, List, [], ◌∷◌, Option, Some, None, Result, Ok, Err, if◌then◌else◌, unsigned_abs}
use Rattle.std.specs.FinMap as map
use Rattle.std.specs.List.{list_any}
use Rattle.std.specs.Ordering.{is_eq}
use Rattle.sqlite.specs.Effect.{Database}
use Rattle.sqlite.specs.Order.{Row}
use Rattle.store.specs.declared.name.Ticket.{Ticket}
use Rattle.store.specs.declared.prepared.Prepared.{Prepared}
use Rattle.store.specs.Content.{Content, Changes}
use Rattle.store.specs.SiteContent.{SiteContent}
use Rattle.store.specs.Slot.{slot_of}
use Rattle.terms.specs.declared.leaf.Leaf.{Leaf}
use Rattle.terms.specs.declared.part_fault.PartFault.{PartFault}
use Rattle.terms.specs.declared.value.Value.{Value}
use Rattle.terms.specs.Leaf.{leaf_text, leaf_cmp}
use Rattle.terms.specs.Stored.{part_from}
use Rattle.sqlstore.specs.Cells.{text_at, int_at, is_int, is_text}

-- the part that a body spells; no values where it spells none
abbrev pub part_or_none : Result (List Value) PartFault → List Value
part_or_none (Ok part) = part
part_or_none (Err fault) = []

abbrev pub decoded : List ℕ → List Value
decoded body = part_or_none (part_from body)

-- the leaf of a site that has this name
abbrev pub leaf_named : List Leaf → List ℕ → Option Leaf
leaf_named [] name = None
leaf_named (leaf ∷ leaves) name = if is_text name (leaf_text leaf) then Some leaf else leaf_named leaves name

abbrev pub is_leaf : Option Leaf → Leaf → Bool
is_leaf None leaf = false
is_leaf (Some found) leaf = is_eq (leaf_cmp leaf found)

-- whether a name is a leaf's, and the leaf is the site's
abbrev pub is_called : List Leaf → Leaf → List ℕ → Bool
is_called leaves leaf name = is_leaf (leaf_named leaves name) leaf

-- the parts of a leaf, by their keys
abbrev pub content_in : List Leaf → List Row → Leaf → Content
content_in leaves [] leaf = map.empty
content_in leaves (row ∷ rows) leaf =
    if is_called leaves leaf (text_at row 1) then map.insert (content_in leaves rows leaf) (int_at row 2) (decoded (text_at row 3)) else content_in leaves rows leaf

-- whether a row is a ticket's
abbrev pub is_of : Ticket → Row → Bool
is_of ticket row = is_int (int_at row 1) (pos ticket.life) && is_int (int_at row 2) (pos ticket.visit)

-- what a body puts: nothing where it is empty
abbrev pub put_of : List ℕ → Option (List Value)
put_of [] = None
put_of (byte ∷ bytes) = Some (decoded (byte ∷ bytes))

abbrev pub with_intent : Option Leaf → ℤ → List ℕ → Changes → Changes
with_intent None key body changes = changes
with_intent (Some leaf) key body changes = map.insert changes (slot_of leaf key) (put_of body)

-- what a ticket's intents change
abbrev pub changes_in : List Leaf → List Row → Ticket → Changes
changes_in leaves [] ticket = map.empty
changes_in leaves (row ∷ rows) ticket = if is_of ticket row then with_intent (leaf_named leaves (text_at row 3)) (int_at row 4) (text_at row 5) (changes_in leaves rows ticket) else changes_in leaves rows ticket

abbrev pub row_as : Row → Changes → Prepared
row_as row changes = record { txn = record { life = unsigned_abs (int_at row 3); number = unsigned_abs (int_at row 4) }; changes = changes }

-- the row of a ticket that is prepared, with these changes
abbrev pub prepared_in : List Row → Changes → Ticket → Option Prepared
prepared_in [] changes ticket = None
prepared_in (row ∷ rows) changes ticket = if is_of ticket row then Some (row_as row changes) else prepared_in rows changes ticket

-- the incarnation: none has begun where no row says so
abbrev pub life_in : List Row → ℕ
life_in [] = 0
life_in (row ∷ rows) = unsigned_abs (int_at row 2)

-- whether a site has a leaf
abbrev pub has_leaf : List Leaf → Leaf → Bool
has_leaf leaves leaf = list_any (λ one. is_eq (leaf_cmp leaf one)) leaves

-- what a site's tables keep
abbrev pub kept_of : List Leaf → Database → SiteContent
kept_of leaves db = record {
  has = has_leaf leaves;
  content = content_in leaves (db.trees 0);
  prepared = λ ticket. prepared_in (db.trees 2) (changes_in leaves (db.trees 4) ticket) ticket;
  life = life_in (db.trees 6);
}

-- each leaf of a site goes by its own name
abbrev pub AreNamed : List Leaf → Type 0
AreNamed leaves = (leaf : Leaf) → has_leaf leaves leaf ≡ true → leaf_named leaves (leaf_text leaf) ≡ Some leaf

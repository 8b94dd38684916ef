-- What a content has is what its rows say, in whatever order they stand.
use Rattle.std.proofs.Common.{◌≡◌, ℕ, ℤ, Bool, true, false, ◌&&◌, cond, List, [], ◌∷◌, Option, Some, None, refl, ap, ◌∙◌, inl, inr, Ordering, Less, Equal, Greater}
use Rattle.std.specs.Cmp.{int_cmp_total}
use Rattle.std.specs.FinMap as map
use Rattle.std.specs.Ordering.{is_eq, int_cmp, ordering_then}
use Rattle.sqlite.specs.Order.{Row}
use Rattle.sqlite_rules.specs.Lists.{Has}
use Rattle.store.specs.declared.name.Ticket.{Ticket}
use Rattle.store.specs.declared.slot.Slot.{Slot}
use Rattle.store.specs.Content.{Content, Changes}
use Rattle.store.specs.Orders.{slot_cmp_total}
use Rattle.store.specs.Slot.{slot_of, slot_cmp}
use Rattle.terms.specs.declared.leaf.Leaf.{Leaf}
use Rattle.terms.specs.declared.value.Value.{Value}
use Rattle.terms.specs.Leaf.{leaf_cmp}
use Rattle.sqlstore.specs.Cells.{text_at, int_at, is_int}
use Rattle.sqlstore.specs.Content.{decoded, leaf_named, is_leaf, is_called, content_in, is_of, put_of, with_intent, changes_in, row_as, prepared_in}

-- what was found is shown of a row that passes, or no row passes and nothing was found
pub data LooksUp {X : Type 0} (test : Row → Bool) (shows : Row → X) (rows : List Row) (found : Option X) : Type 0 where
  at_row : (row : Row) → Has rows row → test row ≡ true → found ≡ Some (shows row) → LooksUp test shows rows found
  nowhere : ((row : Row) → Has rows row → test row ≡ false) → found ≡ None → LooksUp test shows rows found

-- one row more
looks_more : {X : Type 0} (test : Row → Bool) (shows : Row → X) (row : Row) (rows : List Row) (rest found : Option X) → found ≡ cond (test row) (Some (shows row)) rest → LooksUp test shows rows rest → LooksUp test shows (row ∷ rows) found
looks_more test shows row rows rest found is later = go (test row) refl is later
  where
    go : (here : Bool) → test row ≡ here → found ≡ cond here (Some (shows row)) rest → LooksUp test shows rows rest → LooksUp test shows (row ∷ rows) found
    go true pass same later = at_row row (inl refl) pass same
    go false fails same (at_row one there pass shown) = at_row one (inr there) pass (same ∙ shown)
    go false fails same (nowhere none nothing) = nowhere (λ one there. elim there [ inl is ↦ ap test is ∙ fails | inr after ↦ none one after ]) (same ∙ nothing)

-- ---- parts

abbrev pub is_part_at : List Leaf → Leaf → ℤ → Row → Bool
is_part_at leaves leaf key row = is_called leaves leaf (text_at row 1) && is_int key (int_at row 2)

set_if : {X : Type 0} (called same : Bool) (part found : X) → cond called (cond same part found) found ≡ cond (called && same) part found
set_if true same part found = refl
set_if false same part found = refl

get_if : (called : Bool) (content : Content) (key q : ℤ) (part : List Value) → map.get (cond called (map.insert content key part) content) q ≡ cond called (cond (is_int q key) (Some part) (map.get content q)) (map.get content q)
get_if true content key q part = map.get-insert int_cmp_total content key part q
get_if false content key q part = refl

pub get_row : (leaves : List Leaf) (row : Row) (rows : List Row) (leaf : Leaf) (key : ℤ) → map.get (content_in leaves (row ∷ rows) leaf) key ≡ cond (is_part_at leaves leaf key row) (Some (decoded (text_at row 3))) (map.get (content_in leaves rows leaf) key)
get_row leaves row rows leaf key =
    get_if (is_called leaves leaf (text_at row 1)) (content_in leaves rows leaf) (int_at row 2) key (decoded (text_at row 3)) ∙ set_if (is_called leaves leaf (text_at row 1)) (is_int key (int_at row 2)) _ _

pub look_content : (leaves : List Leaf) (leaf : Leaf) (key : ℤ) (rows : List Row) → LooksUp (is_part_at leaves leaf key) (λ row. decoded (text_at row 3)) rows (map.get (content_in leaves rows leaf) key)
look_content leaves leaf key [] = nowhere (λ row none. absurd none) (map.get-empty int_cmp key)
look_content leaves leaf key (row ∷ rows) =
    looks_more (is_part_at leaves leaf key) (λ r. decoded (text_at r 3)) row rows (map.get (content_in leaves rows leaf) key) (map.get (content_in leaves (row ∷ rows) leaf) key) (get_row leaves row rows leaf key) (look_content leaves leaf key rows)

-- ---- intents

abbrev pub is_intent_at : List Leaf → Ticket → Slot → Row → Bool
is_intent_at leaves ticket slot row = is_of ticket row && (is_called leaves slot.leaf (text_at row 3) && is_int slot.key (int_at row 4))

pub both_eq : (one other : Ordering) → is_eq (ordering_then one other) ≡ (is_eq one && is_eq other)
both_eq Less other = refl
both_eq Equal other = refl
both_eq Greater other = refl

get_intent : (found : Option Leaf) (key : ℤ) (body : List ℕ) (changes : Changes) (slot : Slot) → map.get (with_intent found key body changes) slot ≡ cond (is_leaf found slot.leaf && is_int slot.key key) (Some (put_of body)) (map.get changes slot)
get_intent None key body changes slot = refl
get_intent (Some leaf) key body changes slot =
    map.get-insert slot_cmp_total changes (slot_of leaf key) (put_of body) slot
    ∙ ap (λ same. cond same (Some (put_of body)) (map.get changes slot)) (both_eq (leaf_cmp slot.leaf leaf) (int_cmp slot.key key))

take_if : (mine : Bool) (found : Option Leaf) (key : ℤ) (body : List ℕ) (changes : Changes) (slot : Slot) → map.get (cond mine (with_intent found key body changes) changes) slot ≡ cond (mine && (is_leaf found slot.leaf && is_int slot.key key)) (Some (put_of body)) (map.get changes slot)
take_if true found key body changes slot = get_intent found key body changes slot
take_if false found key body changes slot = refl

pub look_changes : (leaves : List Leaf) (ticket : Ticket) (slot : Slot) (rows : List Row) → LooksUp (is_intent_at leaves ticket slot) (λ row. put_of (text_at row 5)) rows (map.get (changes_in leaves rows ticket) slot)
look_changes leaves ticket slot [] = nowhere (λ row none. absurd none) (map.get-empty slot_cmp slot)
look_changes leaves ticket slot (row ∷ rows) =
    looks_more (is_intent_at leaves ticket slot) (λ r. put_of (text_at r 5)) row rows (map.get (changes_in leaves rows ticket) slot) (map.get (changes_in leaves (row ∷ rows) ticket) slot)
    (take_if (is_of ticket row) (leaf_named leaves (text_at row 3)) (int_at row 4) (text_at row 5) (changes_in leaves rows ticket) slot)
    (look_changes leaves ticket slot rows)

-- ---- prepared rows

pub look_prepared : (changes : Changes) (ticket : Ticket) (rows : List Row) → LooksUp (is_of ticket) (λ row. row_as row changes) rows (prepared_in rows changes ticket)
look_prepared changes ticket [] = nowhere (λ row none. absurd none) refl
look_prepared changes ticket (row ∷ rows) = looks_more (is_of ticket) (λ r. row_as r changes) row rows (prepared_in rows changes ticket) (prepared_in (row ∷ rows) changes ticket) refl (look_prepared changes ticket rows)

-- Parts as the rows that a query shows, with a row's number first.
use Rattle.std.specs.Prelude.{◌≡◌, ℕ, ℤ, List, [], ◌∷◌, Option, Some, None, if◌then◌else◌}
use Rattle.std.specs.FinMap as map
use Rattle.sqlite.specs.Order.{Row, column}
use Rattle.sqlite.specs.Term.{Term, col}
use Rattle.sqlite.specs.declared.types.Value.TheVariants.{Int, Text, Blob}
use Rattle.store.specs.Content.{Changes}
use Rattle.store.specs.Slot.{slot_of}
use Rattle.terms.specs.declared.leaf.Leaf.{Leaf}
use Rattle.terms.specs.declared.value.Value.{Value}
use Rattle.terms.specs.Row.{key_of}
use Rattle.sqlstore.specs.Cells.{text_at, int_at}
use Rattle.sqlstore.specs.Content.{decoded, leaf_named, is_called}
use Rattle.sqlstore.specs.Rows.{Finds}
use Rattle.sqlstore.specs.Tests.{passes, shown, of_leaf}

-- the number, the leaf, the key and the body, in the places that the table has them
abbrev pub part_terms : List Term
part_terms = col 1 0 ∷ col 1 1 ∷ col 1 2 ∷ col 1 3 ∷ []

-- the cells are of their columns' types
pub record HasCells (row : Row) : Type 0 where
  pub leaf : column row 1 ≡ Text (text_at row 1)
  pub key : column row 2 ≡ Int (int_at row 2)
  pub body : column row 3 ≡ Blob (text_at row 3)

abbrev pub with_part : Option Leaf → ℤ → List Value → Changes → Changes
with_part None key part changes = changes
with_part (Some leaf) key part changes = map.insert changes (slot_of leaf key) (Some part)

-- changes that a row's part is put into
abbrev pub with_row : List Leaf → Row → Changes → Changes
with_row leaves row changes = with_part (leaf_named leaves (text_at row 1)) (int_at row 2) (decoded (text_at row 3)) changes

-- and those of many rows, the first first
abbrev pub with_rows : List Leaf → List Row → Changes → Changes
with_rows leaves [] changes = changes
with_rows leaves (row ∷ rows) changes = with_rows leaves rows (with_row leaves row changes)

-- the parts of a leaf among rows, each with its row's key
abbrev pub entries_in : List Leaf → Leaf → List Row → List (ℤ × List Value)
entries_in leaves leaf [] = []
entries_in leaves leaf (row ∷ rows) = if is_called leaves leaf (text_at row 1) then (int_at row 2, decoded (text_at row 3)) ∷ entries_in leaves leaf rows else entries_in leaves leaf rows

-- parts, each with its key
abbrev pub with_keys : List (List Value) → List (ℤ × List Value)
with_keys [] = []
with_keys (part ∷ parts) = (key_of part, part) ∷ with_keys parts

-- the rows of a leaf
abbrev pub AreRowsOf : List ℕ → List Row → List Row → Type 0
AreRowsOf name = Finds (shown part_terms (Text name ∷ [])) (passes of_leaf (Text name ∷ []))

-- The cells of a row, read as what their columns hold.
use Rattle.std.specs.Prelude.{ℕ, ℤ, Bool, List}
use Rattle.std.specs.Cmp.Lexicographic.{slice_cmp}
use Rattle.std.specs.Ordering.{nat_cmp, int_cmp, is_eq}
use Rattle.sqlite.specs.Edit.{id_in}
use Rattle.sqlite.specs.Order.{Row, bytes, column}

-- the bytes of a text or a blob, and an integer; nothing, and 0, where the cell is another
abbrev pub text_at : Row → ℕ → List ℕ
text_at row at = bytes (column row at)

abbrev pub int_at : Row → ℕ → ℤ
int_at row at = id_in (column row at)

-- whether two integers are the same, and two texts
abbrev pub is_int : ℤ → ℤ → Bool
is_int one other = is_eq (int_cmp one other)

abbrev pub is_text : List ℕ → List ℕ → Bool
is_text one other = is_eq (slice_cmp nat_cmp one other)

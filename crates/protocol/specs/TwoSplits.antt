-- A toy of two catalogues: one row, in the north under the first, in the south under the second; it is looked at, set, and moved by the refragmentation from the one to the other.
use Rattle.std.specs.Prelude.{⊤, ℕ, suc, ◌==◌, not, Bool, true, false, [], ◌∷◌, if◌then◌else◌}
use Rattle.protocol.specs.Language.{Lang}
use Rattle.protocol.specs.Toy.{toy, Pair, is_same}

-- the row, 0 where there is none, and the catalogue in force
pub record Placed_row : Type 0 where
  pub catalogue : ℕ
  pub row : ℕ

-- the row is looked at, or set, under a catalogue; or it moves to the second one's leaf
pub data Split_statement : Type 0 where
  Look_at : (catalogue : ℕ) → Split_statement
  Set_row : (catalogue row : ℕ) → Split_statement
  Move_south : Split_statement

-- the leaf that the row is in under a catalogue: the north under the first
abbrev pub leaf_under : ℕ → Bool
leaf_under n = not (n == 1)

abbrev pub row_at : Bool → Placed_row → ℕ
row_at g w = if is_same g (leaf_under w.catalogue) then w.row else 0

-- what both leaves have
abbrev pub pair_of : Placed_row → Pair
pair_of w = record { north = row_at false w; south = row_at true w }

abbrev pub split_tag : Split_statement → ℕ
split_tag (Look_at n) = n
split_tag (Set_row n row) = n
split_tag Move_south = 1

abbrev pub brings_next : Split_statement → Bool
brings_next Move_south = true
brings_next s = false

abbrev pub split_meaning : Split_statement → Placed_row → ℕ × Placed_row
split_meaning (Look_at n) w = (w.row, w)
split_meaning (Set_row n row) w = (1, record w { row = row })
split_meaning Move_south w = (1, record w { catalogue = suc w.catalogue })

-- the language
abbrev pub two_splits : Lang
two_splits = record toy {
  Statement = Split_statement;
  Whole = Placed_row;
  well_formed = λ s g rows. true;
  IsStatement = λ s. ⊤;
  IsWhole = λ w. ⊤;
  tag = split_tag;
  version = λ w. w.catalogue;
  raises = brings_next;
  meaning = split_meaning;
  content = row_at;
  fetches = λ s. (leaf_under (split_tag s), 0) ∷ [];
  writes = λ before after. toy.writes (pair_of before) (pair_of after);
}

-- Counting what passes a test, and asking whether a column is there.
use Rattle.std.specs.Prelude.{ℕ, suc, if◌then◌else◌, ◌==◌, Bool, List, [], ◌∷◌}
use Rattle.std.specs.List.{list_any}

-- how many items pass a test
abbrev pub how_many : {A : Type 0} → (A → Bool) → List A → ℕ
how_many passes [] = 0
how_many passes (item ∷ items) = if passes item then suc (how_many passes items) else how_many passes items

-- whether a column is among these
abbrev pub has : List ℕ → ℕ → Bool
has columns col = list_any (λ other. other == col) columns

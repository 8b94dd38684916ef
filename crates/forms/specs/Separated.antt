-- Items in a line.
use Rattle.std.specs.Prelude.{ℕ, List, [], ◌∷◌, ◌++◌}
use Rattle.std.specs.List.{flat_map}

-- items, with a byte between each two
abbrev pub separated : {A : Type 0} → (A → List ℕ) → ℕ → List A → List ℕ
separated write byte [] = []
separated write byte (item ∷ items) = write item ++ flat_map (λ other. byte ∷ write other) items

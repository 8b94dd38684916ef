-- A history replays: entry after entry is a move of its machine, from the first state to the last.
use Rattle.std.specs.Prelude.{◌≡◌, List, [], ◌∷◌}

abbrev pub Replays : {S E : Type 0} → (S → E → S → Type 0) → S → List E → S → Type 0
Replays Moves first [] last = last ≡ first
Replays {S} Moves first (entry ∷ entries) last = (next : S) × (Moves first entry next × Replays Moves next entries last)

-- Answers for the items of a list, one after another.
use Rattle.std.specs.Prelude.{ℕ, ◌+◌, List, [], ◌∷◌, Result, Ok, Err}

-- a first answer and those after it, or the first fault
abbrev pub onto : {B E : Type 0} → Result B E → Result (List B) E → Result (List B) E
onto (Err fault) answers = Err fault
onto (Ok y) (Err fault) = Err fault
onto (Ok y) (Ok ys) = Ok (y ∷ ys)

-- the answers for all items, whose places are counted on from a number, or the first fault
abbrev pub each_from : {A B E : Type 0} → (ℕ → A → Result B E) → ℕ → List A → Result (List B) E
each_from answer place [] = Ok []
each_from answer place (x ∷ xs) = onto (answer place x) (each_from answer (place + 1) xs)

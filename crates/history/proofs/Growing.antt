-- How a history that replays grows.
use Rattle.std.proofs.Common.{refl, subst, List, [], ◌∷◌, ◌++◌}
use Rattle.history.specs.Replays.{Replays}

-- one more move
pub replays_more : {S E : Type 0} (Moves : S → E → S → Type 0) (first : S) (entries : List E) (last : S) (entry : E) (next : S) → Replays Moves first entries last → Moves last entry next → Replays Moves first (entries ++ entry ∷ []) next
replays_more Moves first [] last entry next is moves = (next, (subst (λ s. Moves s entry next) is moves, refl))
replays_more Moves first (done ∷ entries) last entry next replays moves = (replays.0, (replays.1.0, replays_more Moves replays.0 entries last entry next replays.1.1 moves))

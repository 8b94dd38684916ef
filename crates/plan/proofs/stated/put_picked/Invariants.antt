-- What each round of `stated::put_picked` keeps.
use Rattle.std.proofs.Common.{◌≡◌, ◌++◌, ◌∷◌, drop, map}
use Rattle.plan.specs.Picked.{own_places, picked, trial_of}
use Rattle.plan.proofs.stated.put_picked.Given as goal

-- the fetches put out, and those that the rest gives, are those that all give
abbrev pub invariant-loop-leaf : goal.invariant-loop-leaf
invariant-loop-leaf l = l.out.items ++ picked (trial_of (map (λ column. column.kind) l.columns) own_places l.need.conds ∷ l.ties) l.need (drop l.leaf-index l.leaves) ≡ l.initial.out.items ++ picked (trial_of (map (λ column. column.kind) l.columns) own_places l.need.conds ∷ l.ties) l.need l.leaves

-- Why `conditions::every_place` meets its contract.
use Rattle.std.proofs.Common.{◌++◌, ◌∷◌, [], ap, ◌∙◌, add-one, arith}
use Rattle.reader.proofs.Each.{range_more}
use Rattle.reader.proofs.conditions.every_place.Goals as goal

pub loop-place-preserved : goal.loop-place-preserved
loop-place-preserved c = c.in_ok-push.ensures.items ∙ ap (λ front. front ++ c.loop-place.place ∷ []) c.loop-place.invariant ∙ rw add-one (range_more 0 c.loop-place.place c.loop-place.place (omega arith))

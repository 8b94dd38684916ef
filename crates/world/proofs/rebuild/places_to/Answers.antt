-- Why `places_to` meets its contract.
use Rattle.std.proofs.Common.{◌++◌, ◌∷◌, [], ap, sym, ◌∙◌}
use Rattle.plan.proofs.Places.{places_more}
use Rattle.world.proofs.rebuild.places_to.Goals as goal

pub loop-place-preserved : goal.loop-place-preserved
loop-place-preserved c =
    c.in_ok-push.ensures.items ∙ ap (λ front. front ++ c.loop-place.place ∷ []) c.loop-place.invariant ∙ sym (places_more c.loop-place.place)

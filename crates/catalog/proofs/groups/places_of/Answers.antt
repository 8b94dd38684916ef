use Rattle.std.proofs.lemmas.List.{take_all}
use Rattle.reader.specs.Names.{all_of}
use Rattle.std.proofs.Common.{◌≡◌, map, subst, add-one, sym, ap, ◌∙◌, ◌++◌, ◌∷◌, [], List, ℕ, Some, refl, append_assoc}
use Rattle.catalog.specs.Describes.{place_within}
use Rattle.catalog.specs.Frame.{frame_of}
use Rattle.catalog.proofs.Answered.{answered_next, answered_not}
use Rattle.catalog.proofs.GroupBreaks.{before_all, before_taken}
use Rattle.catalog.proofs.groups.places_of.Goals as goal

pub returns-in_default-clause-found : goal.returns-in_default-clause-found
returns-in_default-clause-found c =
    sym (answered_not (place_within (frame_of c.args.frame.now) c.args.within.now) (λ name. name.now) c.args.names.now c.loop-name.name-index _ _ refl c.loop-name-test.true (sym c.place_within.ensures ∙ c.in_default.is))

pub returns-in_default-clause-seen : goal.returns-in_default-clause-seen
returns-in_default-clause-seen c =
    c.loop-name.invariant.seen
    ∙ ap (λ (places : List ℕ). c.args.seen.now.items ++ places)
    (sym (before_taken (frame_of c.args.frame.now) c.args.within.now (λ name. name.now) c.args.names.now c.loop-name.name-index _ _ c.loop-name.places.items refl c.loop-name-test.true c.loop-name.invariant.found (sym c.place_within.ensures ∙ c.in_default.is)))

pub loop-name-preserved : goal.loop-name-preserved
loop-name-preserved c = record {
  found = rw add-one (answered_next (place_within (frame_of c.args.frame.now) c.args.within.now) (λ name. name.now) c.args.names.now c.loop-name.name-index _ _ c.loop-name.places.items c.in-Some.place refl c.loop-name-test.true c.loop-name.invariant.found (sym c.place_within.ensures ∙ c.in-Some.is)
      ∙ ap Some (sym c.in_ok-push-2.ensures.items));
  seen = c.in_ok-push.ensures.items
      ∙ ap (λ (all : List ℕ). all ++ c.in-Some.place ∷ []) c.loop-name.invariant.seen
      ∙ append_assoc c.args.seen.now.items c.loop-name.places.items (c.in-Some.place ∷ [])
      ∙ ap (λ (all : List ℕ). c.args.seen.now.items ++ all) (sym c.in_ok-push-2.ensures.items);
}

pub returns-clause-seen : goal.returns-clause-seen
returns-clause-seen c =
    let P : List _ → Type 0 = λ names. all_of (place_within (frame_of c.args.frame.now) c.args.within.now) (map (λ name. name.now) names) ≡ Some c.loop-name.places.items in
    c.loop-name.invariant.seen
    ∙ ap (λ (places : List ℕ). c.args.seen.now.items ++ places)
    (sym (before_all (frame_of c.args.frame.now) c.args.within.now (map (λ name. name.now) c.args.names.now) c.loop-name.places.items (subst P (take_all c.loop-name.name-index c.args.names.now c.loop-name-test.false) c.loop-name.invariant.found)))

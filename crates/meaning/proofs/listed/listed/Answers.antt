-- Why `listed::listed` meets its contract.
use Rattle.std.proofs.Common.{get_or, refl, ap, sym, ◌∙◌, ◌++◌, ◌∷◌, []}
use Rattle.std.proofs.lemmas.Option.{slice_get_read, slice_get_past}
use Rattle.meaning.proofs.ListedLemmas.{listed_there, listed_past}
use Rattle.meaning.proofs.listed.listed.Goals as goal
use Rattle.meaning.proofs.listed.listed.Goals.{in-Some+in_ok-copy+in_ok-push, in_default}

pub loop-place-preserved : goal.loop-place-preserved
loop-place-preserved g c =
    let places = c.args.places.now in
    let items = c.args.items.now in
    let place = get_or places c.loop-place.place-index 0 in
    elim c.match-get.branch [
      | in-Some+in_ok-copy+in_ok-push w ↦
          let found = w.in-Some.ensures.lookup in
          let more = listed_there places items c.loop-place.place-index w.in-Some.item.now c.loop-place-test.true (slice_get_read items _ place w.in-Some.item.now refl found.3.0 found.1) in
          ap (λ v. v.items) w.found-is ∙ w.in_ok-push.ensures.items ∙ ap (λ item. c.loop-place.found.items ++ item ∷ []) w.in_ok-copy.ensures
          ∙ ap (λ front. front ++ w.in-Some.item.now ∷ []) c.loop-place.invariant ∙ sym more
      | in_default w ↦
          let more = listed_past places items c.loop-place.place-index c.loop-place-test.true (slice_get_past items place w.in_default.ensures.lookup.3) in
          ap (λ v. v.items) w.found-is ∙ c.loop-place.invariant ∙ sym more
    ]

-- Why `overlay::merged` meets its contract.
use Rattle.std.proofs.Common.{◌≡◌, ◌++◌, ◌∷◌, ◌⊎◌, inl, inr, List, [], map, take, ap, sym, ◌∙◌}
use Rattle.terms.specs.declared.value.Value.{Value}
use Rattle.store.specs.declared.change.Change.{Change}
use Rattle.store.specs.Change.{change_of}
use Rattle.site.specs.Overlay.{puts}
use Rattle.site.proofs.Merging.{both_made, first_of, merge_equal, merge_greater, merge_less, none_first}
use Rattle.site.proofs.overlay.merged.Goals as goal
use Rattle.site.proofs.overlay.merged.Goals.{in_default, in_default-2}

pub loop-part-preserved-in_ok-move_first-in-Less : goal.loop-part-preserved-in_ok-move_first-in-Less
loop-part-preserved-in_ok-move_first-in-Less c = λ order.
    let kept = c.loop-part.kept.items in
    let changes = c.loop-part.changes.items in
    let found = c.loop-part.found.items in
    let part = c.in-Some-Some.part in
    let change = c.in-Some-Some.change in
    let first = first_of kept part c.in-Some-Some.ensures.item in
    let first_change = first_of changes change c.in-Some-Some.ensures'.item in
    merge_less c.args.conds.now c.args.kept.items (map change_of c.args.changes.items) found c.move_first.new.found.items kept c.move_first.new.parts.items (map change_of changes) _ part.now (change_of change.now)
    (c.loop-part.invariant order) (first ∙ ap (λ (ps : List (List Value)). part.now ∷ ps) (sym c.move_first.ensures.rest)) (ap (map change_of) first_change) (sym c.in-Less.ensures)
    (c.in_ok-move_first-in-Less.ensures.moved ∙ ap (λ (ps : List (List Value)). found ++ take 1 ps) first)

pub loop-part-preserved-in-Equal : goal.loop-part-preserved-in-Equal
loop-part-preserved-in-Equal c = λ order.
    let kept = c.loop-part.kept.items in
    let changes = c.loop-part.changes.items in
    let part = c.in-Some-Some.part in
    let change = c.in-Some-Some.change in
    let first = first_of kept part c.in-Some-Some.ensures.item in
    let first_change = first_of changes change c.in-Some-Some.ensures'.item in
    merge_equal c.args.conds.now c.args.kept.items (map change_of c.args.changes.items) c.loop-part.found.items kept c.drop_first.new.parts.items (map change_of changes) _ part.now (change_of change.now)
    (c.loop-part.invariant order) (first ∙ ap (λ (ps : List (List Value)). part.now ∷ ps) (sym c.drop_first.ensures)) (ap (map change_of) first_change) (sym c.in-Equal.ensures)

pub loop-part-preserved : goal.loop-part-preserved
loop-part-preserved c = λ order.
    let kept = c.loop-part.kept.items in
    let changes = c.loop-part.changes.items in
    let found = c.loop-part.found.items in
    let part = c.in-Some-Some.part in
    let change = c.in-Some-Some.change in
    let first = first_of kept part c.in-Some-Some.ensures.item in
    let first_change = first_of changes change c.in-Some-Some.ensures'.item in
    merge_greater c.args.conds.now c.args.kept.items (map change_of c.args.changes.items) found c.make_first.new.found.items kept _ (map change_of changes) (map change_of c.make_first.new.changes.items) part.now (change_of change.now)
    (c.loop-part.invariant order) first (ap (map change_of) (first_change ∙ ap (λ (cs : List Change). change.now ∷ cs) (sym c.make_first.ensures.rest))) (sym c.in-Greater.ensures)
    (c.in_ok-make_first-in-Greater.ensures.made ∙ ap (λ (cs : List Change). found ++ puts c.args.conds.now (map change_of (take 1 cs))) first_change)

pub returns : goal.returns
returns c = λ order.
    let kept = c.loop-part.kept.items in
    let changes = c.loop-part.changes.items in
    let found = c.loop-part.found.items in
    let gone : (kept ≡ []) ⊎ (map change_of changes ≡ []) =
    elim c.match-front.branch [ in_default w ↦ inr (ap (map change_of) (none_first changes w.in_default.ensures'.item)) | in_default-2 w ↦ inl (none_first kept w.in_default.ensures.item) ] in
    c.in_ok-append.ensures.items
    ∙ ap (λ (ps : List (List Value)). c.make_all.new.found.items ++ ps) c.into_vec.ensures.items
    ∙ ap (λ (ps : List (List Value)). ps ++ kept) c.in_ok-make_all.ensures
    ∙ both_made c.args.conds.now c.args.kept.items (map change_of c.args.changes.items) found kept (map change_of changes) (c.loop-part.invariant order) gone

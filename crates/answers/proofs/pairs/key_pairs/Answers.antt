-- Why `pairs::key_pairs` meets its contract.
use Rattle.std.proofs.Common.{inl, inr, ◌++◌, ◌∷◌, [], List, Option, refl, ap, map, sym}
use Rattle.std.specs.Vec.Iter.{into_iter_items}
use Rattle.terms.specs.declared.value.Value.{Value}
use Rattle.answers.specs.declared.joined.Joined.{Joined}
use Rattle.answers.specs.Evaluated.{pair}
use Rattle.answers.specs.Laid.{laid_beside, numbers, row_of}
use Rattle.answers.proofs.Laid.{pair_put}
use Rattle.answers.proofs.Pairing.{both_paired, left, next_left, next_long, pair_equal, pair_greater, pair_less, so_paired}
use Rattle.answers.proofs.pairs.key_pairs.Goals as goal
use Rattle.answers.proofs.pairs.key_pairs.Goals.{in_default-via-in-Some+in_default, in_default-via-in_default}

pub loop-first-preserved-in-Less : goal.loop-first-preserved-in-Less
loop-first-preserved-in-Less c =
    let cols = c.args.columns.now in
    let cols_other = c.args.others_columns.now in
    let columns = numbers cols in
    let columns_other = numbers cols_other in
    let f : Joined → List Value = row_of cols in
    let g : Joined → List Value = row_of cols_other in
    let h : Joined → List Value = row_of (laid_beside c.args.count cols cols_other) in
    let all = map f c.args.rows.items in
    let others = map g c.args.others.items in
    let start = c.args.ledger.now.steps in
    let row = c.in-Some-Some.row in
    let other = c.in-Some-Some.other in
    let later : List Joined = into_iter_items c.loop-first.rest in
    let later_others : List Joined = into_iter_items c.loop-first.rest_others in
    let rest = map f (left c.loop-first.first later) in
    let rest_others = map g (left c.loop-first.first_other later_others) in
    let found = map h c.loop-first.found.items in
    let is = ap (λ (o : Option Joined). map f (left o later)) c.in-Some-Some.is-0 in
    let is_others = ap (λ (o : Option Joined). map g (left o later_others)) c.in-Some-Some.is-1 in
    let next = c.next-first-in-Less in (
      so_paired columns columns_other all others start found found (map f later) _ rest_others _ _ c.compared.new.self.steps
          (pair_less columns columns_other all others start found rest rest_others c.loop-first.ledger.steps (f row) (g other) (map f later) (map g later_others) c.loop-first.invariant.0 is is_others (sym c.in-Less.ensures.order))
          refl (ap (map f) (next_left c.loop-first.rest next.new.self next.result c.loop-first.invariant.1 next.ensures.cases)) (sym is_others) c.compared.ensures.step,
      next_long c.loop-first.rest next.new.self next.result c.loop-first.invariant.1 next.ensures.items next.ensures.len,
      c.loop-first.invariant.2,
    )

pub loop-first-preserved-in_ok-push-in-Equal : goal.loop-first-preserved-in_ok-push-in-Equal
loop-first-preserved-in_ok-push-in-Equal c =
    let cols = c.args.columns.now in
    let cols_other = c.args.others_columns.now in
    let columns = numbers cols in
    let columns_other = numbers cols_other in
    let f : Joined → List Value = row_of cols in
    let g : Joined → List Value = row_of cols_other in
    let h : Joined → List Value = row_of (laid_beside c.args.count cols cols_other) in
    let all = map f c.args.rows.items in
    let others = map g c.args.others.items in
    let start = c.args.ledger.now.steps in
    let row = c.in-Some-Some.row in
    let other = c.in-Some-Some.other in
    let later : List Joined = into_iter_items c.loop-first.rest in
    let later_others : List Joined = into_iter_items c.loop-first.rest_others in
    let rest = map f (left c.loop-first.first later) in
    let rest_others = map g (left c.loop-first.first_other later_others) in
    let found = map h c.loop-first.found.items in
    let is = ap (λ (o : Option Joined). map f (left o later)) c.in-Some-Some.is-0 in
    let is_others = ap (λ (o : Option Joined). map g (left o later_others)) c.in-Some-Some.is-1 in
    let next = c.next-first-in-Equal in
    let next_other = c.next-first_other-in-Equal in (
      so_paired columns columns_other all others start (found ++ pair columns columns_other (f row) (g other) ∷ []) (map h c.push.new.self.items) (map f later) _ (map g later_others) _ _ c.compared.new.self.steps
          (pair_equal columns columns_other all others start found rest rest_others c.loop-first.ledger.steps (f row) (g other) (map f later) (map g later_others) c.loop-first.invariant.0 is is_others (sym c.in-Equal.ensures.order))
          (pair_put c.args.count cols cols_other c.loop-first.found.items c.push.new.self.items row other c.in_ok-beside-in-Equal.field-0 c.in_ok-push-in-Equal.ensures.items c.in_ok-beside-in-Equal.ensures c.requires.within)
          (ap (map f) (next_left c.loop-first.rest next.new.self next.result c.loop-first.invariant.1 next.ensures.cases)) (ap (map g) (next_left c.loop-first.rest_others next_other.new.self next_other.result c.loop-first.invariant.2 next_other.ensures.cases))
          c.compared.ensures.step,
      next_long c.loop-first.rest next.new.self next.result c.loop-first.invariant.1 next.ensures.items next.ensures.len,
      next_long c.loop-first.rest_others next_other.new.self next_other.result c.loop-first.invariant.2 next_other.ensures.items next_other.ensures.len,
    )

pub loop-first-preserved : goal.loop-first-preserved
loop-first-preserved c =
    let cols = c.args.columns.now in
    let cols_other = c.args.others_columns.now in
    let columns = numbers cols in
    let columns_other = numbers cols_other in
    let f : Joined → List Value = row_of cols in
    let g : Joined → List Value = row_of cols_other in
    let h : Joined → List Value = row_of (laid_beside c.args.count cols cols_other) in
    let all = map f c.args.rows.items in
    let others = map g c.args.others.items in
    let start = c.args.ledger.now.steps in
    let row = c.in-Some-Some.row in
    let other = c.in-Some-Some.other in
    let later : List Joined = into_iter_items c.loop-first.rest in
    let later_others : List Joined = into_iter_items c.loop-first.rest_others in
    let rest = map f (left c.loop-first.first later) in
    let rest_others = map g (left c.loop-first.first_other later_others) in
    let found = map h c.loop-first.found.items in
    let is = ap (λ (o : Option Joined). map f (left o later)) c.in-Some-Some.is-0 in
    let is_others = ap (λ (o : Option Joined). map g (left o later_others)) c.in-Some-Some.is-1 in
    let next = c.next-first_other-in-Greater in (
      so_paired columns columns_other all others start found found rest _ (map g later_others) _ _ c.compared.new.self.steps
          (pair_greater columns columns_other all others start found rest rest_others c.loop-first.ledger.steps (f row) (g other) (map f later) (map g later_others) c.loop-first.invariant.0 is is_others (sym c.in-Greater.ensures.order))
          refl (sym is) (ap (map g) (next_left c.loop-first.rest_others next.new.self next.result c.loop-first.invariant.2 next.ensures.cases)) c.compared.ensures.step,
      c.loop-first.invariant.1,
      next_long c.loop-first.rest_others next.new.self next.result c.loop-first.invariant.2 next.ensures.items next.ensures.len,
    )

pub returns-clause-rows : goal.returns-clause-rows
returns-clause-rows c =
    let cols = c.args.columns.now in
    let cols_other = c.args.others_columns.now in
    let f : Joined → List Value = row_of cols in
    let g : Joined → List Value = row_of cols_other in
    let h : Joined → List Value = row_of (laid_beside c.args.count cols cols_other) in
    let later : List Joined = into_iter_items c.loop-first.rest in
    let later_others : List Joined = into_iter_items c.loop-first.rest_others in
    both_paired (numbers cols) (numbers cols_other) (map f c.args.rows.items) (map g c.args.others.items) c.args.ledger.now.steps (map h c.loop-first.found.items) (map f (left c.loop-first.first later)) (map g (left c.loop-first.first_other later_others)) c.loop-first.ledger.steps c.loop-first.invariant.0
    (elim c.in_default.branch [
      | in_default-via-in-Some+in_default w ↦ inr (ap (λ (o : Option Joined). map g (left o later_others)) w.in_default.is-1)
      | in_default-via-in_default w ↦ inl (ap (λ (o : Option Joined). map f (left o later)) w.in_default.is-0)
    ])

-- Why `nearest` meets its contract.
use Rattle.std.proofs.Common.{◌≡◌, arith, [], List, ℕ, Bor}
use Rattle.std.specs.Prelude.{slice_index_or}
use Rattle.std.specs.List.{HoldsAt}
use Rattle.std.proofs.lemmas.List.{get_or_default}
use Rattle.shell.proofs.NearestLemmas.{kept, taken}
use Rattle.shell.proofs.nearest.nearest.Goals.{then-edits-limit, else-edits-limit}
use Rattle.shell.proofs.nearest.nearest.Goals as goal

pub loop-name-preserved : goal.loop-name-preserved
loop-name-preserved c =
    let i : ℕ = c.loop-name.name-index in
    let names : List (Bor (List ℕ)) = c.args.names.now in
    let none : Bor (List ℕ) = record { ref_ptr = (0, 0); now = [] } in
    let x : Bor (List ℕ) = slice_index_or names i none in
    let at : HoldsAt (λ other. other ≡ x) names i = (λ d. get_or_default names i d none (omega arith)) in
    elim c.if-edits-limit.branch [
      | then-edits-limit w ↦ rw (w.limit-is, w.found-is) (taken c.args.word.now names i c.loop-name.limit c.in_ok-edits.edits x c.loop-name.found c.loop-name.invariant at c.in_ok-edits.ensures.value (omega arith))
      | else-edits-limit w ↦ rw (w.limit-is, w.found-is) (kept c.args.word.now names i c.loop-name.limit x c.loop-name.found c.loop-name.invariant at (let e = c.in_ok-edits.ensures.value in omega arith))
    ]

-- Why `joined::padded` meets its contract.
use Rattle.std.proofs.Common.{rules, ◌≡◌, ◌<◌, ◌∷◌, ◌++◌, [], List, ◌∙◌, arith}
use Rattle.terms.specs.declared.value.Value.{Value}
use Rattle.answers.specs.Laid.{rows_behind}
use Rattle.answers.proofs.Laid.{pad_put, pad_put_none}
use Rattle.answers.proofs.Picked.{no_length}
use Rattle.answers.proofs.joined.padded.Goals as goal
use Rattle.answers.proofs.joined.padded.Goals.{in-Some+in_ok-copy-in-Some+in_ok-all-in-Some, in-None+in_ok-new-in-None+in_ok-all-in-None}

pub loop-place-preserved : goal.loop-place-preserved
loop-place-preserved c =
    let place = c.loop-place._place in
    let all : List (List Value) = rows_behind c.loop-place.all in
    let made : List (List Value) = rows_behind c.match-split_first.all in
    let within : place < c.args.count = omega (arith, c.loop-place-test.true) in
    elim c.match-split_first.branch [
      | in-Some+in_ok-copy-in-Some+in_ok-all-in-Some w ↦
          let put : made ≡ all ++ w.in-Some.row.now ∷ [] = search rules in
          pad_put c.args.count place all made w.in-Some.row.now c.loop-place.rest.now w.in-Some.later.now c.match-split_first.rest.now within w.in-Some.ensures.cases.0 (search rules) put ∙ c.loop-place.invariant
      | in-None+in_ok-new-in-None+in_ok-all-in-None w ↦
          let put : made ≡ all ++ [] ∷ [] = search rules in
          pad_put_none c.args.count place all made c.loop-place.rest.now c.match-split_first.rest.now within (no_length c.loop-place.rest.now w.in-None.ensures.cases) (search rules) put ∙ c.loop-place.invariant
    ]

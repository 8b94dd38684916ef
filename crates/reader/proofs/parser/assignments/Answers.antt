-- Why `parser::assignments` meets its contract.
use Rattle.std.proofs.Common.{◌≡◌, ◌++◌, ◌∷◌, []}
use Rattle.std.proofs.lemmas.Result.{err_from_is_err_and}
use Rattle.std.proofs.lemmas.List.{map_push}
use Rattle.std.proofs.Common.{map}
use Rattle.reader.specs.declared.sign.Sign.TheVariants as mark
use Rattle.reader.specs.Symbol.{sign}
use Rattle.reader.specs.Tree.{assignment_tree, assignments_tree}
use Rattle.reader.specs.Grammar.{assignment_text}
use Rattle.reader.specs.Parsing.{assignment_at}
use Rattle.reader.proofs.Steps.{ate}
use Rattle.reader.proofs.Productions.{assignment_takes}
use Rattle.reader.proofs.Lists.{starts_reading, stops_reading, shorter, goes_on_reading, ends_reading}
use Rattle.reader.proofs.parser.assignments.Goals as goal

pub loop-assignments-init : goal.loop-assignments-init
loop-assignments-init c = rw c.new-assignments.ensures.items (starts_reading assignment_at (sign mark.Comma) _)

pub returns-in_err-assignment : goal.returns-in_err-assignment
returns-in_err-assignment c =
    let p = err_from_is_err_and c.from_residual.result c.from_residual.ensures.1 in
    rw (p.1, p.2) (stops_reading c.loop-assignments.invariant c.in_err-assignment.field-0.0.rule c.in_err-assignment.ensures)

pub returns-then-not-eat_sign : goal.returns-then-not-eat_sign
returns-then-not-eat_sign c =
    let items : assignments_tree c.push.new.self ≡ map assignment_tree c.loop-assignments.assignments.items ++ assignment_tree c.in_ok-assignment.field-0 ∷ [] = rw c.in_ok-push.ensures.items (map_push assignment_tree _ _) in
    rw items (ends_reading c.loop-assignments.invariant c.in_ok-assignment.ensures (ate _ _ c.eat_sign.ensures.found c.eat_sign.ensures.rest c.if-not-eat_sign.true))

pub loop-assignments-smaller : goal.loop-assignments-smaller
loop-assignments-smaller c = shorter assignment_text assignment_takes _ c.in_ok-assignment.ensures (ate _ _ c.eat_sign.ensures.found c.eat_sign.ensures.rest c.if-not-eat_sign.false)

pub loop-assignments-preserved : goal.loop-assignments-preserved
loop-assignments-preserved c =
    let items : assignments_tree c.push.new.self ≡ map assignment_tree c.loop-assignments.assignments.items ++ assignment_tree c.in_ok-assignment.field-0 ∷ [] = rw c.in_ok-push.ensures.items (map_push assignment_tree _ _) in
    rw items (goes_on_reading c.loop-assignments.invariant assignment_text assignment_takes c.in_ok-assignment.ensures (ate _ _ c.eat_sign.ensures.found c.eat_sign.ensures.rest c.if-not-eat_sign.false))

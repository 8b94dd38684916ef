-- Why `parser::constants` meets its contract.
use Rattle.std.proofs.Common.{◌≡◌, ◌++◌, ◌∷◌, []}
use Rattle.std.proofs.lemmas.Result.{err_from_is_err_and}
use Rattle.std.proofs.lemmas.List.{map_push}
use Rattle.std.proofs.Common.{map}
use Rattle.reader.specs.declared.sign.Sign.TheVariants as mark
use Rattle.reader.specs.Symbol.{sign}
use Rattle.reader.specs.Tree.{constant_tree, constants_tree}
use Rattle.reader.specs.Grammar.{constant_text}
use Rattle.reader.specs.Parsing.{constant_at}
use Rattle.reader.proofs.Steps.{ate}
use Rattle.reader.proofs.Productions.{constant_takes}
use Rattle.reader.proofs.Lists.{starts_reading, stops_reading, shorter, goes_on_reading, ends_reading}
use Rattle.reader.proofs.parser.constants.Goals as goal

pub loop-constants-init : goal.loop-constants-init
loop-constants-init c = rw c.new-constants.ensures.items (starts_reading constant_at (sign mark.Comma) _)

pub returns-in_err-constant : goal.returns-in_err-constant
returns-in_err-constant c =
    let p = err_from_is_err_and c.from_residual.result c.from_residual.ensures.1 in
    rw (p.1, p.2) (stops_reading c.loop-constants.invariant c.in_err-constant.field-0.0.rule c.in_err-constant.ensures)

pub returns-then-not-eat_sign : goal.returns-then-not-eat_sign
returns-then-not-eat_sign c =
    let items : constants_tree c.push.new.self ≡ map constant_tree c.loop-constants.constants.items ++ constant_tree c.in_ok-constant.field-0 ∷ [] = rw c.in_ok-push.ensures.items (map_push constant_tree _ _) in
    rw items (ends_reading c.loop-constants.invariant c.in_ok-constant.ensures (ate _ _ c.eat_sign.ensures.found c.eat_sign.ensures.rest c.if-not-eat_sign.true))

pub loop-constants-smaller : goal.loop-constants-smaller
loop-constants-smaller c = shorter constant_text constant_takes _ c.in_ok-constant.ensures (ate _ _ c.eat_sign.ensures.found c.eat_sign.ensures.rest c.if-not-eat_sign.false)

pub loop-constants-preserved : goal.loop-constants-preserved
loop-constants-preserved c =
    let items : constants_tree c.push.new.self ≡ map constant_tree c.loop-constants.constants.items ++ constant_tree c.in_ok-constant.field-0 ∷ [] = rw c.in_ok-push.ensures.items (map_push constant_tree _ _) in
    rw items (goes_on_reading c.loop-constants.invariant constant_text constant_takes c.in_ok-constant.ensures (ate _ _ c.eat_sign.ensures.found c.eat_sign.ensures.rest c.if-not-eat_sign.false))

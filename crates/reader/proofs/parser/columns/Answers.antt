-- Why `parser::columns` meets its contract.
use Rattle.std.proofs.Common.{◌≡◌, ◌++◌, ◌∷◌, []}
use Rattle.std.proofs.lemmas.Result.{err_from_is_err_and}
use Rattle.std.proofs.lemmas.List.{map_push}
use Rattle.std.proofs.Common.{map}
use Rattle.reader.specs.declared.sign.Sign.TheVariants as mark
use Rattle.reader.specs.Symbol.{sign}
use Rattle.reader.specs.Tree.{column_tree, columns_tree}
use Rattle.reader.specs.Grammar.{column_text}
use Rattle.reader.specs.Parsing.{column_at}
use Rattle.reader.proofs.Steps.{ate}
use Rattle.reader.proofs.Productions.{column_takes}
use Rattle.reader.proofs.Lists.{starts_reading, stops_reading, shorter, goes_on_reading, ends_reading}
use Rattle.reader.proofs.parser.columns.Goals as goal

pub loop-columns-init : goal.loop-columns-init
loop-columns-init c = rw c.new-columns.ensures.items (starts_reading column_at (sign mark.Comma) _)

pub returns-in_err-column : goal.returns-in_err-column
returns-in_err-column c =
    let p = err_from_is_err_and c.from_residual.result c.from_residual.ensures.1 in
    rw (p.1, p.2) (stops_reading c.loop-columns.invariant c.in_err-column.field-0.0.rule c.in_err-column.ensures)

pub returns-then-not-eat_sign : goal.returns-then-not-eat_sign
returns-then-not-eat_sign c =
    let items : columns_tree c.push.new.self ≡ map column_tree c.loop-columns.columns.items ++ column_tree c.in_ok-column.field-0 ∷ [] = rw c.in_ok-push.ensures.items (map_push column_tree _ _) in
    rw items (ends_reading c.loop-columns.invariant c.in_ok-column.ensures (ate _ _ c.eat_sign.ensures.found c.eat_sign.ensures.rest c.if-not-eat_sign.true))

pub loop-columns-smaller : goal.loop-columns-smaller
loop-columns-smaller c = shorter column_text column_takes _ c.in_ok-column.ensures (ate _ _ c.eat_sign.ensures.found c.eat_sign.ensures.rest c.if-not-eat_sign.false)

pub loop-columns-preserved : goal.loop-columns-preserved
loop-columns-preserved c =
    let items : columns_tree c.push.new.self ≡ map column_tree c.loop-columns.columns.items ++ column_tree c.in_ok-column.field-0 ∷ [] = rw c.in_ok-push.ensures.items (map_push column_tree _ _) in
    rw items (goes_on_reading c.loop-columns.invariant column_text column_takes c.in_ok-column.ensures (ate _ _ c.eat_sign.ensures.found c.eat_sign.ensures.rest c.if-not-eat_sign.false))

-- Why `parser::conditions` meets its contract.
use Rattle.std.proofs.Common.{◌≡◌, ◌++◌, ◌∷◌, []}
use Rattle.std.proofs.lemmas.Result.{err_from_is_err_and}
use Rattle.std.proofs.lemmas.List.{map_push}
use Rattle.std.proofs.Common.{map}
use Rattle.reader.specs.declared.keyword.Keyword.TheVariants as word
use Rattle.reader.specs.Symbol.{key}
use Rattle.reader.specs.Tree.{condition_tree, conditions_tree}
use Rattle.reader.specs.Grammar.{condition_text}
use Rattle.reader.specs.Parsing.{condition_at}
use Rattle.reader.proofs.Steps.{ate}
use Rattle.reader.proofs.Productions.{condition_takes}
use Rattle.reader.proofs.Lists.{starts_reading, stops_reading, shorter, goes_on_reading, ends_reading}
use Rattle.reader.proofs.parser.conditions.Goals as goal

pub loop-conditions-init : goal.loop-conditions-init
loop-conditions-init c = rw c.new-conditions.ensures.items (starts_reading condition_at (key word.And) _)

pub returns-in_err-condition : goal.returns-in_err-condition
returns-in_err-condition c =
    let p = err_from_is_err_and c.from_residual.result c.from_residual.ensures.1 in
    rw (p.1, p.2) (stops_reading c.loop-conditions.invariant c.in_err-condition.field-0.0.rule c.in_err-condition.ensures)

pub returns-then-not-eat_keyword : goal.returns-then-not-eat_keyword
returns-then-not-eat_keyword c =
    let items : conditions_tree c.push.new.self ≡ map condition_tree c.loop-conditions.conditions.items ++ condition_tree c.in_ok-condition.field-0 ∷ [] = rw c.in_ok-push.ensures.items (map_push condition_tree _ _) in
    rw items (ends_reading c.loop-conditions.invariant c.in_ok-condition.ensures (ate _ _ c.eat_keyword.ensures.found c.eat_keyword.ensures.rest c.if-not-eat_keyword.true))

pub loop-conditions-smaller : goal.loop-conditions-smaller
loop-conditions-smaller c = shorter condition_text condition_takes _ c.in_ok-condition.ensures (ate _ _ c.eat_keyword.ensures.found c.eat_keyword.ensures.rest c.if-not-eat_keyword.false)

pub loop-conditions-preserved : goal.loop-conditions-preserved
loop-conditions-preserved c =
    let items : conditions_tree c.push.new.self ≡ map condition_tree c.loop-conditions.conditions.items ++ condition_tree c.in_ok-condition.field-0 ∷ [] = rw c.in_ok-push.ensures.items (map_push condition_tree _ _) in
    rw items (goes_on_reading c.loop-conditions.invariant condition_text condition_takes c.in_ok-condition.ensures (ate _ _ c.eat_keyword.ensures.found c.eat_keyword.ensures.rest c.if-not-eat_keyword.false))

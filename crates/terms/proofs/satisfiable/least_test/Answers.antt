-- Why `satisfiable::least_test` meets its contract.
use Rattle.std.proofs.Common.{◌≡◌, Option, IfSome, IfNone}
use Rattle.std.proofs.lemmas.Result.{IfOk-weaker}
use Rattle.terms.specs.declared.value.Value.{Value}
use Rattle.terms.specs.TestValues.{IsLeastTest}
use Rattle.terms.specs.Search.{HasNoTest}
use Rattle.terms.proofs.SearchLaws.{found_by, some_found, none_found}
use Rattle.terms.proofs.satisfiable.least_test.Goals as goal

pub returns-clause-some : goal.returns-clause-some
returns-clause-some c =
    let kind = c.args.kind in
    let conds = c.args.conds.now in
    let col = c.args.col in
    IfOk-weaker c.search.result (λ (found : Option Value). found ≡ found_by kind conds col) (λ (found : Option Value). IfSome found (IsLeastTest kind conds col)) (some_found kind conds col) c.search.ensures

pub returns-clause-none : goal.returns-clause-none
returns-clause-none c =
    let kind = c.args.kind in
    let conds = c.args.conds.now in
    let col = c.args.col in
    IfOk-weaker c.search.result (λ (found : Option Value). found ≡ found_by kind conds col) (λ (found : Option Value). IfNone found (HasNoTest kind conds col)) (none_found kind conds col) c.search.ensures

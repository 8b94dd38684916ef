-- Why `cond::Conds::satisfiable` meets its contract.
use Rattle.std.proofs.Common.{◌≡◌, true, List, subst}
use Rattle.terms.specs.declared.cond.Cond.{Cond}
use Rattle.terms.specs.declared.value.Value.{Value}
use Rattle.terms.specs.Row.{FitsKinds}
use Rattle.terms.specs.Cond.{conds_hold}
use Rattle.terms.specs.TestValues.{HasLeastTests}
use Rattle.terms.specs.Search.{AreLeast, SomeHasNoTest}
use Rattle.terms.proofs.LeastRow.{fits_kinds, all_hold, has_least_tests, none_holds, of_found, of_none}
use Rattle.terms.proofs.cond.Conds.satisfiable.Goals as goal

pub returns-clause-fits : goal.returns-clause-fits
returns-clause-fits c =
    let kinds = c.args.kinds.now in
    let conds = c.args.self.now in
    let Least : List Cond → List Value → Type 0 = λ some row. AreLeast some 0 kinds row in
    of_found c.least_row.result (Least c.as_slice.result.now) (FitsKinds kinds)
    (λ row least. fits_kinds kinds conds row c.requires (subst (λ (some : List Cond). Least some row) c.as_slice.ensures least))
    c.least_row.ensures.some

pub returns-clause-holds : goal.returns-clause-holds
returns-clause-holds c =
    let kinds = c.args.kinds.now in
    let conds = c.args.self.now in
    let Least : List Cond → List Value → Type 0 = λ some row. AreLeast some 0 kinds row in
    of_found c.least_row.result (Least c.as_slice.result.now) (λ row. conds_hold conds row ≡ true)
    (λ row least. all_hold kinds conds row c.requires (subst (λ (some : List Cond). Least some row) c.as_slice.ensures least))
    c.least_row.ensures.some

pub returns-clause-least : goal.returns-clause-least
returns-clause-least c =
    let kinds = c.args.kinds.now in
    let conds = c.args.self.now in
    let Least : List Cond → List Value → Type 0 = λ some row. AreLeast some 0 kinds row in
    of_found c.least_row.result (Least c.as_slice.result.now) (HasLeastTests kinds conds)
    (λ row least. has_least_tests kinds conds row (subst (λ (some : List Cond). Least some row) c.as_slice.ensures least))
    c.least_row.ensures.some

pub returns-clause-none : goal.returns-clause-none
returns-clause-none c =
    let kinds = c.args.kinds.now in
    let conds = c.args.self.now in
    of_none c.least_row.result (SomeHasNoTest kinds c.as_slice.result.now) ((row : List Value) → FitsKinds kinds row → conds_hold conds row ≡ true → ⊥)
    (λ none. none_holds kinds conds c.requires (subst (SomeHasNoTest kinds) c.as_slice.ensures none))
    c.least_row.ensures.none

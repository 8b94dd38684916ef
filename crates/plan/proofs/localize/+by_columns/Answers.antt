-- Why `localize::by_columns` meets its contract.
use Rattle.std.proofs.Common.{rules, ◌≡◌, ℕ, ◌==◌, true, false, List, ◌∷◌, filter, length, ap, sym, ◌∙◌, subst, arith}
use Rattle.plan.specs.declared.plan.Plan.{Plan}
use Rattle.plan.specs.Located.{IsByColumns, apart, covers, together, united}
use Rattle.plan.specs.Shape.{KeyJoin, shape}
use Rattle.plan.proofs.GroupedColumns.{empty_is, fewer, more_groups, not_empty, one_group}
use Rattle.plan.proofs.localize.+by_columns.Goals as goal

pub by_columns-requires : goal.by_columns-requires
by_columns-requires t c =
    let less =
    fewer (apart c.args.need.now c.args.leaves.now c.in-Some.first.now) c.args.columns.now c.in-Some.rest.now c.as_slice-2.result.now c.in-Some.first.now c.in-Some.ensures.cases.0 (c.as_slice-2.ensures.value ∙ c.in_ok-others.ensures) in
    let measure = c.decreases in
    (omega (arith, less, measure), tt)

pub returns-then-is_empty : goal.returns-then-is_empty
returns-then-is_empty t c =
    let need = c.args.need.now in
    let leaves = c.args.leaves.now in
    let first = c.in-Some.first.now in
    let rest = c.in-Some.rest.now in
    let plan = shape c.in_ok-one.one in
    let none : (length c.in_ok-others.others.items == 0) ≡ true = search rules in
    let Columns : List ℕ → Type 0 = λ columns. IsByColumns need leaves columns plan in
    subst Columns (sym c.in-Some.ensures.cases.0)
    (one_group need leaves first rest c.in_ok-others.others.items plan c.in_ok-others.ensures (empty_is c.in_ok-others.others.items none)
    (c.in_ok-one.ensures ∙ ap (λ (columns : List ℕ). covers need columns leaves) (c.as_slice.ensures.value ∙ c.in_ok-group.ensures)))

pub returns : goal.returns
returns t c =
    let need = c.args.need.now in
    let leaves = c.args.leaves.now in
    let first = c.in-Some.first.now in
    let rest = c.in-Some.rest.now in
    let others = c.in_ok-others.others.items in
    let one = shape c.in_ok-new.field-0.value in
    let other = shape c.in_ok-new-2.field-0.value in
    let here : united one ≡ covers need (first ∷ filter (together need leaves first) rest) leaves =
    ap (λ (plan : Plan). united (shape plan)) c.in_ok-new.ensures.ok ∙ c.in_ok-one.ensures ∙ ap (λ (columns : List ℕ). covers need columns leaves) (c.as_slice.ensures.value ∙ c.in_ok-group.ensures) in
    let Others : Plan → Type 0 = λ plan. IsByColumns need leaves others (shape plan) in
    let Of : List ℕ → Type 0 = λ columns. IsByColumns need leaves columns (shape c.in_ok-others-2.others) in
    let beyond = subst Others (sym c.in_ok-new-2.ensures.ok) (subst Of c.as_slice-2.ensures.value c.in_ok-others-2.ensures) in
    let some : (length others == 0) ≡ false = search rules in
    let Columns : List ℕ → Type 0 = λ columns. IsByColumns need leaves columns (KeyJoin one other) in
    subst Columns (sym c.in-Some.ensures.cases.0) (more_groups need leaves first rest others one other c.in_ok-others.ensures (not_empty others some) here beyond)

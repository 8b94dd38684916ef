-- Rows by whether they meet conditions.
use Rattle.std.specs.Prelude.{ℕ, List, filter, not, count_by}
use Rattle.terms.specs.declared.value.Value.{Value}
use Rattle.terms.specs.declared.cond.Cond.{Cond}
use Rattle.terms.specs.Cond.{conds_hold}

-- how many rows meet all conditions
abbrev pub matched : List Cond → List (List Value) → ℕ
matched conds rows = count_by (conds_hold conds) rows

-- the rows that don't
abbrev pub unmatched : List Cond → List (List Value) → List (List Value)
unmatched conds rows = filter (λ row. not (conds_hold conds row)) rows

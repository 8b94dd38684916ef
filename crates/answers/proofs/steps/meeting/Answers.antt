-- Why `meeting` meets its contract.
use Rattle.std.proofs.Common.{arith, rules, ◌≡◌, List, [], ◌∷◌, filter, ap, refl, sym, ◌∙◌}
use Rattle.std.proofs.lemmas.List.{nil_from_length}
use Rattle.std.proofs.lemmas.Bool.Decides.{nat_tests}
use Rattle.std.proofs.lemmas.Fn.{filter_same}
use Rattle.terms.specs.declared.cond.Cond.{Cond}
use Rattle.answers.specs.declared.joined.Column.{Column}
use Rattle.answers.specs.declared.joined.Joined.{Joined}
use Rattle.answers.specs.Laid.{laid_meets}
use Rattle.answers.proofs.steps.meeting.Goals as goal

-- each row meets no condition
all_meet : (columns : List Column) (rows : List Joined) → filter (laid_meets [] columns) rows ≡ rows
all_meet columns [] = refl
all_meet columns (row ∷ rows) = ap (λ (rest : List Joined). row ∷ rest) (all_meet columns rows)

pub returns-then-is_empty : goal.returns-then-is_empty
returns-then-is_empty c =
    let none : c.args.conds.now ≡ [] = nil_from_length c.args.conds.now (grind (arith, nat_tests)) in
    sym (ap (λ (conds : List Cond). filter (laid_meets conds c.args.columns.now) c.args.rows.items) none ∙ all_meet c.args.columns.now c.args.rows.items)

pub returns : goal.returns
returns c = filter_same _ (laid_meets c.args.conds.now c.args.columns.now) _ (λ x b f' k. search rules) _ _ c.retain.ensures.filtered

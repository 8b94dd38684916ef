-- Why `is_next` meets its contract.
use Rattle.std.proofs.Common.{rules, ◌≡◌}
use Rattle.desk.proofs.NextNames.{one_name}
use Rattle.desk.proofs.refragment.is_next.Goals as goal

pub returns-in-Some-changed-clause-no : goal.returns-in-Some-changed-clause-no
returns-in-Some-changed-clause-no c = λ apart. rw c.in-Some.is (λ next.
    let same = one_name _ _ _ _ c.in-Some-changed.ensures next in
    let other : c.in-Some-changed.name.now ≡ c.args.relation.now → ⊥ = search rules in
    absurd (other same))

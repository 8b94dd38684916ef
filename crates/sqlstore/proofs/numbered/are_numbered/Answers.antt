use Rattle.std.proofs.Common.{◌≡◌, true, rules, subst, inl, inr, arith}
use Rattle.std.proofs.lemmas.Bool.{cases_lt}
use Rattle.sqlstore.specs.Numbered.{IsNumberedAt}
use Rattle.sqlstore.proofs.numbered.are_numbered.Goals as goal

pub loop-at-preserved : goal.loop-at-preserved
loop-at-preserved c k low =
    let passed : c.is_numbered_at.result ≡ true = search rules in
    elim (cases_lt k c.loop-at.at) [
      | inl before ↦ c.loop-at.invariant k before
      | inr not_before ↦ subst (IsNumberedAt c.args.rows.now) (omega (arith, low, not_before)) (c.is_numbered_at.ensures.0 passed)
    ]

use mir.Syntax.{w64}
use mir.Val.{SFits}
use Rattle.std.proofs.Common.{ℤ, ◌-◌, T, Some, IfSome, IsTrue, drop, subst, sym, ◌∙◌, arith, rules}
use Rattle.std.proofs.lemmas.Int.{to_z-of_z}
use Rattle.std.specs.Ordering.{int_cmp, is_lt}
use Rattle.terms.specs.Row.{key_of}
use Rattle.sqlstore.proofs.Ascending.{IsLeast, rise_more, least_more}
use Rattle.sqlstore.proofs.Backward.{one_before}
use Rattle.sqlstore.proofs.listing.keys_rise.Goals as goal

pub loop-at-preserved : goal.loop-at-preserved
loop-at-preserved c =
    let parts = c.args.parts.now in
    let part = c.index-parts-at.result in
    let kept = c.loop-at.invariant in
    let is = one_before parts c.loop-at.at part (omega arith) kept.0 c.index-parts-at.is in
    let passed : IsTrue c.is_below.result = search rules in
    let under : IfSome c.loop-at.least (λ above. T (is_lt (int_cmp (key_of part) above))) = c.is_below.ensures passed in
    let fits : SFits w64 c.key.result = search rules in
    let read = to_z-of_z w64 c.key.result fits ∙ c.key.ensures in
    (omega arith, rise_more _ _ part _ is kept.1 kept.2 under, subst (λ (k : ℤ). IsLeast (Some k) (drop (c.loop-at.at - 1) parts)) (sym read) (least_more _ _ part _ is kept.2 under))

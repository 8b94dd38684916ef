-- Why `integer::magnitude` meets its contract.
use Rattle.std.proofs.Common.{◌≡◌, ℕ, ◌∙◌, ◌+◌, ◌*◌, ◌-◌, ◌^◌, min, get_or, ap}
use Rattle.reader.proofs.Digits.{magnitude_more}
use Rattle.reader.proofs.integer.magnitude.Goals as goal

pub loop-digit-preserved : goal.loop-digit-preserved
loop-digit-preserved c =
    let grown = magnitude_more c.args.digits.now c.loop-digit.digit-index c.loop-digit.magnitude c.requires c.loop-digit-test.true c.loop-digit.invariant in
    let product : c.saturating_mul.result ≡ min (c.loop-digit.magnitude * 10) (2 ^ 64 - 1) = c.saturating_mul.ensures in
    let units : c.from.result ≡ get_or c.args.digits.now c.loop-digit.digit-index 0 - 48 = c.from.ensures in
    let added : c.saturating_add-magnitude.result ≡ min (c.saturating_mul.result + c.from.result) (2 ^ 64 - 1) = c.saturating_add-magnitude.ensures in
    added ∙ ap (λ (n : ℕ). min (n + c.from.result) (2 ^ 64 - 1)) product ∙ ap (λ (n : ℕ). min (min (c.loop-digit.magnitude * 10) (2 ^ 64 - 1) + n) (2 ^ 64 - 1)) units ∙ grown

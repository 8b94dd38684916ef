-- Why `print::print_doubled` meets its contract.
use Rattle.std.proofs.Common.{◌≡◌, ◌<◌, length, ◌∷◌, [], ◌++◌, ◌==◌, ap, ◌∙◌, string_bytes, arith, rules}
use Rattle.std.specs.List.{position_or_len, before_first, after_first}
use Rattle.terms.specs.Print.{doubled}
use Rattle.terms.proofs.Doubled.{goes_on_doubled, ends_doubled}
use Rattle.terms.proofs.print.print_doubled.Goals as goal

pub loop-before-preserved : goal.loop-before-preserved
loop-before-preserved c =
    let cut : (c.in-Some.before.now ≡ before_first (λ b. b == 39) c.loop-before.rest.now) × (c.in-Some.behind.now ≡ after_first (λ b. b == 39) c.loop-before.rest.now) × (position_or_len (λ b. b == 39) c.loop-before.rest.now < length c.loop-before.rest.now) = c.in-Some.ensures.byte (omega arith) (λ w o found. found) in (
      search rules,
      ap (λ bytes. bytes ++ doubled c.in-Some.behind.now) (c.in_ok-push_str-2.ensures.bytes ∙ ap (λ bytes. bytes ++ 39 ∷ 39 ∷ []) c.in_ok-push_str.ensures.bytes)
          ∙ goes_on_doubled (string_bytes c.loop-before.out) c.loop-before.rest.now _ c.loop-before.invariant.1 c.in-Some.before.now c.in-Some.behind.now cut.2 cut.0 cut.1,
    )

pub returns : goal.returns
returns c =
    c.in_ok-push_str-3.ensures.bytes
    ∙ ends_doubled (string_bytes c.loop-before.out) c.loop-before.rest.now _ c.loop-before.invariant.1 (c.in_default.ensures.byte (omega arith) (λ w o found. found))

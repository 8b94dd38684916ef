-- Why `print_constant::write_doubled` meets its contract.
use Rattle.std.proofs.Common.{◌≡◌, ◌<◌, length, ◌∷◌, [], ◌++◌, ◌==◌, refl, arith, rules}
use Rattle.std.specs.List.{position_or_len, before_first, after_first}
use Rattle.std.specs.Fmt.{HasWritten}
use Rattle.std.proofs.Output.{has_written_append, has_written_of_eq, writes_in_calls_nil}
use Rattle.reader.proofs.Doubled.{goes_on_doubled, ends_doubled}
use Rattle.reader.proofs.print_constant.write_doubled.Goals as goal

pub loop-before-init : goal.loop-before-init
loop-before-init g c = (search rules, λ plain. ([], record { wrote = writes_in_calls_nil _ _; plain = plain }, refl))

pub loop-before-preserved : goal.loop-before-preserved
loop-before-preserved g c =
    let cut : (c.in-Some.before.now ≡ before_first (λ b. b == 39) c.loop-before.rest.now) × (c.in-Some.behind.now ≡ after_first (λ b. b == 39) c.loop-before.rest.now) × (position_or_len (λ b. b == 39) c.loop-before.rest.now < length c.loop-before.rest.now) = c.in-Some.ensures.byte (omega arith) (λ w o found. found) in (
      search rules,
      λ plain.
          let so_far = c.loop-before.invariant.1 plain in
          let front : HasWritten g.W.Write.write_str_gives c.args.f.now (so_far.0 ++ c.in-Some.before.now) c.write_str.new.self = has_written_append _ _ _ _ _ _ so_far.1 (search rules) in (
            (so_far.0 ++ c.in-Some.before.now) ++ 39 ∷ 39 ∷ [],
            has_written_append _ _ _ _ _ _ front (search rules),
            goes_on_doubled so_far.0 c.loop-before.rest.now _ so_far.2 _ _ cut.2 cut.0 cut.1,
          ),
    )

pub returns : goal.returns
returns g c =
    λ plain ok.
    let so_far = c.loop-before.invariant.1 plain in
    has_written_of_eq _ _ _ _ _ (ends_doubled so_far.0 c.loop-before.rest.now _ so_far.2 (c.in_default.ensures.byte (omega arith) (λ w o found. found)))
    (has_written_append _ _ _ _ _ _ so_far.1 (search rules))

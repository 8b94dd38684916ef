-- Why `text::unquoted` meets its contract.
use Rattle.std.proofs.Common.{◌≡◌, ℕ, List, ◌∷◌, [], ◌++◌, ap, ◌∙◌}
use Rattle.reader.specs.Reading.{unquoted}
use Rattle.reader.proofs.Quotes.{with_front, goes_on_behind, goes_on_behind_two, ends_at, runs_out, is_second, is_single}
use Rattle.reader.proofs.text.unquoted.Goals as goal
use Rattle.reader.proofs.text.unquoted.Goals.{then-byte-eq-QUOTE+in-Some-strip_prefix, else-byte-eq-QUOTE}

pub loop-byte-preserved : goal.loop-byte-preserved
loop-byte-preserved c =
    let pushed : c.push.new.self.items ≡ c.loop-byte.value.items ++ c.in-Some.field-0-0.now ∷ [] = c.in_ok-push.ensures.items in
    ap (λ (v : List ℕ). with_front v (unquoted c.if-byte-eq-QUOTE.rest.now)) pushed ∙ elim c.if-byte-eq-QUOTE.branch [
      | then-byte-eq-QUOTE+in-Some-strip_prefix w ↦
          let second = is_second c.in-Some.behind.now w.in-Some-strip_prefix.others.now w.in-Some-strip_prefix.ensures.cases.0 w.in-Some-strip_prefix.ensures.cases.1 in
          ap (λ r. with_front (c.loop-byte.value.items ++ c.in-Some.field-0-0.now ∷ []) (unquoted r.now)) w.rest-is
          ∙ goes_on_behind_two _ _ _ _ _ c.in-Some.ensures.cases.0 c.loop-byte.invariant w.in-Some-strip_prefix.others.now w.if-byte-eq-QUOTE.true second
      | else-byte-eq-QUOTE w ↦
          ap (λ r. with_front (c.loop-byte.value.items ++ c.in-Some.field-0-0.now ∷ []) (unquoted r.now)) w.rest-is
          ∙ goes_on_behind _ _ _ _ _ c.in-Some.ensures.cases.0 c.loop-byte.invariant w.if-byte-eq-QUOTE.false
    ]

pub returns : goal.returns
returns c = runs_out c.loop-byte.value.items c.loop-byte.rest.now _ c.in_default.ensures.cases c.loop-byte.invariant

pub returns-in_default-strip_prefix : goal.returns-in_default-strip_prefix
returns-in_default-strip_prefix c = ends_at _ _ _ _ _ c.in-Some.ensures.cases.0 c.loop-byte.invariant c.if-byte-eq-QUOTE.true (is_single c.in-Some.behind.now c.in_default-strip_prefix.ensures.cases)

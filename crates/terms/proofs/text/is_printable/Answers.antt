-- What `all` answers is whether every character is printable.
use Rattle.std.proofs.Common.{ℕ, ◌<◌, length, MatchBool, arith, tests}
use Rattle.std.specs.List.{HoldsAt, AllWithin}
use Rattle.std.specs.Str.{chars}
use Rattle.std.proofs.lemmas.Iterator.{cases_from_all, YieldsList-from_chars}
use Rattle.std.proofs.lemmas.Iterator.Search.{true_from_All}
use Rattle.std.proofs.lemmas.List.Elements.{All-from_all_within}
use Rattle.std.proofs.lemmas.Bool.Decides.{when_true}
use Rattle.terms.specs.Text.{IsPrintable}
use Rattle.terms.proofs.text.is_printable.Goals as goal

pub returns : goal.returns
returns c =
    let text = c.args.text.now in
    let Control : ℕ → Type 0 = λ char. ¬ (IsPrintable char) in
    let cases : MatchBool c.all.result (AllWithin IsPrintable (chars text) 0 (length (chars text))) ((k : ℕ) × (k < length (chars text)) × HoldsAt Control (chars text) k) =
    cases_from_all _ _ _ IsPrintable Control c.all.ensures.ran (YieldsList-from_chars text c.utf8.text cc) (λ x q k. grind (arith, tests)) (λ x q k. grind (arith, tests)) in (
      λ yes. All-from_all_within IsPrintable (chars text) (when_true _ _ yes cases),
      λ all. true_from_All IsPrintable Control c.all.result (chars text) (λ x holds fails. fails holds) cases all,
    )

use Rattle.std.proofs.Common.{ap, sym, ◌∙◌}
use Rattle.std.specs.Char.{is_ascii_digit}
use Rattle.std.specs.List.{list_all}
use Rattle.lines.proofs.PlayScriptLemmas.{number_of-parsed}
use Rattle.lines.proofs.play_script.number.Goals as goal

pub returns-then-are_digits : goal.returns-then-are_digits
returns-then-are_digits c =
    c.ok.ensures.value ∙ number_of-parsed c.args.word.now c.parse.result c.parse.ensures.value.0
    (ap (list_all is_ascii_digit) (sym c.as_bytes.ensures.value) ∙ sym c.are_digits.ensures ∙ c.if-are_digits.true)

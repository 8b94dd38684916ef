use Rattle.std.proofs.Common.{ap, option_map, ◌∙◌}
use Rattle.lines.specs.Usage.{is_set}
use Rattle.lines.proofs.UsageLemmas.{memory_ran_out, no_script_named, two_ways}
use Rattle.lines.proofs.usage.solo_given.Goals as goal

pub returns-in_err-error-clause-misuse : goal.returns-in_err-error-clause-misuse
returns-in_err-error-clause-misuse c = memory_ran_out _ _ c.from_residual.result c.from_residual.ensures.1

pub returns-in_default-clause-misuse : goal.returns-in_default-clause-misuse
returns-in_default-clause-misuse c = no_script_named _ _ _ _ _ c.in_ok-error.ensures.kind (c.is_set-interactive.ensures ∙ ap is_set c.get_str.ensures) c.script_given.ensures (ap (option_map (λ script. script.now)) c.in_default.is)

pub returns-in_err-error-2-clause-misuse : goal.returns-in_err-error-2-clause-misuse
returns-in_err-error-2-clause-misuse c = memory_ran_out _ _ c.from_residual-in_err-error-2.result c.from_residual-in_err-error-2.ensures.1

pub returns-in_default-mode_given-clause-misuse : goal.returns-in_default-mode_given-clause-misuse
returns-in_default-mode_given-clause-misuse c = two_ways _ _ _ _ c.in_ok-error-2.ensures.kind c.mode_given.ensures.mode c.in_default-mode_given.is

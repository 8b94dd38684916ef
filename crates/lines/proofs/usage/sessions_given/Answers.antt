use Rattle.lines.proofs.UsageLemmas.{memory_ran_out_of_run, no_retries}
use Rattle.lines.proofs.usage.sessions_given.Goals as goal

pub returns-in_err-no_number-clause-misuse : goal.returns-in_err-no_number-clause-misuse
returns-in_err-no_number-clause-misuse c = memory_ran_out_of_run _ c.from_residual.result c.from_residual.ensures.1

pub returns-in_default-clause-misuse : goal.returns-in_default-clause-misuse
returns-in_default-clause-misuse c = no_retries _ _ _ _ c.in_ok-no_number.ensures c.get_str-word.ensures c.retry_given.ensures c.in_default.is

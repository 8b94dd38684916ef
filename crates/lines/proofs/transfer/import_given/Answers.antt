use Rattle.lines.proofs.UsageLemmas.{memory_ran_out_of_import, no_rows_counted}
use Rattle.lines.proofs.transfer.import_given.Goals as goal

pub returns-in_err-no_count-clause-misuse : goal.returns-in_err-no_count-clause-misuse
returns-in_err-no_count-clause-misuse c = memory_ran_out_of_import _ c.from_residual.result c.from_residual.ensures.1

pub returns-in_default-clause-misuse : goal.returns-in_default-clause-misuse
returns-in_default-clause-misuse c = no_rows_counted _ _ _ _ c.in_ok-no_count.ensures c.get_str-word.ensures c.every_given.ensures c.in_default.is

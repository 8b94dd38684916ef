use Rattle.std.proofs.Common.{arith}
use Rattle.lines.proofs.NextFilesLemmas.{memory_ran_out_of_files, sixteen_or_more}
use Rattle.lines.proofs.next_files.next_given.Goals as goal

pub returns-in_err-files-clause-misuse : goal.returns-in_err-files-clause-misuse
returns-in_err-files-clause-misuse c = memory_ran_out_of_files _ c.from_residual.result c.from_residual.ensures.1

pub returns-in_err-error-clause-misuse : goal.returns-in_err-error-clause-misuse
returns-in_err-error-clause-misuse c = memory_ran_out_of_files _ c.from_residual-in_err-error.result c.from_residual-in_err-error.ensures.1

pub returns-then-len-gt-NEXT_LIMIT-clause-misuse : goal.returns-then-len-gt-NEXT_LIMIT-clause-misuse
returns-then-len-gt-NEXT_LIMIT-clause-misuse c = sixteen_or_more _ _ _ _ c.in_ok-error.ensures.kind c.in_ok-files.ensures (omega (arith, c.len.ensures, c.in_ok-files.files.ok.0)) c.if-len-gt-NEXT_LIMIT.true

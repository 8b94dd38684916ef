use Rattle.std.proofs.Common.{arith}
use Rattle.std.proofs.lemmas.Grind.{common_steps}
use Rattle.runs.proofs.RunTextLemmas.{denied_text-other}
use Rattle.runs.proofs.run_text.denied_text.Goals as goal

pub returns-in_ok-format-in_default : goal.returns-in_ok-format-in_default
returns-in_ok-format-in_default c =
    let other = denied_text-other c.args.fault c.in_default.not-Aborted c.in_default.not-Read in
    grind (arith, common_steps, other)

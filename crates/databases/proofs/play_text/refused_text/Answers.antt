use Rattle.std.proofs.Common.{arith}
use Rattle.std.proofs.lemmas.Grind.{common_steps}
use Rattle.databases.proofs.PlayTextLemmas.{refused_text-other}
use Rattle.databases.proofs.play_text.refused_text.Goals as goal

pub returns-in_ok-format-in_default : goal.returns-in_ok-format-in_default
returns-in_ok-format-in_default c =
    let other = refused_text-other c.args.refusal c.in_default.not-Read in
    grind (arith, common_steps, other)

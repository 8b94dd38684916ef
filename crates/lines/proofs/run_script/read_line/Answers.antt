use Rattle.std.proofs.Common.{arith}
use Rattle.std.proofs.lemmas.Grind.{common_steps}
use Rattle.lines.proofs.RunScriptLemmas.{reading_of-bytes, reading_of-text}
use Rattle.lines.proofs.run_script.read_line.Goals as goal

pub returns-in_default : goal.returns-in_default
returns-in_default c = let e = reading_of-bytes c.args.line.now c.in_default.ensures.cases.0 in cc

pub returns-in-Some : goal.returns-in-Some
returns-in-Some c = let e = reading_of-text c.args.line.now c.in-Ok.ensures.cases.1 in grind (arith, common_steps, e)

pub returns-in-None : goal.returns-in-None
returns-in-None c = let e = reading_of-text c.args.line.now c.in-Ok.ensures.cases.1 in grind (arith, common_steps, e)
